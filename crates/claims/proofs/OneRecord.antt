-- The history says everything: there is one valid record that agrees with it. Assumes nothing.
use Rattle.std.specs.Prelude.{Option}
use mathlib.Core.List.{List, [], ◌∷◌}
use mathlib.Core.Logic.{inl, inr}
use mathlib.Core.Path.{◌≡◌, refl, sym, ap, ap₂, ◌∙◌, subst}
use Prim.Native.Nat.{ℕ, ◌≤◌}
use native.Mathlib.Omega.{arith}
use lib.ListN.{length}
use Rattle.beacon.specs.Beacons.{Told}
use Rattle.element.specs.declared.quiet.Quiet.{Quiet}
use Rattle.schedule.specs.declared.Schedule.{Schedule}
use Rattle.station.specs.Stations.{in_use, slotted}
use Rattle.station.proofs.InUse.{in_use_length, in_use_slotted}
use Rattle.station.specs.Validity.{Valid}
use Rattle.station.specs.declared.Station.{Station}
use Rattle.capture_record.specs.declared.entry.Settings.{Settings}
use Rattle.claims.specs.Histories.{History, Listener, listener_from}
use Rattle.claims.specs.Records.{Agreeing, AgreesFrom, Agrees}
use Rattle.claims.specs.Standing.{Sets, SetsEach, SchedulesAre, UntilIs}
use Rattle.claims.proofs.CountingTbtts.{one_moment}
use Rattle.claims.proofs.Following.{Sound}
use Rattle.claims.proofs.OneSaying.{counts_one, channel_one, power_one, pending_one}
use Rattle.claims.proofs.StationFollows.{sound}
use Rattle.element.specs.declared.power_constraint.PowerConstraint.{PowerConstraint}
use Rattle.pending.specs.declared.Switch.{Switch}

abbrev schedule_of : ℕ → ℕ → ℕ → Schedule
schedule_of start period duration = record { start = start; period = period; duration = duration }

same_schedule : (x y : Schedule) → x.start ≡ y.start → x.period ≡ y.period → x.duration ≡ y.duration → x ≡ y
same_schedule x y a b c =
    let same : schedule_of x.start x.period x.duration ≡ schedule_of y.start y.period y.duration = rw (a, b, c) in
    same

abbrev station_of : List ℕ → List ℕ → ℕ → ℕ → ℕ → Option PowerConstraint → Option Switch → List Schedule → ℕ → ℕ → Station
station_of own ap' interval clock channel power pending schedules count until =
    record {
      own = own;
      ap = ap';
      interval = interval;
      clock = clock;
      channel = channel;
      power = power;
      pending = pending;
      schedules = schedules;
      count = count;
      until = until;
    }

-- the same in all but the addresses
pub record Alike (r r' : Station) : Type 0 where
  pub interval : r.interval ≡ r'.interval
  pub clock : r.clock ≡ r'.clock
  pub channel : r.channel ≡ r'.channel
  pub power : r.power ≡ r'.power
  pub pending : r.pending ≡ r'.pending
  pub schedules : r.schedules ≡ r'.schedules
  pub count : r.count ≡ r'.count
  pub until : r.until ≡ r'.until

module _ (l : Listener) (sound : Sound l) (pos : 1 ≤ l.interval) where
  sets_one : (t : ℕ) (q : Quiet) (x y : Schedule) → Sets l t q x → Sets l t q y → x ≡ y
  sets_one t q x y v w =
      same_schedule x y
      (omega (arith, v.starts, w.starts, one_moment l.interval pos t q.count v.tbtt w.tbtt v.counted w.counted))
      (v.repeats ∙ sym w.repeats)
      (v.lasts ∙ sym w.lasts)

  each_one : (t : ℕ) (qs : List Quiet) (xs ys : List Schedule) → SetsEach l t qs xs → SetsEach l t qs ys → xs ≡ ys
  each_one t [] [] [] v w = refl
  each_one t [] [] (y ∷ ys) v w = absurd w
  each_one t [] (x ∷ xs) ys v w = absurd v
  each_one t (q ∷ qs) [] ys v w = absurd v
  each_one t (q ∷ qs) (x ∷ xs) [] v w = absurd w
  each_one t (q ∷ qs) (x ∷ xs) (y ∷ ys) v w = ap₂ (λ z zs. z ∷ zs) (sets_one t q x y v.0 w.0) (each_one t qs xs ys v.1 w.1)

  module _ (h : History) where
    schedules_one : (xs ys : List Schedule) → SchedulesAre l h xs → SchedulesAre l h ys → xs ≡ ys
    schedules_one xs ys (inl (f, e)) (inl (g, e')) = e ∙ sym e'
    schedules_one xs ys (inl (f, e)) (inr (said, t, counts, each)) = absurd (f said t counts)
    schedules_one xs ys (inr (said, t, counts, each)) (inl (g, e)) = absurd (g said t counts)
    schedules_one xs ys (inr (said, t, counts, each)) (inr (said', t', counts', each')) =
        each_one t' said'.quiets xs ys
        (subst (λ (z : Told × ℕ). SetsEach l z.1 z.0.quiets xs) (counts_one l sound pos h (said, t) (said', t') counts counts') each)
        each'

    until_one : (m n : ℕ) → UntilIs l h m → UntilIs l h n → m ≡ n
    until_one m n (f, inl z) (g, inl z') = z ∙ sym z'
    until_one m n (f, inl z) (g, inr y) = omega (arith, z, f n y)
    until_one m n (f, inr x) (g, inl z') = omega (arith, z', g m x)
    until_one m n (f, inr x) (g, inr y) = omega (arith, f n y, g m x)

    -- whoever listens, two valid records that agree with one history are alike
    pub alike : (r r' : Station) → Valid r → Valid r' → Agreeing l h r → Agreeing l h r' → Alike r r'
    alike r r' v v' a a' =
        let used = schedules_one (in_use r) (in_use r') a.schedules_told a'.schedules_told in
        record {
          interval = a.same_interval ∙ sym a'.same_interval;
          clock = a.same_clock ∙ sym a'.same_clock;
          channel = channel_one l sound pos h r.channel r'.channel a.channel_told a'.channel_told;
          power = power_one l sound pos h r.power r'.power a.power_told_lem a'.power_told_lem;
          pending = pending_one l sound pos h r.pending r'.pending a.pending_told a'.pending_told;
          schedules = sym (in_use_slotted r v) ∙ ap slotted used ∙ in_use_slotted r' v';
          count = sym (in_use_length r v) ∙ ap (λ (xs : List Schedule). length xs) used ∙ in_use_length r' v';
          until = until_one r.until r'.until a.until_told a'.until_told;
        }

-- two records alike, with the same addresses, are one
pub same_station : (r r' : Station) → r.own ≡ r'.own → r.ap ≡ r'.ap → Alike r r' → r ≡ r'
same_station r r' own ap' w =
    let same :
    station_of r.own r.ap r.interval r.clock r.channel r.power r.pending r.schedules r.count r.until
    ≡ station_of r'.own r'.ap r'.interval r'.clock r'.channel r'.power r'.pending r'.schedules r'.count r'.until =
    rw (own, ap', w.interval, w.clock, w.channel, w.power, w.pending, w.schedules, w.count, w.until) in
    same

-- the record of the station of 01, from any beginning
module _ (t : ℕ) (s : Settings) (pos : 1 ≤ s.interval) (h : History) where
  pub one_record_from : (r r' : Station) → Valid r → Valid r' → AgreesFrom t s h r → AgreesFrom t s h r' → r ≡ r'
  one_record_from r r' v v' a a' =
      same_station r r' (a.same_own ∙ sym a'.same_own) (a.same_ap ∙ sym a'.same_ap)
      (alike (listener_from t s) (sound t s) pos h r r' v v' a.as_heard a'.as_heard)

-- and so from its start
module _ (s : Settings) (pos : 1 ≤ s.interval) (h : History) where
  pub one_record : (r r' : Station) → Valid r → Valid r' → Agrees s h r → Agrees s h r' → r ≡ r'
  one_record = one_record_from 0 s pos h
