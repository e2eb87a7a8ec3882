-- An accepted start gives a valid station, and a step of the clock and an accepted frame keep it. Assumes nothing.
use Rattle.std.specs.Prelude.{Ok, Err, Some, None, Option}
use mathlib.Core.Bool.{Bool, true, false, ◌||◌}
use mathlib.Core.List.{List, []}
use mathlib.Core.Logic.{⊎_elim}
use mathlib.Core.Path.{◌≡◌, refl, sym, ap, ◌∙◌, subst}
use Prim.Native.Nat.{ℕ, suc, ◌+◌, ◌-◌, ◌*◌, ◌/◌, ◌<◌, ◌≤◌}
use native.Mathlib.Nat.{lt-div-mul-add, mul-le-mul_right, suc-mul}
use native.Mathlib.Omega.{arith}
use borrow.Author.Tests.{ltb-true, ltb-false, eqb-false}
use lib.Dec.{ltb, eqb, lit≤}
use lib.ListN.{length, drop, replicate, length-map, length-append, length-replicate}
use lib.Seq.{drop_at}
use Rattle.answer.proofs.Booleans.{either, neither}
use Rattle.answer.specs.Checks.{Outcome, pick, checked, and_then}
use Rattle.answer.specs.declared.Refusal.{Refusal}
use Rattle.beacon.specs.Allowed.{SwitchAllowed, Allowed}
use Rattle.beacon.specs.Beacons.{quiet_limit, Told, tells}
use Rattle.channel.specs.Centres.{highest}
use Rattle.element.specs.ChannelSwitch.{switch_forbids}
use Rattle.element.specs.declared.channel_switch.ChannelSwitch.{ChannelSwitch}
use Rattle.element.specs.declared.quiet.Quiet.{Quiet}
use Rattle.frame.specs.Allowed.{FrameAllowed}
use Rattle.frame.specs.declared.Frame.{Frame}
use Rattle.octets.specs.Numbers.{bit, octet}
use Rattle.pending.specs.Waiting.{pending_by}
use Rattle.schedule.specs.Schedules.{set_by}
use Rattle.schedule.specs.declared.Schedule.{Schedule}
use Rattle.station.specs.Clock.{stepped, switched, reached, clock_advance, advanced_to, advance_means, advance_of}
use Rattle.station.specs.Starting.{start_forbids}
use Rattle.station.specs.Stations.{clock_limit, unit_limit, no_schedule, fresh, kept, with_clock, with_channel, with_power, with_pending, with_schedules, with_until}
use Rattle.station.specs.Taking.{passed, schedules_of, outlasting, rescheduled, constrained, announced, announced_if, informed, changed_by}
use Rattle.station.specs.Validity.{PendingFits, Valid}
use Rattle.station.specs.declared.Station.{Station}
use Rattle.station.specs.declared.clock.Advanced.{Advanced}
use Rattle.element.specs.declared.power_constraint.PowerConstraint.{PowerConstraint}
use Rattle.pending.specs.declared.Switch.{Switch}

pub valid_fresh : (own ap : List ℕ) (b channel : ℕ) → start_forbids own ap b channel ≡ false → Valid (fresh own ap b channel)
valid_fresh own ap b channel e =
    let w = neither (eqb b 0) _ e in
    let x = neither (ltb highest channel) _ w.1 in
    let y = neither (bit 0 (octet 0 own)) _ x.1 in
    record {
      own_single = y.0;
      ap_single = y.1;
      interval_positive = omega (arith, eqb-false b 0 w.0);
      channel_known = ltb-false highest channel x.0;
      pending_fits = tt;
      slots = refl;
      few = lit≤ tt;
      rest_blank = refl;
    }

-- ---- something changed of a valid station

module _ (s : Station) (v : Valid s) where
  valid_kept : {clock channel count until : ℕ} {power : Option PowerConstraint} {pending : Option Switch} {xs : List Schedule}
      → channel ≤ highest → PendingFits clock pending → length xs ≡ quiet_limit → count ≤ quiet_limit
      → drop count xs ≡ replicate (quiet_limit - count) no_schedule
      → Valid (kept s clock channel power pending xs count until)
  valid_kept h fits slots few blank =
      record {
        own_single = v.own_single;
        ap_single = v.ap_single;
        interval_positive = v.interval_positive;
        channel_known = h;
        pending_fits = fits;
        slots = slots;
        few = few;
        rest_blank = blank;
      }

  valid_clock : (t : ℕ) → PendingFits t s.pending → Valid (with_clock s t)
  valid_clock t p = valid_kept v.channel_known p v.slots v.few v.rest_blank

  valid_channel : (channel : ℕ) → channel ≤ highest → Valid (with_channel s channel)
  valid_channel channel h = valid_kept h v.pending_fits v.slots v.few v.rest_blank

  valid_power : (p : Option PowerConstraint) → Valid (with_power s p)
  valid_power p = valid_kept v.channel_known v.pending_fits v.slots v.few v.rest_blank

  valid_pending : (p : Option Switch) → PendingFits s.clock p → Valid (with_pending s p)
  valid_pending p f = valid_kept v.channel_known f v.slots v.few v.rest_blank

  valid_schedules : (xs : List Schedule) → length xs ≤ quiet_limit → Valid (with_schedules s xs)
  valid_schedules xs h =
      valid_kept v.channel_known v.pending_fits
      (length-append xs (replicate (quiet_limit - length xs) no_schedule) ∙ omega (arith, length-replicate (quiet_limit - length xs) no_schedule))
      h (drop_at xs (replicate (quiet_limit - length xs) no_schedule) (length xs) refl)

  valid_until : (e : ℕ) → Valid (with_until s e)
  valid_until e = valid_kept v.channel_known v.pending_fits v.slots v.few v.rest_blank

-- ---- the clock

-- a switch clears the rest
valid_switched : (s : Station) (channel : ℕ) → Valid s → channel ≤ highest → Valid (switched s channel)
valid_switched s channel v h =
    valid_until _
    (valid_schedules _ (valid_pending _ (valid_power _ (valid_channel s v channel h) None) None tt) [] (lit≤ tt)) 0

-- where the clock goes on to a moment, the switch is met or is still to come
valid_reached : (s : Station) (t : ℕ) → Valid s → Valid (advanced_to s (reached t s.pending))
valid_reached s t v = by_pending s.pending refl
  where
    by_pending : (p : Option Switch) → s.pending ≡ p → Valid (advanced_to s (reached t p))
    by_pending None e = valid_clock s v t (subst (PendingFits t) (sym e) tt)
    by_pending (Some x) e =
        let f : PendingFits s.clock (Some x) = subst (PendingFits s.clock) e v.pending_fits in
        ⊎_elim
        (λ (y : ltb t x.at ≡ true). simp y (valid_clock s v t (subst (PendingFits t) (sym e) (ltb-true t x.at y, f.1, f.2))))
        (λ (n : ltb t x.at ≡ false). simp n (valid_clock (switched s x.channel) (valid_switched s x.channel v f.2) t tt))
        (either (ltb t x.at))

-- the station of an advance
abbrev next : Station → Outcome Advanced → Outcome Station
next s o = and_then o (λ a. Ok (advanced_to s a))

-- what the advance of its clock makes of a station is the advance, and stays valid
pub advanced : (s : Station) (n : ℕ) (o : Outcome Advanced) → clock_advance s.clock s.pending n ≡ o → Valid s
    → (stepped s (next s o) ≡ advance_of s n) × Valid (stepped s (next s o)).station
unfolding clock_advance advance_means checked
advanced s n o e v = (
  ap (λ (p : Outcome Advanced). stepped s (next s p)) (sym e),
  subst (λ (p : Outcome Advanced). Valid (stepped s (next s p)).station) e (by_test_lem (ltb unit_limit n || ltb clock_limit (s.clock + n))),
)
  where
    by_test_lem : (far : Bool) → Valid (stepped s (next s (pick far (Err Refusal.PastClock) (Ok (reached (s.clock + n) s.pending))))).station
    by_test_lem true = v
    by_test_lem false = valid_reached s (s.clock + n) v

pub still_valid : (s x : Station) (n : ℕ) (a : Advanced) → Valid s → Ok a ≡ clock_advance s.clock s.pending n → x ≡ advanced_to s a → Valid x
still_valid s x n a v e is = subst Valid (sym is) (advanced s n (Ok a) (sym e) v).1

-- ---- an accepted frame

valid_rescheduled : (s : Station) (qs : List Quiet) → Valid s → length qs ≤ quiet_limit → Valid (rescheduled s qs)
valid_rescheduled s qs v h =
    valid_schedules s v (schedules_of (passed s) s.interval qs) (omega (arith, length-map qs (λ q. set_by q (passed s) s.interval)))

valid_constrained : (s : Station) (p : Option PowerConstraint) → Valid s → Valid (constrained s p)
valid_constrained s None v = v
valid_constrained s (Some p) v = valid_power s v (Some p)

-- a count of 1 or more is a moment after the clock
pub moment_after : (b t c : ℕ) → 1 ≤ b → 1 ≤ c → t < (t / b + c) * b
moment_after b t c h k =
    omega (arith, lt-div-mul-add {a = t} {b = b} h, suc-mul (t / b) b, mul-le-mul_right {m = suc (t / b)} {n = t / b + c} b (omega arith))

valid_announced : (s : Station) (w : ChannelSwitch) → Valid s → switch_forbids w ≡ false → Valid (announced s w)
unfolding announced
valid_announced s w v e =
    let allowed = neither (ltb 1 w.mode) (ltb highest w.channel) e in
    ⊎_elim
    (λ (y : eqb w.count 0 ≡ true). simp y (valid_switched s w.channel v (ltb-false highest w.channel allowed.1)))
    (λ (n : eqb w.count 0 ≡ false). simp n
    (valid_pending s v (pending_by w (passed s) s.interval) (
      moment_after s.interval s.clock w.count v.interval_positive (omega (arith, eqb-false w.count 0 n)),
      ltb-false 1 w.mode allowed.0,
      ltb-false highest w.channel allowed.1,
    )))
    (either (eqb w.count 0))

valid_announced_if : (s : Station) (m : Option ChannelSwitch) → Valid s → SwitchAllowed m → Valid (announced_if s m)
valid_announced_if s None v a = v
valid_announced_if s (Some w) v a = valid_announced s w v a

valid_informed : (s : Station) (t : Told) → Valid s → Allowed s.interval t → Valid (informed s t)
unfolding informed
valid_informed s t v a =
    valid_announced_if _ t.notice.switch
    (valid_constrained _ t.notice.power (valid_rescheduled _ t.quiets (valid_until s v (outlasting s)) a.few))
    a.switch_allowed

pub valid_changed : (s : Station) (f : Frame) (qs : List Quiet) → Valid s → FrameAllowed s.interval f qs → Valid (changed_by s f qs)
valid_changed s (Frame.Beacon n) qs v a = valid_informed s (tells n qs) v a
valid_changed s (Frame.ProbeResponse n) qs v a = valid_informed s (tells n qs) v a
valid_changed s (Frame.MeasurementRequest token count) qs v a = v
valid_changed s (Frame.MeasurementReport token count) qs v a = v
valid_changed s (Frame.TpcRequest token) qs v a = v
valid_changed s (Frame.TpcReport token t) qs v a = v
valid_changed s (Frame.ChannelSwitch w) qs v a = valid_announced s w v a
