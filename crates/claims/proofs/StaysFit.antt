-- A station that starts from numbers and octets fits the types that the code has for it, and an advance of the clock and an accepted frame keep it so.
-- Assumes nothing.
use Rattle.std.specs.Prelude.{Ok, Some, None, Option}
use mathlib.Core.Bool.{Bool, true, false}
use mathlib.Core.List.{List, []}
use mathlib.Core.Path.{◌≡◌, refl, sym, subst}
use Prim.Native.Nat.{ℕ, ◌+◌, ◌-◌, ◌<◌, ◌≤◌, ◌^◌}
use native.Mathlib.Omega.{arith}
use borrow.Author.Tests.{ltb-false}
use lib.Dec.{ltb, eqb}
use lib.ListN.{length, take, replicate}
use lib.Seq.{take_at}
use Rattle.answer.proofs.Booleans.{neither}
use Rattle.answer.proofs.Judged.{passed as passed_check, kept}
use Rattle.answer.proofs.Yielding.{of_value, after_check, after_all, after_value}
use Rattle.answer.specs.Checks.{pick}
use Rattle.beacon.specs.Beacons.{quiet_limit, Told, tells}
use Rattle.element.specs.declared.channel_switch.ChannelSwitch.{ChannelSwitch}
use Rattle.element.specs.declared.quiet.Quiet.{Quiet}
use Rattle.frame.specs.Frames.{frame_means}
use Rattle.frame.specs.Laid.{frame_of, quiets_of}
use Rattle.frame.specs.declared.Frame.{Frame}
use Rattle.octets.specs.Numbers.{Octets}
use Rattle.pending.specs.Waiting.{pending_by}
use Rattle.schedule.specs.declared.Schedule.{Schedule}
use Rattle.station.specs.Clock.{switched, reached, clock_advance, advanced_to, advance_means}
use Rattle.station.specs.Starting.{start_means}
use Rattle.station.specs.Stations.{clock_limit, unit_limit, no_schedule, slotted, in_use, fresh, with_clock, with_channel, with_power, with_pending, with_schedules, with_until}
use Rattle.station.specs.Taking.{passed, schedules_of, outlasting, rescheduled, constrained, announced, announced_if, informed, changed_by, take_means}
use Rattle.station.specs.declared.Station.{Station}
use Rattle.station.specs.declared.clock.Advanced.{Advanced}
use Rattle.claims.proofs.HeardFits.{CountFits, SwitchFits, QuietsFit, ToldFits, FrameFits, frame_fits}
use Rattle.claims.proofs.MomentsFit.{moment_fits, all_set_fit, latest_fits}
use Rattle.station_record.specs.Fits.{PowerFits, MomentFits, AllFit, Fits}
use Rattle.element.specs.declared.power_constraint.PowerConstraint.{PowerConstraint}
use Rattle.pending.specs.declared.Switch.{Switch}

-- ---- a start

-- at moment 0, with nothing heard
fresh_fits : (own ap : List ℕ) (b channel : ℕ) → length own ≡ 6 → Octets own → length ap ≡ 6 → Octets ap → b < 256 ^ 2
    → Fits (fresh own ap b channel)
fresh_fits own ap b channel own_six own_octets ap_six ap_octets interval_fits =
    record {
      own_six = own_six;
      own_octets = own_octets;
      ap_six = ap_six;
      ap_octets = ap_octets;
      interval_fits = interval_fits;
      clock_fits = omega arith;
      power_fits = tt;
      moment_fits = tt;
      schedules_fit = tt;
      until_fits = omega arith;
    }

-- an accepted start gives a station that fits
pub started_fits : (own ap : List ℕ) (b channel : ℕ) (s : Station) → length own ≡ 6 → Octets own → length ap ≡ 6 → Octets ap → b < 256 ^ 2
    → start_means own ap b channel ≡ Ok s → Fits s
unfolding start_means
started_fits own ap b channel s own_six own_octets ap_six ap_octets interval_fits =
    after_check Fits _ _ _
    (λ allowed. after_all Fits _ (of_value Fits (fresh_fits own ap b channel own_six own_octets ap_six ap_octets interval_fits))) s

-- ---- one field changed

module _ (s : Station) (f : Fits s) where
  with_fields : (clock channel : ℕ) (power : Option PowerConstraint) (pending : Option Switch) (schedules : List Schedule) (count until : ℕ)
      → clock < 256 ^ 4 → PowerFits power → MomentFits pending → AllFit (take count schedules) → until < 256 ^ 8
      → Fits (record {
        own = s.own;
        ap = s.ap;
        interval = s.interval;
        clock = clock;
        channel = channel;
        power = power;
        pending = pending;
        schedules = schedules;
        count = count;
        until = until;
      })
  with_fields clock channel power pending schedules count until c p w xs e =
      record {
        own_six = f.own_six;
        own_octets = f.own_octets;
        ap_six = f.ap_six;
        ap_octets = f.ap_octets;
        interval_fits = f.interval_fits;
        clock_fits = c;
        power_fits = p;
        moment_fits = w;
        schedules_fit = xs;
        until_fits = e;
      }

  clock_changed : (t : ℕ) → t < 256 ^ 4 → Fits (with_clock s t)
  clock_changed t h = with_fields t s.channel s.power s.pending s.schedules s.count s.until h f.power_fits f.moment_fits f.schedules_fit f.until_fits

  channel_changed : (channel : ℕ) → Fits (with_channel s channel)
  channel_changed channel =
      with_fields s.clock channel s.power s.pending s.schedules s.count s.until f.clock_fits f.power_fits f.moment_fits f.schedules_fit f.until_fits

  power_changed : (p : Option PowerConstraint) → PowerFits p → Fits (with_power s p)
  power_changed p h = with_fields s.clock s.channel p s.pending s.schedules s.count s.until f.clock_fits h f.moment_fits f.schedules_fit f.until_fits

  pending_changed : (p : Option Switch) → MomentFits p → Fits (with_pending s p)
  pending_changed p h = with_fields s.clock s.channel s.power p s.schedules s.count s.until f.clock_fits f.power_fits h f.schedules_fit f.until_fits

  -- the schedules, of which those in use are these
  schedules_changed : (xs : List Schedule) → AllFit xs → Fits (with_schedules s xs)
  schedules_changed xs h =
      with_fields s.clock s.channel s.power s.pending (slotted xs) (length xs) s.until f.clock_fits f.power_fits f.moment_fits
      (subst AllFit (sym (take_at xs (replicate (quiet_limit - length xs) no_schedule) (length xs) refl)) h) f.until_fits

  until_changed : (e : ℕ) → e < 256 ^ 8 → Fits (with_until s e)
  until_changed e h = with_fields s.clock s.channel s.power s.pending s.schedules s.count e f.clock_fits f.power_fits f.moment_fits f.schedules_fit h

-- ---- the clock

-- a switch clears the rest
switched_fits : (s : Station) (channel : ℕ) → Fits s → Fits (switched s channel)
switched_fits s channel f =
    until_changed _
    (schedules_changed _ (pending_changed _ (power_changed _ (channel_changed s f channel) None tt) None tt) [] tt)
    0 (omega arith)

-- where the clock goes on to a moment that it tells, whether or not a switch is met there
reached_fits : (s : Station) (t : ℕ) (p : Option Switch) → Fits s → t < 256 ^ 4 → Fits (advanced_to s (reached t p))
reached_fits s t None f h = clock_changed s f t h
reached_fits s t (Some x) f h = by_test_lem (ltb t x.at)
  where
    by_test_lem : (before : Bool) → Fits (advanced_to s (pick before (Advanced.Goes t) (Advanced.Switches t x.channel)))
    by_test_lem true = clock_changed s f t h
    by_test_lem false = switched_fits (with_clock s t) x.channel (clock_changed s f t h)

-- an accepted advance keeps a station fit
pub advanced_fits : (s : Station) (n : ℕ) (t : Station) → Fits s → advance_means s n ≡ Ok t → Fits t
unfolding advance_means clock_advance
advanced_fits s n t f =
    after_value Fits (clock_advance s.clock s.pending n) _
    (λ a e.
    let p = passed_check _ _ _ e in
    let near : s.clock + n ≤ clock_limit = ltb-false clock_limit (s.clock + n) (neither (ltb unit_limit n) _ p.0).1 in
    let fits = reached_fits s (s.clock + n) s.pending f (omega arith) in
    of_value Fits (subst (λ (b : Advanced). Fits (advanced_to s b)) (kept _ p.1) fits))
    t

-- ---- an accepted frame

-- a station whose schedules are replaced by those of Quiet elements
rescheduled_fits : (s : Station) (qs : List Quiet) → Fits s → QuietsFit qs → Fits (rescheduled s qs)
rescheduled_fits s qs f h =
    schedules_changed s f (schedules_of (passed s) s.interval qs) (all_set_fit s.clock s.interval f.clock_fits f.interval_fits qs h)

-- with the Power Constraint, if there is one
constrained_fits : (s : Station) (p : Option PowerConstraint) → Fits s → PowerFits p → Fits (constrained s p)
constrained_fits s None f h = f
constrained_fits s (Some p) f h = power_changed s f (Some p) h

-- with an announcement
announced_fits : (s : Station) (w : ChannelSwitch) → Fits s → CountFits w → Fits (announced s w)
unfolding announced
announced_fits s w f h = by_test_lem (eqb w.count 0)
  where
    by_test_lem : (now : Bool) → Fits (pick now (switched s w.channel) (with_pending s (pending_by w (passed s) s.interval)))
    by_test_lem true = switched_fits s w.channel f
    by_test_lem false =
        pending_changed s f (pending_by w (passed s) s.interval)
        (moment_fits s.clock s.interval f.clock_fits f.interval_fits w.count h)

-- with one, if there is one
announced_if_fits : (s : Station) (m : Option ChannelSwitch) → Fits s → SwitchFits m → Fits (announced_if s m)
announced_if_fits s None f h = f
announced_if_fits s (Some w) f h = announced_fits s w f h

-- after a beacon or a probe response
informed_fits : (s : Station) (t : Told) → Fits s → ToldFits t → Fits (informed s t)
unfolding informed
informed_fits s t f h =
    let runs_on = latest_fits s.clock s.until (in_use s) f.schedules_fit f.clock_fits f.until_fits in
    announced_if_fits _ t.notice.switch
    (constrained_fits _ t.notice.power
    (rescheduled_fits (with_until s (outlasting s)) t.quiets (until_changed s f (outlasting s) runs_on) h.quiets_fit)
    h.power_fits)
    h.switch_fits

-- after any frame
changed_fits : (s : Station) (frame : Frame) (qs : List Quiet) → Fits s → FrameFits frame qs → Fits (changed_by s frame qs)
changed_fits s (Frame.Beacon n) qs f h = informed_fits s (tells n qs) f h
changed_fits s (Frame.ProbeResponse n) qs f h = informed_fits s (tells n qs) f h
changed_fits s (Frame.MeasurementRequest token count) qs f h = f
changed_fits s (Frame.MeasurementReport token count) qs f h = f
changed_fits s (Frame.TpcRequest token) qs f h = f
changed_fits s (Frame.TpcReport token r) qs f h = f
changed_fits s (Frame.ChannelSwitch w) qs f h = announced_fits s w f h

-- an accepted frame of octets keeps a station fit
pub taken_fits : (s : Station) (f : List ℕ) (t : Station) → Fits s → Octets f → take_means s f ≡ Ok t → Fits t
unfolding take_means
taken_fits s f t fits o =
    after_value Fits (frame_means s.own s.ap s.interval f) _
    (λ sent e. of_value Fits
    (changed_fits s (frame_of sent.kind) (quiets_of sent.kind) fits (frame_fits s.own s.ap s.interval f o sent e)))
    t
