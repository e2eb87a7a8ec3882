-- What no call changes of a record: by these a station reads frames. Assumes nothing.
use Rattle.std.specs.Prelude.{Ok, Err, Some, None, Option}
use mathlib.Core.Bool.{Bool, true, false}
use mathlib.Core.List.{List}
use mathlib.Core.Path.{◌≡◌, refl, ap, ◌∙◌}
use Prim.Native.Nat.{ℕ}
use lib.Dec.{eqb}
use Rattle.answer.specs.Checks.{Outcome, pick, and_then}
use Rattle.beacon.specs.Beacons.{Told}
use Rattle.element.specs.declared.channel_switch.ChannelSwitch.{ChannelSwitch}
use Rattle.frame.specs.Actions.{requests, reports, tpc_request, tpc_report, switch}
use Rattle.frame.specs.Frames.{Kind, beacon, probe_response, action}
use Rattle.pending.specs.Waiting.{pending_by}
use Rattle.station.specs.Clock.{stepped, switched, clock_advance, advanced_to, advance_means, advance_of}
use Rattle.station.specs.Stations.{with_pending, with_until}
use Rattle.station.specs.Taking.{passed, outlasting, rescheduled, constrained, announced, announced_if, informed, heard}
use Rattle.station.specs.declared.Station.{Station}
use Rattle.station.specs.declared.clock.Advanced.{Advanced}
use Rattle.element.specs.declared.power_constraint.PowerConstraint.{PowerConstraint}

-- its two addresses and its beacon interval
abbrev pub KeptThroughout : Type 0
KeptThroughout = List ℕ × List ℕ × ℕ

abbrev pub kept_by : Station → KeptThroughout
kept_by r = (r.own, r.ap, r.interval)

-- these, and the clock: what no frame changes
abbrev pub Unchanged : Type 0
Unchanged = List ℕ × List ℕ × ℕ × ℕ

abbrev pub unchanged : Station → Unchanged
unchanged r = (r.own, r.ap, r.interval, r.clock)

announced_unchanged : (r : Station) (w : ChannelSwitch) → unchanged (announced r w) ≡ unchanged r
unfolding announced
announced_unchanged r w = by_count (eqb w.count 0)
  where
    by_count : (now : Bool) → unchanged (pick now (switched r w.channel) (with_pending r (pending_by w (passed r) r.interval))) ≡ unchanged r
    by_count true = refl
    by_count false = refl

announced_if_unchanged : (r : Station) (m : Option ChannelSwitch) → unchanged (announced_if r m) ≡ unchanged r
announced_if_unchanged r None = refl
announced_if_unchanged r (Some w) = announced_unchanged r w

constrained_unchanged : (r : Station) (m : Option PowerConstraint) → unchanged (constrained r m) ≡ unchanged r
constrained_unchanged r None = refl
constrained_unchanged r (Some p) = refl

informed_unchanged : (r : Station) (t : Told) → unchanged (informed r t) ≡ unchanged r
unfolding informed
informed_unchanged r t =
    let replaced = rescheduled (with_until r (outlasting r)) t.quiets in
    announced_if_unchanged (constrained replaced t.notice.power) t.notice.switch ∙ constrained_unchanged replaced t.notice.power

pub heard_unchanged : (r : Station) (k : Kind) → unchanged (heard r k) ≡ unchanged r
heard_unchanged r (beacon t) = informed_unchanged r t
heard_unchanged r (probe_response t) = informed_unchanged r t
heard_unchanged r (action (requests token rs)) = refl
heard_unchanged r (action (reports token rs)) = refl
heard_unchanged r (action (tpc_request token)) = refl
heard_unchanged r (action (tpc_report token t)) = refl
heard_unchanged r (action (switch w)) = announced_unchanged r w

pub heard_keeps : (r : Station) (k : Kind) → kept_by (heard r k) ≡ kept_by r
heard_keeps r k = ap (λ (z : Unchanged). (z.0, z.1, z.2)) (heard_unchanged r k)

pub heard_clock : (r : Station) (k : Kind) → (heard r k).clock ≡ r.clock
heard_clock r k = ap (λ (z : Unchanged). z.3) (heard_unchanged r k)

pub advance_keeps : (r : Station) (n : ℕ) → kept_by (advance_of r n).station ≡ kept_by r
unfolding advance_means
advance_keeps r n = by_clock (clock_advance r.clock r.pending n)
  where
    by_clock : (o : Outcome Advanced) → kept_by (stepped r (and_then o (λ a. Ok (advanced_to r a)))).station ≡ kept_by r
    by_clock (Err x) = refl
    by_clock (Ok (Advanced.Goes t)) = refl
    by_clock (Ok (Advanced.Switches t channel)) = refl
