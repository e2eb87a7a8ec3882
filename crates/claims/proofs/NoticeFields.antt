-- What a beacon or a probe response says, field by field. Assumes nothing.
use Rattle.std.specs.Prelude.{Some, None, Option, is_some}
use mathlib.Core.List.{List}
use mathlib.Core.Path.{◌≡◌, refl, ap}
use Prim.Native.Nat.{ℕ}
use native.Mathlib.Omega.{arith}
use lib.ListN.{length}
use Rattle.answer.specs.Checks.{pick}
use Rattle.beacon.specs.Beacons.{Told, tells}
use Rattle.element.specs.declared.quiet.Quiet.{Quiet}
use Rattle.claims.specs.FilteredFrames.{any_power, any_report, any_switch}
use Rattle.element.specs.declared.power_constraint.PowerConstraint.{PowerConstraint}
use Rattle.element.specs.declared.tpc_report.TpcReport.{TpcReport}
use Rattle.element.specs.declared.channel_switch.ChannelSwitch.{ChannelSwitch}

-- what there may be one of is a list of none or one, by whether it is there
pub one_power : (m : Option PowerConstraint) → length (any_power m) ≡ pick (is_some m) 1 0
one_power None = refl
one_power (Some p) = refl

pub one_report : (m : Option TpcReport) → length (any_report m) ≡ pick (is_some m) 1 0
one_report None = refl
one_report (Some t) = refl

pub one_switch : (m : Option ChannelSwitch) → length (any_switch m) ≡ pick (is_some m) 1 0
one_switch None = refl
one_switch (Some s) = refl

-- and that list tells it
same_power : (m n : Option PowerConstraint) → any_power m ≡ any_power n → m ≡ n
same_power None None e = refl
same_power None (Some p) e = absurd (let z : ◌≡◌ {A = ℕ} 0 1 = cc in omega arith)
same_power (Some p) None e = absurd (let z : ◌≡◌ {A = ℕ} 0 1 = cc in omega arith)
same_power (Some p) (Some q) e = ap Some (cc)

same_report : (m n : Option TpcReport) → any_report m ≡ any_report n → m ≡ n
same_report None None e = refl
same_report None (Some p) e = absurd (let z : ◌≡◌ {A = ℕ} 0 1 = cc in omega arith)
same_report (Some p) None e = absurd (let z : ◌≡◌ {A = ℕ} 0 1 = cc in omega arith)
same_report (Some p) (Some q) e = ap Some (cc)

same_switch : (m n : Option ChannelSwitch) → any_switch m ≡ any_switch n → m ≡ n
same_switch None None e = refl
same_switch None (Some p) e = absurd (let z : ◌≡◌ {A = ℕ} 0 1 = cc in omega arith)
same_switch (Some p) None e = absurd (let z : ◌≡◌ {A = ℕ} 0 1 = cc in omega arith)
same_switch (Some p) (Some q) e = ap Some (cc)

-- what is said is told by its fields
abbrev told_of : ℕ → ℕ → Option PowerConstraint → Option TpcReport → Option ChannelSwitch → List Quiet → Told
told_of timestamp capability power report switch quiets =
    tells (record { timestamp = timestamp; capability = capability; power = power; report = report; switch = switch }) quiets

pub same_told : (s t : Told) → s.notice.timestamp ≡ t.notice.timestamp → s.notice.capability ≡ t.notice.capability
    → any_power s.notice.power ≡ any_power t.notice.power → any_report s.notice.report ≡ any_report t.notice.report
    → any_switch s.notice.switch ≡ any_switch t.notice.switch → s.quiets ≡ t.quiets → s ≡ t
same_told s t i c p r w q =
    let x = s.notice in
    let y = t.notice in
    let same : told_of x.timestamp x.capability x.power x.report x.switch s.quiets
    ≡ told_of y.timestamp y.capability y.power y.report y.switch t.quiets
    = rw (i, c, same_power x.power y.power p, same_report x.report y.report r, same_switch x.switch y.switch w, q) in
    same

-- ---- with one field changed

abbrev pub power_as : Told → Option PowerConstraint → Told
power_as t m = told_of t.notice.timestamp t.notice.capability m t.notice.report t.notice.switch t.quiets

abbrev pub report_as : Told → Option TpcReport → Told
report_as t m = told_of t.notice.timestamp t.notice.capability t.notice.power m t.notice.switch t.quiets

abbrev pub switch_as : Told → Option ChannelSwitch → Told
switch_as t m = told_of t.notice.timestamp t.notice.capability t.notice.power t.notice.report m t.quiets

abbrev pub quiets_as : Told → List Quiet → Told
quiets_as t qs = tells t.notice qs
