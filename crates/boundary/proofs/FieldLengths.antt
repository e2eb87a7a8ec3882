-- How many octets the fields have of what may be absent. Assumes nothing.
use Rattle.std.specs.Prelude.{Some, None, Option}
use mathlib.Core.Path.{◌≡◌, refl}
use lib.ListN.{length}
use Rattle.boundary.specs.FrameFields.{held_report, held_switch}
use Rattle.element.specs.declared.tpc_report.TpcReport.{TpcReport}
use Rattle.element.specs.declared.channel_switch.ChannelSwitch.{ChannelSwitch}

pub report_length : (r : Option TpcReport) → length (held_report r) ≡ 3
report_length None = refl
report_length (Some t) = refl

pub switch_length : (s : Option ChannelSwitch) → length (held_switch s) ≡ 4
switch_length None = refl
switch_length (Some s) = refl
