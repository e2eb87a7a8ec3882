-- What a beacon or a probe response says, but for its Quiet elements (01, "Octets"): its fixed fields, and the elements 32, 35 and 37
-- that it has.
use Rattle.std.specs.Prelude.{List, [], ◌∷◌, ℕ, Some, None, Option}
use Rattle.element.specs.PowerConstraint.{power_contents}
use Rattle.element.specs.declared.channel_switch.ChannelSwitch.{ChannelSwitch}
use Rattle.element.specs.declared.power_constraint.PowerConstraint.{PowerConstraint}
use Rattle.element.specs.declared.tpc_report.TpcReport.{TpcReport}
use Rattle.beacon.specs.declared.Notice.{Notice}

-- the fixed fields, and no element
abbrev pub elementless : ℕ → ℕ → Notice
elementless timestamp capability =
    record {
      timestamp = timestamp;
      capability = capability;
      power = None;
      report = None;
      switch = None;
    }

-- nothing is said
abbrev pub nothing : Notice
nothing = elementless 0 0

-- ---- one element more

abbrev pub with_power : Notice → PowerConstraint → Notice
with_power n p = record { timestamp = n.timestamp; capability = n.capability; power = Some p; report = n.report; switch = n.switch }

abbrev pub with_report : Notice → TpcReport → Notice
with_report n t = record { timestamp = n.timestamp; capability = n.capability; power = n.power; report = Some t; switch = n.switch }

abbrev pub with_switch : Notice → ChannelSwitch → Notice
with_switch n s = record { timestamp = n.timestamp; capability = n.capability; power = n.power; report = n.report; switch = Some s }

-- ---- what may be absent, as octets: 1 and its contents where it is there, and zeros where it is not

abbrev pub held_power : Option PowerConstraint → List ℕ
held_power None = 0 ∷ 0 ∷ []
held_power (Some p) = 1 ∷ power_contents p
