-- A station whose fields fit the types that the code has for them, as every station in a program does.
use Rattle.std.specs.Prelude.{List, [], ◌∷◌, ◌≡◌, ◌<◌, ◌^◌, length, Some, None, Option}
use Rattle.octets.specs.Numbers.{Octets}
use Rattle.schedule.specs.declared.Schedule.{Schedule}
use Rattle.station.specs.Stations.{in_use}
use Rattle.station.specs.declared.Station.{Station}
use Rattle.element.specs.declared.power_constraint.PowerConstraint.{PowerConstraint}
use Rattle.pending.specs.declared.Switch.{Switch}

abbrev pub PowerFits : Option PowerConstraint → Type 0
PowerFits None = Unit {0}
PowerFits (Some p) = p.decibels < 256

abbrev pub MomentFits : Option Switch → Type 0
MomentFits None = Unit {0}
MomentFits (Some x) = x.at < 256 ^ 8

abbrev pub ScheduleFits : Schedule → Type 0
ScheduleFits x = (x.start < 256 ^ 8) × (x.period < 256 ^ 8) × (x.duration < 256 ^ 2)

abbrev pub AllFit : List Schedule → Type 0
AllFit [] = Unit {0}
AllFit (x ∷ xs) = ScheduleFits x × AllFit xs

pub record Fits (s : Station) : Type 0 where
  pub own_six : length s.own ≡ 6
  pub own_octets : Octets s.own
  pub ap_six : length s.ap ≡ 6
  pub ap_octets : Octets s.ap
  pub interval_fits : s.interval < 256 ^ 2
  pub clock_fits : s.clock < 256 ^ 4
  pub power_fits : PowerFits s.power
  pub moment_fits : MomentFits s.pending
  pub schedules_fit : AllFit (in_use s)
  pub until_fits : s.until < 256 ^ 8
