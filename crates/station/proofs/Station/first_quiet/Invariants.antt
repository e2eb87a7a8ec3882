use Rattle.std.proofs.Common.{drop, ◌-◌, ◌≡◌, ◌≤◌}
use Rattle.schedule.specs.Units.{first_unit}
use Rattle.station.specs.Asking.{covered_by, first_quiet}
use Rattle.station.specs.Stations.{in_use}
use Rattle.station.proofs.Station.first_quiet.Given as goal

abbrev pub invariant-loop-schedule : goal.invariant-loop-schedule
invariant-loop-schedule l = record {
  ahead : l.fn.self.clock ≤ l.first;
  rest_answers : first_unit (covered_by (drop l.schedule-index (in_use l.fn.self))) l.fn.self.clock (l.first - l.fn.self.clock) ≡ first_quiet l.fn.self l.fn.to;
}
