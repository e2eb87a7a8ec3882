use Rattle.std.proofs.Common.{replicate, ◌++◌, ◌-◌, ◌≡◌}
use Rattle.beacon.specs.Beacons.{quiet_limit}
use Rattle.station.specs.Stations.{no_schedule}
use Rattle.apart.specs.Columns.{schedules_in}
use Rattle.apart.proofs.columns.Columns.gather.Given as goal

abbrev pub invariant-loop-row : goal.invariant-loop-row
invariant-loop-row l = l.schedules ≡ schedules_in l.row l.self ++ replicate (quiet_limit - l.row) no_schedule
