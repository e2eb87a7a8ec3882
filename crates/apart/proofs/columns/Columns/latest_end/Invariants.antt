use Rattle.std.proofs.Common.{◌≡◌}
use Rattle.station.specs.Taking.{latest_end}
use Rattle.apart.specs.Columns.{schedules_in}
use Rattle.apart.proofs.columns.Columns.latest_end.Given as goal

abbrev pub invariant-loop-row : goal.invariant-loop-row
invariant-loop-row l = l.latest ≡ latest_end l.clock l.until (schedules_in l.row l.self)
