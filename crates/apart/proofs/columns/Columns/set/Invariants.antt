use Rattle.std.proofs.Common.{◌/◌}
use Rattle.station.specs.Taking.{schedules_of}
use Rattle.apart.proofs.Rows.{Filled}
use Rattle.apart.proofs.columns.Columns.set.Given as goal

abbrev pub invariant-loop-row : goal.invariant-loop-row
invariant-loop-row l = Filled l.initial.self (schedules_of (l.clock / l.interval) l.interval l.quiets) l.row l.self
