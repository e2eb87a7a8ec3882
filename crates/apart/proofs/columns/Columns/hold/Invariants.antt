use Rattle.apart.proofs.Rows.{Filled}
use Rattle.apart.proofs.columns.Columns.hold.Given as goal

abbrev pub invariant-loop-row : goal.invariant-loop-row
invariant-loop-row l = Filled l.initial.self l.schedules l.row l.self
