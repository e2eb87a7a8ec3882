-- The rows whose turn has been are ticked, and the others are as they were.
use Rattle.std.proofs.Common.{◌++◌, ◌≡◌, drop, map, take}
use Rattle.std.specs.Prelude.{All}
use Rattle.row.specs.Rows.{ValidRow, row_ticked}
use Rattle.row.proofs.ticking.tick.Given as goal

abbrev pub invariant-loop-row : goal.invariant-loop-row
invariant-loop-row l =
    (l.row-items ≡ map (row_ticked l.units) (take l.row-index l.initial.row-items) ++ drop l.row-index l.initial.row-items) × All ValidRow l.row-items
