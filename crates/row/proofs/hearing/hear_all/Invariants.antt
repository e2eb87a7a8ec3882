-- The first i rows have heard what was read, and the others are as they were.
use Rattle.std.proofs.Common.{◌++◌, ◌≡◌, drop, length, map, take}
use Rattle.row.specs.Rows.{row_heard}
use Rattle.row.proofs.hearing.hear_all.Given as goal

abbrev pub invariant-loop-i : goal.invariant-loop-i
invariant-loop-i l = (l.next ≡ map (row_heard l.received) (take l.i l.initial.next) ++ drop l.i l.initial.next) × (length l.next ≡ length l.initial.next)
