-- What was written lies no further than the place.
use Rattle.std.proofs.Common.{◌≤◌}
use Rattle.scene.proofs.line.Line.read.Given as goal

abbrev pub invariant-loop-at : goal.invariant-loop-at
invariant-loop-at g l = l.written ≤ l.at
