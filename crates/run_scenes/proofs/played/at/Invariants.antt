-- What is left falls, and each step leaves what is valid.
use Rattle.run_scenes.proofs.played.at.Given as goal

abbrev pub invariant-loop-left : goal.invariant-loop-left
invariant-loop-left g l = g.P.Played.valid l.next

abbrev pub decreases-loop-left : goal.decreases-loop-left
decreases-loop-left g l = l.left
