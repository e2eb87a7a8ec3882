use Rattle.std.proofs.Common.{drop, length, ◌-◌, ◌≡◌}
use Rattle.walk.specs.CodeTerms.Next.{next_after}
use Rattle.walk.specs.Handed.{passing_in}
use Rattle.walk.proofs.pass_over.Given as goal

-- from here on it is as from the start on
abbrev pub invariant-loop-end : goal.invariant-loop-end
invariant-loop-end l = next_after l.at (passing_in (drop l.at l.run)) ≡ next_after l.start (passing_in (drop l.start l.run))

-- what is left
abbrev pub decreases-loop-end : goal.decreases-loop-end
decreases-loop-end l = length l.run - l.at
