use Rattle.std.proofs.Common.{length, ◌-◌}
use Rattle.beacon.proofs.Walking.{Walked}
use Rattle.beacon.proofs.read.Given as goal

abbrev pub invariant-loop-quiet : goal.invariant-loop-quiet
invariant-loop-quiet l = Walked l.ibss l.interval l.index l.body l.at l.notice l.quiets l.count l.dfs

abbrev pub decreases-loop-quiet : goal.decreases-loop-quiet
decreases-loop-quiet l = length l.body - l.at
