-- The place rises to the length, and each call leaves a valid stage.
use Rattle.std.proofs.Common.{length, ◌-◌, ◌≤◌}
use Rattle.run_scenes.specs.Stages.{ValidStage}
use Rattle.run_scenes.proofs.stage.scenes.Given as goal

abbrev pub invariant-loop-at : goal.invariant-loop-at
invariant-loop-at g l = (l.at ≤ length l.text) × ValidStage l.stage

abbrev pub decreases-loop-at : goal.decreases-loop-at
decreases-loop-at g l = length l.text - l.at
