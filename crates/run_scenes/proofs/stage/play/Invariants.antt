-- The stage stays valid.
use Rattle.run_scenes.specs.Stages.{ValidStage}
use Rattle.run_scenes.proofs.stage.play.Given as goal

abbrev pub invariant-loop : goal.invariant-loop
invariant-loop g l = ValidStage l.stage
