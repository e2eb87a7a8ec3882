-- What is on the stage: calls may be handed to each of the three.
use Rattle.member.specs.Validity.{ValidMember}
use Rattle.run_scenes.specs.declared.stage.Stage.{Stage}
use Rattle.station.specs.Validity.{Valid}
use Rattle.table.specs.Validity.{ValidTable}

abbrev pub ValidStage : Stage → Type 0
ValidStage s = Valid s.station × ValidMember s.member × ValidTable s.table
