-- `Parts::of` meets its contract.
use Rattle.capture.proofs.Together.{parts_of}
use Rattle.capture.proofs.parts.Parts.of.Goals as goal

pub returns : goal.returns
returns c = parts_of c.args.lister c.requires _ _ c.of.ensures.value c.of.ensures.holds_schedules
