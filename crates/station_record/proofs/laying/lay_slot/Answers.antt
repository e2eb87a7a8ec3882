-- `lay_slot` meets its contract, part by part.
-- Assumes nothing.
use Rattle.std.proofs.Common.{◌∙◌}
use Rattle.station_record.proofs.Laid.{slot_put}
use Rattle.station_record.proofs.laying.lay_slot.Goals as goal

pub returns : goal.returns
returns c =
    slot_put c.args.memory.now c.args.schedule c.args.at (c.copy_from_slice.ensures.after ∙ c.octets64.ensures) (c.copy_from_slice-2.ensures.after ∙ c.octets64-2.ensures)
    (c.copy_from_slice-3.ensures.after ∙ c.octets16.ensures) c.requires
