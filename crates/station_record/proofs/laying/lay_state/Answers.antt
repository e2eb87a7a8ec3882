-- `lay_state` meets its contract, part by part.
-- Assumes nothing.
use Rattle.std.proofs.Common.{◌∙◌}
use Rattle.station_record.proofs.Laid.{state_put}
use Rattle.station_record.proofs.laying.lay_state.Goals as goal

pub returns : goal.returns
returns c =
    let a = c.args in
    state_put a.memory.now a.power a.pending a.until a.count (c.copy_from_slice.ensures.after ∙ c.held_power.ensures) c.lay_pending.ensures
    (c.copy_from_slice-2.ensures.after ∙ c.octets64.ensures) c.requires
