-- `lay` meets its contract: settings and state, and the schedules in use after them.
-- Assumes nothing.
use Rattle.std.proofs.Common.{arith, length-take, rules}
use Rattle.station_record.proofs.Laid.{record_put}
use Rattle.station_record.proofs.laying.lay.Goals as goal

pub returns : goal.returns
returns c =
    let s = c.args.station.now in
    record_put c.args.memory.now s (search rules) (search rules) (omega (arith, length-take s.count s.schedules, c.requires.valid.few)) c.requires.size_in_bounds
    c.lay_settings.ensures c.lay_state.ensures c.lay_slots.ensures
