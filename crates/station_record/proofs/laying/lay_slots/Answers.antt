-- `lay_slots` meets its contract. The invariant: the first schedules are laid.
-- Assumes nothing.
use Rattle.std.proofs.Common.{arith}
use Rattle.octets.proofs.Copied.{nothing_put}
use Rattle.station.specs.Stations.{no_schedule}
use Rattle.station_record.specs.Records.{slots_of}
use Rattle.station_record.proofs.Laid.{next_slot_put}
use Rattle.station_record.proofs.laying.lay_slots.Goals as goal

pub loop-slot-init : goal.loop-slot-init
unfolding slots_of
loop-slot-init c = nothing_put 42 c.args.memory.now (omega (arith, c.requires.1))

pub loop-slot-preserved : goal.loop-slot-preserved
loop-slot-preserved c =
    next_slot_put c.args.memory.now c.args.schedules.now c.loop-slot.slot no_schedule c.loop-slot-test.true c.requires.0 c.requires.1 c.loop-slot.invariant c.lay_slot.ensures
