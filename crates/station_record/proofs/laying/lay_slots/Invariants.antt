use Rattle.std.proofs.Common.{take}
use Rattle.octets.proofs.Copied.{Put}
use Rattle.station_record.specs.Records.{slots_of}
use Rattle.station_record.proofs.laying.lay_slots.Given as goal

abbrev pub invariant-loop-slot : goal.invariant-loop-slot
invariant-loop-slot l = Put 42 (slots_of (take l.slot l.schedules)) l.initial.memory l.memory
