use Rattle.std.proofs.Common.{◌≡◌}
use Rattle.station.specs.Stations.{slotted}
use Rattle.station_record.specs.Held.{schedules_from}
use Rattle.station_record.specs.Records.{head_length}
use Rattle.station_record.proofs.reading.schedules_in.Given as goal

abbrev pub invariant-loop-slot : goal.invariant-loop-slot
invariant-loop-slot l = l.schedules ≡ slotted (schedules_from l.slot head_length l.memory)
