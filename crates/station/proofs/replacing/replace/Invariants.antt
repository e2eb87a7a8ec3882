use Rattle.std.proofs.Common.{drop, take, ◌/◌, ◌≡◌}
use Rattle.station.specs.CodeTerms.Changing.{overlaid}
use Rattle.station.specs.Stations.{slotted}
use Rattle.station.specs.Taking.{schedules_of, latest_end}
use Rattle.station.proofs.replacing.replace.Given as goal

abbrev pub invariant-loop-slot : goal.invariant-loop-slot
invariant-loop-slot l = record {
  laid : l.slots ≡ overlaid l.slot (slotted (schedules_of (l.clock / l.interval) l.interval (take l.extent.used l.quiets))) l.initial.slots;
  lasts : latest_end l.clock l.latest (drop l.slot (take l.extent.top l.initial.slots)) ≡ latest_end l.clock l.initial.latest (take l.extent.top l.initial.slots);
}
