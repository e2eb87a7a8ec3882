-- `replace` meets its contract. The invariant: the first slots are the new schedules', and the latest end so far and those from there on give the latest
-- of all. Assumes nothing.
use Rattle.std.proofs.Common.{List, ap, arith, get_or, length, rules, sym, take, ◌/◌, ◌<◌, ◌∙◌, ◌≡◌}
use Rattle.beacon.specs.Beacons.{quiet_limit}
use Rattle.schedule.specs.declared.Schedule.{Schedule}
use Rattle.station.specs.Stations.{no_schedule, slotted}
use Rattle.station.specs.Taking.{schedules_of}
use Rattle.station.proofs.SlotBySlot.{not_yet, all_slots, slot_replaced, counted_here, all_counted}
use Rattle.station.proofs.replacing.replace.Goals as goal

pub loop-slot-preserved : goal.loop-slot-preserved
loop-slot-preserved c =
    let l = c.loop-slot in
    let p = c.requires in
    let a = c.args in
    let ds = a.schedules in
    let these = slotted (schedules_of (a.clock / a.interval) a.interval (take a.extent.used a.quiets)) in
    let eight : length a.quiets ≡ quiet_limit = search rules in
    let slots : length ds ≡ quiet_limit = search rules in
    let room : l.slot < quiet_limit = omega arith in
    let old : get_or l.slots l.slot no_schedule ≡ get_or ds l.slot no_schedule =
    ap (λ (xs : List Schedule). get_or xs l.slot no_schedule) l.invariant.laid
    ∙ not_yet these ds l.slot no_schedule (omega arith) (all_slots _ _ a.quiets a.extent.used p.2 eight ∙ sym slots) in record {
      laid = rw (l.invariant.laid, c.slot_of.ensures, c.from.ensures) (slot_replaced _ _ a.quiets a.extent.used p.2 eight l.slot _ room ds slots);
      lasts =
          rw (c.later-latest.ensures, c.end_begun.ensures, old)
          (counted_here ds a.extent.top l.slot a.clock l.latest (omega arith) (omega arith) ∙ l.invariant.lasts);
    }

pub returns-clause-until_value : goal.returns-clause-until_value
returns-clause-until_value c =
    let l = c.loop-slot in
    let a = c.args in
    sym (all_counted a.schedules a.extent.top l.slot a.clock l.latest (omega arith)) ∙ l.invariant.lasts
