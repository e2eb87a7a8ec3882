-- `read` meets its contract: the station that is read is valid, since the octets are its record.
-- Assumes nothing.
use Rattle.std.proofs.Common.{ap, subst, sym, ℕ, ◌∙◌}
use Rattle.station.specs.Stations.{slotted}
use Rattle.station.specs.Validity.{Valid}
use Rattle.station_record.specs.Held.{schedules_from}
use Rattle.station_record.specs.Records.{head_length}
use Rattle.station_record.proofs.Layouts.{held_valid, same_station}
use Rattle.station_record.proofs.reading.read.Goals as goal

pub returns-clause-valid : goal.returns-clause-valid
returns-clause-valid c =
    let os = c.args.memory.now in
    let count = c.from-count.ensures ∙ c.octet_at.ensures in
    subst Valid
    (sym (same_station c.address_at.ensures c.address_at-2.ensures c.number16.ensures c.number32.ensures c.octet_at-2.ensures c.power_in.ensures c.pending_in.ensures
    (c.schedules_in.ensures ∙ ap (λ (n : ℕ). slotted (schedules_from n head_length os)) count) count c.number64.ensures))
    (held_valid os (sym c.is_broken.ensures ∙ c.if-is_broken.false))
