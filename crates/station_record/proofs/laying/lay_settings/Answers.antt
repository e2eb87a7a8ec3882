-- `lay_settings` meets its contract, part by part.
-- Assumes nothing.
use Rattle.std.proofs.Common.{rules, ◌∙◌}
use Rattle.station_record.proofs.Laid.{settings_put}
use Rattle.station_record.proofs.laying.lay_settings.Goals as goal

pub returns : goal.returns
returns c =
    settings_put c.args.memory.now c.args.station.now c.copy_from_slice.ensures.after (c.copy_from_slice-2.ensures.after ∙ c.octets16.ensures)
    (c.copy_from_slice-3.ensures.after ∙ c.octets32.ensures) c.copy_from_slice-4.ensures.after c.copy_from_slice-5.ensures.after (search rules) (search rules) c.requires
