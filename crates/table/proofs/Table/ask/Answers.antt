use Rattle.std.proofs.Common.{sym, ◌∙◌}
use Rattle.table.proofs.Outcomes.{its_valid}
use Rattle.table.proofs.Table.ask.Goals as goal

pub ask-requires : goal.ask-requires
ask-requires c = its_valid c.args.self c.requires c.args.own _ (sym c.place_of.ensures ∙ c.in-Some.is) _
