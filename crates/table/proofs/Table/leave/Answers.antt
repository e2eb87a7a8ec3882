use Rattle.std.proofs.Common.{sym, ◌∙◌}
use Rattle.table.proofs.Outcomes.{leave_kept}
use Rattle.table.proofs.Table.leave.Goals as goal

pub returns-in-Some-clause-kept : goal.returns-in-Some-clause-kept
returns-in-Some-clause-kept c =
    leave_kept c.args.self c.requires c.args.own _ (sym c.place_of.ensures ∙ c.in-Some.is) _ _ _ c.accepted.ensures c.with_row.ensures c.vacated.ensures
