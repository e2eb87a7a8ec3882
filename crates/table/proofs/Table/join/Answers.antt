use Rattle.std.proofs.Common.{sym, ◌∙◌}
use Rattle.table.proofs.Outcomes.{join_refused, join_kept}
use Rattle.table.proofs.Table.join.Goals as goal

pub returns-in-Err-clause-value : goal.returns-in-Err-clause-value
returns-in-Err-clause-value c =
    join_refused c.args.self c.requires c.args.own c.args.channel _ (sym c.in-Err.is ∙ c.start.ensures.value) _ c.refused.ensures

pub returns-in-Ok-clause-kept : goal.returns-in-Ok-clause-kept
returns-in-Ok-clause-kept c =
    join_kept c.args.self c.requires c.args.own c.args.channel c.in-Ok.fresh (sym c.in-Ok.is ∙ c.start.ensures.value) _ c.seat.ensures
