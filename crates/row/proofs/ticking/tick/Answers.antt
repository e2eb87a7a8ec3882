use Rattle.std.proofs.Common.{arith, ap, set, ◌<◌, ◌∙◌, length}
use Rattle.std.proofs.lemmas.List.{get_or_default}
use Rattle.std.proofs.lemmas.List.Edits.{map_over_more}
use Rattle.std.proofs.lemmas.List.Elements.{All-set}
use Rattle.row.specs.Rows.{ValidRow, row_ticked}
use Rattle.row.proofs.ticking.tick.Goals as goal

pub loop-row-preserved : goal.loop-row-preserved
loop-row-preserved c =
    let rows = c.loop-row.row-items in
    let i = c.loop-row.row-index in
    let here : i < length rows = omega arith in (
      ap (λ w. set rows i w) c.advance.ensures.value
          ∙ map_over_more (row_ticked c.args.units) _ rows i _ (omega arith) c.loop-row.invariant.0 (get_or_default rows i _ _ here),
      All-set ValidRow rows i _ c.advance.ensures.kept c.loop-row.invariant.1,
    )
