-- Row after row hears what was read.
use Rattle.std.proofs.Common.{arith, ap, length, length-set, get_or, set, sym, subst, take, map, drop, List, ◌<◌, ◌∙◌, ◌≡◌, ◌++◌}
use Rattle.std.proofs.lemmas.List.{get_or_default}
use Rattle.std.proofs.lemmas.List.Edits.{map_over_more}
use Rattle.std.proofs.lemmas.List.Elements.{All-get_or}
use Rattle.row.specs.Rows.{ValidRow, row_heard}
use Rattle.row.specs.declared.Row.{Row}
use Rattle.row.proofs.InTurn.{still}
use Rattle.row.proofs.hearing.hear_all.Goals as goal

pub hear-requires : goal.hear-requires
hear-requires c =
    let l = c.loop-i in
    let rows = c.args.rows in
    let here : l.i < length rows = omega (arith, c.requires.sixteen) in
    subst ValidRow (sym (still (row_heard c.args.received) rows l.next l.i _ here l.invariant.0)) (All-get_or ValidRow rows l.i _ here c.requires.each)

pub loop-i-preserved : goal.loop-i-preserved
loop-i-preserved c =
    let l = c.loop-i in
    let rows = c.args.rows in
    let here : l.i < length rows = omega (arith, c.requires.sixteen) in
    let inner : l.i < length l.next = omega (arith, here, l.invariant.1) in (
      ap (λ (w : Row). set l.next l.i w) c.hear.ensures.value
          ∙ map_over_more (row_heard c.args.received) rows l.next l.i _ here l.invariant.0 (get_or_default l.next l.i _ _ inner),
      simp length-set l.invariant.1,
    )
