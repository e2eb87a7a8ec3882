-- `pass_block` meets its contract: the lines are made in the room, and put from there. That they are refused does not come to pass.
use Rattle.std.proofs.Common.{Err, List, ap, arith, rules, ℕ, ◌∙◌, ◌≡◌}
use Rattle.octets.specs.Writing.{left}
use Rattle.capture.specs.Lists.{block_told}
use Rattle.boundary.proofs.Passes.{all_wrote, not_refused, made_lines, not_passed, now_passed}
use Rattle.boundary.proofs.whole.pass_block.Goals as goal
use Rattle.boundary.proofs.whole.pass_block.Goals.{After-from_residual}

refused : After-from_residual → ⊥
refused c = let a = c.args in not_refused a.before.lister a.block.now a.room.now c.requires.bounds.1 c.requires.bounds.0 c.feed-listing.ensures.fed_with c.in_err-made.was

pub returns-in_err-made-clause-answer : goal.returns-in_err-made-clause-answer
returns-in_err-made-clause-answer c = absurd (refused c)

pub returns-in_err-made-clause-out_after : goal.returns-in_err-made-clause-out_after
returns-in_err-made-clause-out_after c = absurd (refused c)

pub returns-in_err-put-clause-answer : goal.returns-in_err-put-clause-answer
returns-in_err-put-clause-answer c =
    let a = c.args in
    let w = made_lines a.before.lister a.block.now a.room.now c.requires.bounds.1 c.requires.bounds.0 c.feed-listing.ensures.fed_with c.in_ok-made.was in
    let up : c.from_residual-in_err-put.result ≡ Err c.in_err-put.field-0.0 = search rules in
    up ∙ not_passed a.before.count (block_told a.block.now a.before.lister) a.out.now w.2 c.in_err-put.ensures.answers

pub returns-in_err-put-clause-out_after : goal.returns-in_err-put-clause-out_after
returns-in_err-put-clause-out_after c =
    let a = c.args in
    let w = made_lines a.before.lister a.block.now a.room.now c.requires.bounds.1 c.requires.bounds.0 c.feed-listing.ensures.fed_with c.in_ok-made.was in
    c.put_lines.ensures.leaves ∙ ap (λ (os : List ℕ). left a.store os a.before.count a.out.now) w.2

pub overflow_add-result : goal.overflow_add-result
overflow_add-result c = omega (arith, all_wrote _ c.args.before.count c.args.out.now c.in_ok-put.ensures.answers)

pub returns-clause-answer : goal.returns-clause-answer
returns-clause-answer c =
    let a = c.args in
    let w = made_lines a.before.lister a.block.now a.room.now c.requires.bounds.1 c.requires.bounds.0 c.feed-listing.ensures.fed_with c.in_ok-made.was in
    now_passed a.before.count (block_told a.block.now a.before.lister) a.out.now w.2 c.in_ok-put.ensures.answers w.1

pub returns-clause-out_after : goal.returns-clause-out_after
returns-clause-out_after c =
    let a = c.args in
    let w = made_lines a.before.lister a.block.now a.room.now c.requires.bounds.1 c.requires.bounds.0 c.feed-listing.ensures.fed_with c.in_ok-made.was in
    c.put_lines.ensures.leaves ∙ ap (λ (os : List ℕ). left a.store os a.before.count a.out.now) w.2
