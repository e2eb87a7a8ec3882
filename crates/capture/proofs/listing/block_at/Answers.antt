-- `block_at` meets its contract: the end of what is used lies in the block.
use Rattle.std.proofs.Common.{arith, drop, length, length-take, sym, ◌-◌}
use Rattle.block.proofs.Ending.{end_inside}
use Rattle.block.proofs.Judging.{used_within}
use Rattle.capture.proofs.listing.block_at.Goals as goal

pub overflow_add-result-in-Some : goal.overflow_add-result-in-Some
overflow_add-result-in-Some c =
    let a = c.args in
    let used = used_within _ _ (sym c.in-Some.ensures) in
    let end = end_inside a.at (length a.blocks.now) (omega (arith, c.if-blocks-at.false)) in
    omega (arith, used, end, c.end_after-end.ensures, length-take (c.end_after-end.result - a.at) (drop a.at a.blocks.now))
