-- `feed_all` meets its contract: refused where there is no room, else the lines of the blocks.
use Rattle.std.proofs.Common.{List, ap, length, subst, sym, ℕ, ◌∙◌, ◌≡◌}
use Rattle.answer.specs.Checks.{Answer}
use Rattle.block.specs.Blocks.{blocks_of}
use Rattle.capture.specs.CodeTerms.Rooms.{room_for}
use Rattle.capture.specs.Feeding.{feed_means, FedWith}
use Rattle.capture.specs.Lists.{blocks_in, blocks_told}
use Rattle.capture.specs.declared.feeding.Listing.{Listing}
use Rattle.capture.proofs.FedBlocks.{blocks_counted}
use Rattle.capture.proofs.Fitting.{not_fed, fed}
use Rattle.capture.proofs.lister.Lister.feed_all.Goals as goal

-- what was asked of the room is asked of as many blocks as there are
asked : {o : Answer} {n : ℕ} (file : List ℕ) (blocks size : ℕ) → o ≡ room_for blocks n size → n ≡ blocks_of (length file) → o ≡ room_for blocks (length (blocks_in file)) size
asked file blocks size e counted = e ∙ ap (λ (n : ℕ). room_for blocks n size) (counted ∙ sym (blocks_counted file))

pub returns-in-Err-clause-fed_with : goal.returns-in-Err-clause-fed_with
returns-in-Err-clause-fed_with c =
    let a = c.args in
    let bs = blocks_in a.blocks.now in
    let told = blocks_told bs a.self in
    subst (λ (x : Listing). FedWith (feed_means a.self (length bs) told (length a.out.now)) a.self a.out.now x a.out.now)
    (sym c.refused.ensures) (not_fed a.self (length bs) told a.out.now (asked a.blocks.now _ _ c.in-Err.ensures c.count_in.ensures))

pub returns-in-Ok-clause-fed_with : goal.returns-in-Ok-clause-fed_with
returns-in-Ok-clause-fed_with c =
    let a = c.args in
    let bs = blocks_in a.blocks.now in
    let told = blocks_told bs a.self in
    let put = c.put_blocks in
    subst (λ (x : Listing). FedWith (feed_means a.self (length bs) told (length a.out.now)) a.self a.out.now x put.new.out)
    (sym c.listed.ensures)
    (fed a.self (length bs) told a.out.now (asked a.blocks.now _ _ c.in-Ok.ensures c.count_in.ensures) put.result put.ensures.fed put.ensures.out_after)
