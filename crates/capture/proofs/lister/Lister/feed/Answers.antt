-- `feed` meets its contract: refused where there is no room, else the lines of the block.
use Rattle.std.proofs.Common.{length, subst, sym}
use Rattle.capture.specs.Feeding.{feed_means, FedWith}
use Rattle.capture.specs.Lists.{block_told}
use Rattle.capture.specs.declared.feeding.Listing.{Listing}
use Rattle.capture.proofs.Fitting.{not_fed, fed}
use Rattle.capture.proofs.lister.Lister.feed.Goals as goal

pub returns-in-Err-clause-fed_with : goal.returns-in-Err-clause-fed_with
returns-in-Err-clause-fed_with c =
    let a = c.args in
    let told = block_told a.block.now a.self in
    subst (λ (x : Listing). FedWith (feed_means a.self 1 told (length a.out.now)) a.self a.out.now x a.out.now)
    (sym c.refused.ensures) (not_fed a.self 1 told a.out.now c.in-Err.ensures)

pub returns-in-Ok-clause-fed_with : goal.returns-in-Ok-clause-fed_with
returns-in-Ok-clause-fed_with c =
    let a = c.args in
    let told = block_told a.block.now a.self in
    let put = c.put_block in
    subst (λ (x : Listing). FedWith (feed_means a.self 1 told (length a.out.now)) a.self a.out.now x put.new.out)
    (sym c.listed.ensures)
    (fed a.self 1 told a.out.now c.in-Ok.ensures put.result put.ensures.fed put.ensures.out_after)
