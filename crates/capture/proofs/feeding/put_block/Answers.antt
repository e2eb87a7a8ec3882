-- `put_block` meets its contract: a block alone, or one that is damaged for its length.
use Rattle.std.proofs.Common.{List, [], ◌∷◌, ap, arith, length, subst, ℕ, ◌∙◌, ◌≡◌}
use Rattle.octets.specs.Writing.{filled}
use Rattle.capture.specs.CodeTerms.Following.{Fed}
use Rattle.capture.specs.Lists.{Told, blocks_in}
use Rattle.capture.specs.declared.lister.Lister.{Lister}
use Rattle.capture.specs.declared.listing.Put.{Put}
use Rattle.capture.proofs.FedBlocks.{alone, alone_told, other_told}
use Rattle.capture.proofs.feeding.put_block.Goals as goal

-- octet 0 alone is one block
zero_alone : length (blocks_in (0 ∷ [])) ≡ 1
zero_alone = ap length (alone (0 ∷ []) (omega arith) (omega arith))

-- what was fed tells the same
fed-as : {l : Lister} {put : Put} {t u : Told} → t ≡ u → Fed l t put → Fed l u put
fed-as {l} {put} e f = subst (λ (x : Told). Fed l x put) e f

filled-as : (out : List ℕ) {exit : List ℕ} {t u : Told}
    → t ≡ u → exit ≡ filled t.text out → exit ≡ filled u.text out
filled-as out e f = f ∙ ap (λ (x : Told). filled x.text out) e

-- ---- a block of the right length

pub put_blocks-requires-clause-few_blocks : goal.put_blocks-requires-clause-few_blocks
put_blocks-requires-clause-few_blocks c =
    let size = c.if-block-eq-SIZE.true in
    let one = ap length (alone c.args.block.now (omega (arith, size)) (omega (arith, size))) in
    omega (arith, one, c.requires.few_blocks)

pub put_blocks-requires-clause-room : goal.put_blocks-requires-clause-room
put_blocks-requires-clause-room c =
    let size = c.if-block-eq-SIZE.true in
    let one = ap length (alone c.args.block.now (omega (arith, size)) (omega (arith, size))) in
    omega (arith, one, c.requires.room)

pub returns-then-block-eq-SIZE : goal.returns-then-block-eq-SIZE
returns-then-block-eq-SIZE c =
    let size = c.if-block-eq-SIZE.true in
    let same = alone_told c.args.block.now (omega (arith, size)) (omega (arith, size)) c.args.lister in
    record {
      fed = fed-as same c.put_blocks.ensures.fed;
      out_after = filled-as _ same c.put_blocks.ensures.out_after;
    }

-- ---- a block of another length

pub put_blocks-requires-2-clause-few_blocks : goal.put_blocks-requires-2-clause-few_blocks
put_blocks-requires-2-clause-few_blocks c = omega (arith, zero_alone, c.requires.few_blocks)

pub put_blocks-requires-2-clause-room : goal.put_blocks-requires-2-clause-room
put_blocks-requires-2-clause-room c = omega (arith, zero_alone, c.requires.room)

pub returns : goal.returns
returns c =
    let l = c.args.lister in
    let same =
    alone_told (0 ∷ []) (omega arith) (omega arith) l
    ∙ other_told (0 ∷ []) c.args.block.now l (λ e. absurd (omega (arith, e)))
    c.if-block-eq-SIZE.false in
    record {
      fed = fed-as same c.put_blocks-2.ensures.fed;
      out_after = filled-as _ same c.put_blocks-2.ensures.out_after;
    }
