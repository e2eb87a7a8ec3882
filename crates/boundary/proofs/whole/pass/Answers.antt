-- `pass` meets its contract: the blocks before the rest are passed, and then the closing line.
use Rattle.std.proofs.Common.{Err, Ok, List, ap, arith, length, min, refl, rules, subst, sym, ℕ, ◌∙◌, ◌≡◌}
use Rattle.std.specs.Slice.Iter.{chunks_rest, chunks_size}
use Rattle.answer.specs.Checks.{Outcome}
use Rattle.pen.proofs.InRoom.{in_front_lem}
use Rattle.capture.specs.Lists.{blocks_in, blocks_told, closing_for, list_of}
use Rattle.capture.specs.declared.lister.Lister.{Lister}
use Rattle.boundary.specs.CodeTerms.Passing.{Passes}
use Rattle.boundary.proofs.Passes.{Standing, begins, all_wrote, passes, stops, closes, closes_short}
use Rattle.boundary.proofs.whole.pass.Goals as goal

pub loop-block-init : goal.loop-block-init
loop-block-init c =
    let a = c.args in
    let f = c.fresh.ensures in
    let same = c.into_iter-block-iterator.ensures.into_iter_gives in
    let rest : chunks_rest c.into_iter-block-iterator.result ≡ a.file.now = ap (λ s. chunks_rest s) same ∙ c.chunks-block-items.ensures.rest in
    record {
      standing =
          subst (Standing a.file.now a.store a.out.now a.out.now (record { count = 0; lister = c.fresh.result })) (sym rest)
          (begins a.file.now a.store a.out.now _ refl (ap (blocks_told (blocks_in a.file.now)) (sym f.value)) f.fits (ap (λ (l : Lister). l.blocks) f.value));
      size = ap (λ s. chunks_size s) same ∙ c.chunks-block-items.ensures.size;
      room = refl;
      may = c.requires;
    }

pub returns-in_err-passed : goal.returns-in_err-passed
returns-in_err-passed c =
    let a = c.args in
    let i = c.loop-block.invariant in
    let step = c.in-Some.ensures.steps.1 in
    let size = step.1 ∙ ap (λ (n : ℕ). min n (length (chunks_rest c.loop-block.block-iterator))) i.size in
    let up : c.from_residual.result ≡ Err c.in_err-passed.field-0.0 = search rules in
    subst (λ (o : Outcome ℕ). Passes a.store (list_of a.file.now) 0 a.out.now o c.pass_block.new.out) (sym up)
    (stops i.standing c.in-Some.block.now _ step.0 size step.2 c.in_err-passed.ensures.answer c.in_err-passed.ensures.out_after i.may)

pub loop-block-preserved : goal.loop-block-preserved
loop-block-preserved c =
    let i = c.loop-block.invariant in
    let step = c.in-Some.ensures.steps.1 in
    let size = step.1 ∙ ap (λ (n : ℕ). min n (length (chunks_rest c.loop-block.block-iterator))) i.size in
    let w = c.in_ok-passed in
    record {
      standing = passes i.standing c.in-Some.block.now _ step.0 size step.2 w.ensures.answer w.ensures.still_fits w.ensures.out_after;
      size = c.in-Some.ensures.steps.0 ∙ i.size;
      room = (let same : length c.pass_block.new.room ≡ length c.loop-block.room = search rules in same ∙ i.room);
      may = i.may;
    }

pub returns-in_err-last : goal.returns-in_err-last
returns-in_err-last c =
    let a = c.args in
    let l = c.loop-block in
    let i = l.invariant in
    let up : c.from_residual-in_err-last.result ≡ Err c.in_err-last.field-0.0 = search rules in
    let line = in_front_lem c.closing-closing.result (closing_for l.passed.lister) c.closing-closing.ensures in
    subst (λ (o : Outcome ℕ). Passes a.store (list_of a.file.now) 0 a.out.now o c.put_lines.new.out) (sym up)
    (closes_short i.standing c.in-None.ensures.steps.1.0 i.may (subst (λ (os : List ℕ). Passes a.store os l.passed.count l.out (Err c.in_err-last.field-0.0) c.put_lines.new.out) line c.in_err-last.ensures))

pub overflow_add-result : goal.overflow_add-result
overflow_add-result c = omega (arith, all_wrote _ c.loop-block.passed.count c.loop-block.out c.in_ok-last.ensures.answers)

pub returns : goal.returns
returns c =
    let a = c.args in
    let l = c.loop-block in
    let line = in_front_lem c.closing-closing.result (closing_for l.passed.lister) c.closing-closing.ensures in
    closes l.invariant.standing c.in-None.ensures.steps.1.0 (subst (λ (os : List ℕ). Passes a.store os l.passed.count l.out (Ok c.in_ok-last.last) c.put_lines.new.out) line c.in_ok-last.ensures)
