-- `survey` meets its contract: listing the rest after what was met is listing the whole.
use Rattle.std.specs.Prelude.{Err, Some}
use borrow.Author.Tests.{ltb-false}
use Rattle.std.proofs.Common.{List, ap, arith, drop, eqb, false, true, set, ne_eqb, ◌+◌, get_or, rules, subst, sym, take, ◌&&◌, ◌-◌, ◌∙◌, ◌≡◌, ℕ}
use Rattle.std.proofs.lemmas.Grind.{common_steps}
use Rattle.answer.specs.Checks.{pick}
use Rattle.walk.proofs.Kept.{kept_ok}
use Rattle.walk.proofs.Passing.{stands_at, no_further_back}
use Rattle.walk.proofs.Requiring.{Lies, lies}
use Rattle.measurement_body.specs.Kinds.{sort_of}
use Rattle.measurement_body.specs.Surveys.{surveyed}
use Rattle.measurement_body.proofs.Judgements.{Holds, holds}
use Rattle.measurement_body.proofs.Walked.{Walked, start, or_fault, absent_told, unfit_told, again, cut_after, further, read, refused_as}
use Rattle.measurement_body.proofs.surveying.survey.Goals as goal
use Rattle.measurement_body.proofs.surveying.survey.Goals.{
  After-has_left_over,
  After-judge,
  After-pass_over,
}

pub loop-contents-init : goal.loop-contents-init
loop-contents-init c = record { walked = start (sort_of c.args.kind) c.args.body.now c.args.index; goes = search rules }

pub returns-in_err-contents : goal.returns-in_err-contents
returns-in_err-contents c =
    let a = c.args in
    let s = sort_of a.kind in
    let told : c.from_residual.result ≡ or_fault c.loop-contents.at c.required_at.result (surveyed s a.index a.token a.body.now) = search rules in
    told ∙ absent_told c.loop-contents.invariant.walked c.loop-contents.invariant.goes c.id.result c.id.ensures a.token c.required_at.result c.required_at.ensures.result_value

-- ---- the element that a turn meets
module _ (c : After-judge) where
  -- it lies in the body, from where the walk stands, between two places
  place : Lies c.args.body.now c.loop-contents.at (sort_of c.args.kind).id c.in_ok-contents.contents
  place =
      let r = c.required_at in
      subst (λ (n : ℕ). Lies c.args.body.now c.loop-contents.at n c.in_ok-contents.contents) c.id.ensures
      (lies c.args.body.now c.loop-contents.at c.id.result r.result r.ensures.result_value r.ensures.required_within (kept_ok _ _ r.result c.in_ok-contents.ensures.variant c.in_ok-contents.ensures.cases))

  abbrev contents : List ℕ
  contents = take (c.in_ok-contents.contents.end - c.in_ok-contents.contents.start) (drop c.in_ok-contents.contents.start c.args.body.now)

pub returns-in_err-judged : goal.returns-in_err-judged
returns-in_err-judged c =
    let a = c.args in
    let s = sort_of a.kind in
    let told : c.from_residual-in_err-judged.result ≡ or_fault c.loop-contents.at c.judge.result (surveyed s a.index a.token a.body.now) = search rules in
    told ∙ unfit_told c.loop-contents.invariant.walked (place (goal.at.returns-in_err-judged c).After-judge) a.token c.judge.result c.judge.ensures

pub returns-then-marks-mark : goal.returns-then-marks-mark
returns-then-marks-mark c =
    let a = c.args in
    let s = sort_of a.kind in
    let k = (goal.at.returns-then-marks-mark c).After-judge in
    let h = holds s (contents k) (sym (kept_ok _ _ c.judge.result c.in_ok-judged.ensures.variant c.in_ok-judged.ensures.cases) ∙ c.judge.ensures) in
    let repeat : (s.once && get_or c.loop-contents.marks c.in_ok-judged.judged.token false) ≡ true = grind (arith, common_steps) in
    ap Err c.at.ensures ∙ refused_as s a.index a.token a.body.now (again c.loop-contents.invariant.walked (place k) h (search rules) repeat)

-- ---- past what is passed over

module _ (c : After-pass_over) where
  held : Holds (sort_of c.args.kind) (take (c.in_ok-contents.contents.end - c.in_ok-contents.contents.start) (drop c.in_ok-contents.contents.start c.args.body.now)) c.in_ok-judged.judged
  held = holds (sort_of c.args.kind) _ (sym (kept_ok _ _ c.judge.result c.in_ok-judged.ensures.variant c.in_ok-judged.ensures.cases) ∙ c.judge.ensures)

  -- no repeat
  new : ((sort_of c.args.kind).once && get_or c.loop-contents.marks c.in_ok-judged.judged.token false) ≡ false
  new = grind (arith, common_steps)

pub returns-in_err-at : goal.returns-in_err-at
returns-in_err-at c =
    let a = c.args in
    let s = sort_of a.kind in
    let k = goal.at.returns-in_err-at c in
    let told : c.from_residual-in_err-at.result ≡ Err c.in_err-at.field-0.0 = search rules in
    told ∙ refused_as s a.index a.token a.body.now
    (cut_after c.loop-contents.invariant.walked (place k.After-judge) (held k.After-pass_over) (search rules) (new k.After-pass_over) (sym c.pass_over.ensures ∙ c.in_err-at.was))

pub loop-contents-smaller : goal.loop-contents-smaller
loop-contents-smaller c =
    let p = place (goal.at.loop-contents-smaller c).After-judge in
    let on = no_further_back _ _ (ap stands_at (sym c.pass_over.ensures ∙ c.in_ok-at.was)) in
    omega (arith, p.begins, p.ordered, p.inside)

-- the walk with this one too
module _ (c : After-has_left_over) where
  place-is : c.if-count-index.place ≡ pick (eqb c.loop-contents.count c.args.index) (Some c.in_ok-contents.contents) c.loop-contents.place
  place-is = grind (arith, common_steps)

  plain-is : c.if-judged.plain ≡ (c.loop-contents.plain && c.in_ok-judged.judged.plain && eqb c.in_ok-at.at c.in_ok-contents.contents.end)
  plain-is = grind (arith, common_steps)

  walked-on : (Lies c.args.body.now c.loop-contents.at (sort_of c.args.kind).id c.in_ok-contents.contents)
      → Holds (sort_of c.args.kind) (take (c.in_ok-contents.contents.end - c.in_ok-contents.contents.start) (drop c.in_ok-contents.contents.start c.args.body.now)) c.in_ok-judged.judged
      → ((sort_of c.args.kind).once && get_or c.loop-contents.marks c.in_ok-judged.judged.token false) ≡ false
      → Walked (sort_of c.args.kind) c.args.body.now c.args.index (set c.loop-contents.marks c.in_ok-judged.judged.token true) (c.loop-contents.count + 1) c.in_ok-at.at c.if-count-index.place c.if-judged.plain
  walked-on l h n = rw (place-is, plain-is) (further c.loop-contents.invariant.walked l h (search rules) n (sym c.pass_over.ensures ∙ c.in_ok-at.was))

pub returns-then-not-has_left_over : goal.returns-then-not-has_left_over
returns-then-not-has_left_over c =
    let k = goal.at.returns-then-not-has_left_over c in
    read (walked-on k.After-has_left_over (place k.After-judge) (held k.After-pass_over) (new k.After-pass_over)) (omega arith) (ltb-false _ _ (sym c.has_left_over.ensures ∙ c.if-not-has_left_over.true)) c.args.token (search rules)

pub loop-contents-preserved : goal.loop-contents-preserved
loop-contents-preserved c =
    let k = goal.at.loop-contents-preserved c in
    record {
      walked = walked-on k.After-has_left_over (place k.After-judge) (held k.After-pass_over) (new k.After-pass_over);
      goes = simp (ne_eqb (c.loop-contents.count + 1) 0 (λ z. omega arith), sym c.has_left_over.ensures ∙ c.if-not-has_left_over.false);
    }
