-- `read` meets its contract. The invariant: what was said so far, and what the elements from here on add to it is what the body
-- says; the measure is what is left.
-- Assumes nothing.
use Rattle.std.specs.Prelude.{Err, None, Some, is_some}
use Rattle.std.proofs.Common.{rules, Bool, List, [], ap, ap₂, arith, drop, false, length, length-drop, length-take-le, refl, subst, sym, take, true, ℕ, ◌-◌, ◌∙◌, ◌≡◌}
use Rattle.answer.specs.Checks.{Outcome}
use Rattle.answer.specs.Faults.{Placed, placed_at}
use Rattle.answer.proofs.Placing.{placed_value}
use Rattle.std.proofs.lemmas.Result.{err_from_is_err_and}
use Rattle.walk.specs.Elements.{elements_in, past_element}
use Rattle.walk.specs.CodeTerms.Found.{follow, Within}
use Rattle.walk.specs.declared.Found.{Found}
use Rattle.beacon.specs.Allowed.{Allowed}
use Rattle.beacon.specs.Beacons.{Told, tells, opening, body_means}
use Rattle.beacon.specs.CodeTerms.Adding.{added_told, SlotlessIn}
use Rattle.beacon.specs.CodeTerms.Naming.{reads_dfs, takes_where, first_dfs, naming_laid}
use Rattle.beacon.specs.CodeTerms.Quieting.{QuietAt}
use Rattle.beacon.specs.IbssBeacons.{ToldInIbss, tells_in_ibss, told_where}
use Rattle.beacon.specs.Laid.{laid}
use Rattle.beacon.specs.Notices.{elementless}
use Rattle.beacon.proofs.Allowing.{opening_allowed}
use Rattle.beacon.proofs.InIbss.{where_read}
use Rattle.beacon.proofs.Saying.{short_body, other_interval, body_says}
use Rattle.beacon.proofs.GoingUp.{mapped, placed_fault}
use Rattle.beacon.proofs.Walking.{Comes, at_end, at_cut, at_bad_dfs, at_dfs, at_refused, at_notice, no_slot, at_quiet}
use Rattle.beacon.proofs.read.Goals as goal
use Rattle.beacon.proofs.read.Goals.{After-add_element-next, After-map_err, After-map_err-else-reads_dfs, After-read_dfs-next, In-Some}
use Rattle.beacon.specs.declared.Notice.{Notice}

-- ---- before the loop
-- what a body means as the code goes over it, and what it is to mean
goes_over : (ibss : Bool) (interval : ℕ) (body : List ℕ) {o : Placed ToldInIbss}
    → o ≡ body_means (takes_where ibss interval) (tells_in_ibss (opening body) None) interval body → o ≡ told_where ibss interval body
goes_over ibss interval body e = e ∙ where_read interval ibss body

pub returns-then-body-lt-FIXED_LENGTH : goal.returns-then-body-lt-FIXED_LENGTH
returns-then-body-lt-FIXED_LENGTH c =
    let a = c.args in
    ap Err c.nowhere.ensures
    ∙ ap (laid a.index)
    (goes_over a.ibss a.interval a.body.now (short_body (takes_where a.ibss a.interval) _ a.interval a.body.now c.if-body-lt-FIXED_LENGTH.true))

pub returns-then-number16-interval : goal.returns-then-number16-interval
returns-then-number16-interval c =
    let a = c.args in
    ap Err c.at.ensures
    ∙ ap (laid a.index)
    (goes_over a.ibss a.interval a.body.now
    (other_interval (takes_where a.ibss a.interval) _ a.interval a.body.now _ c.if-body-lt-FIXED_LENGTH.false c.number16.ensures c.if-number16-interval.true))

pub loop-quiet-init : goal.loop-quiet-init
loop-quiet-init c =
    let a = c.args in
    let fixed = ap₂ (λ (t n : ℕ). tells (elementless t n) []) c.number64.ensures c.number16-2.ensures in
    record {
      quiets = [];
      kept_quiets = refl;
      kept_count = refl;
      named = None;
      kept_dfs = refl;
      allowed = subst (Allowed a.interval) (sym fixed) (opening_allowed a.interval a.body.now);
      rest =
          goes_over a.ibss a.interval a.body.now
          (body_says (takes_where a.ibss a.interval) (tells_in_ibss (opening a.body.now) None) a.interval a.body.now _ c.if-body-lt-FIXED_LENGTH.false c.number16.ensures c.if-number16-interval.false
          (ap (λ (t : Told). tells_in_ibss t None) fixed));
    }

-- ---- a Quiet element that finds a slot stands at the place
quiet : (c : In-Some)
    → QuietAt c.args.body.now c.loop-quiet.at c.loop-quiet.count c.args.interval (Some c.in-Some.quiet)
quiet c = subst (QuietAt c.args.body.now c.loop-quiet.at c.loop-quiet.count c.args.interval) c.in-Some.is c.quiet_at.ensures

pub bounds-quiets-count : goal.bounds-quiets-count
bounds-quiets-count c = omega (arith, (quiet c).1)

pub loop-quiet-smaller-in-Some : goal.loop-quiet-smaller-in-Some
loop-quiet-smaller-in-Some c = omega (arith, (quiet c).0.inside)

pub loop-quiet-preserved-in-Some : goal.loop-quiet-preserved-in-Some
loop-quiet-preserved-in-Some c =
    at_quiet _ _ _ _ _ _ _ _ _ c.loop-quiet.invariant _ (quiet c)

-- ---- none does, and no whole element
pub returns-in-End : goal.returns-in-End
returns-in-End c = at_end _ _ _ _ _ _ _ _ _ c.loop-quiet.invariant _ c.element_at.ensures.run_value c.in-End.is

pub returns-in-CutHeader : goal.returns-in-CutHeader
returns-in-CutHeader c =
    ap Err c.at-in-CutHeader.ensures
    ∙ ap (laid c.args.index) (at_cut _ _ _ _ _ _ _ _ _ c.loop-quiet.invariant _ c.element_at.ensures.run_value c.in-CutHeader.is)

-- ---- a whole element: it lies in the body, the elements from the place on are this one and those after it, and where those begin
module _ (body : List ℕ) (at id start end : ℕ) {f : Found} (e : f ≡ Found.Whole id start end) where
  inside : Within at (length body) f → Within at (length body) (Found.Whole id start end)
  inside = subst (Within at (length body)) e

  goes_on : elements_in (drop at body) ≡ follow body f → elements_in (drop at body) ≡ follow body (Found.Whole id start end)
  goes_on r = r ∙ ap (follow body) e

  past : Within at (length body) f → past_element at (take (end - start) (drop start body)) ≡ end
  past within =
      let w = inside within in
      omega (arith, w, length-take-le (end - start) (drop start body) (simp length-drop (omega (arith, w))))

-- ---- element 41: it is one that is read, and its refusal goes up with the place
reads : (c : After-read_dfs-next) → reads_dfs c.args.ibss c.in-Whole.id ≡ true
reads c = sym c.reads_dfs.ensures ∙ c.if-reads_dfs.true

placed : (c : After-map_err) → c.map_err.result ≡ placed_at c.loop-quiet.at c.read_dfs-next.result
placed c = mapped c.loop-quiet.at c.read_dfs-next.result (λ r x g. search rules) c.map_err.ensures.cases

-- what was handed out by whether one was named before
named : (c : After-read_dfs-next) → c.read_dfs-next.result ≡ naming_laid c.args.index (first_dfs (is_some c.loop-quiet.dfs) (take (c.in-Whole.end - c.in-Whole.start) (drop c.in-Whole.start c.args.body.now)))
named c = search rules

pub returns-in_err-map_err-in-Whole : goal.returns-in_err-map_err-in-Whole
returns-in_err-map_err-in-Whole c =
    let k = goal.at.returns-in_err-map_err-in-Whole c in
    let n = c.element_at.ensures in
    let f = placed_fault c.loop-quiet.at c.read_dfs-next.result (sym (placed k.After-map_err) ∙ c.in_err-map_err-in-Whole.was) in
    let up = err_from_is_err_and c.from_residual.result c.from_residual.ensures.1 in
    up.1 ∙ ap Err (up.2 ∙ sym f.2)
    ∙ ap (laid c.args.index)
    (at_bad_dfs _ _ _ _ _ _ _ _ _ c.loop-quiet.invariant _ _ c.in-Whole.end (goes_on _ _ _ _ _ c.in-Whole.is n.run_value) (past _ _ _ _ _ c.in-Whole.is n.within)
    (reads k.After-read_dfs-next) c.read_dfs-next.result (named k.After-read_dfs-next) f.0 f.1)

pub loop-quiet-preserved-in_ok-map_err-in-Whole : goal.loop-quiet-preserved-in_ok-map_err-in-Whole
loop-quiet-preserved-in_ok-map_err-in-Whole c =
    let k = goal.at.loop-quiet-preserved-in_ok-map_err-in-Whole c in
    let n = c.element_at.ensures in
    at_dfs _ _ _ _ _ _ _ _ _ c.loop-quiet.invariant _ _ c.in-Whole.end (goes_on _ _ _ _ _ c.in-Whole.is n.run_value) (past _ _ _ _ _ c.in-Whole.is n.within)
    (reads k.After-read_dfs-next) c.read_dfs-next.result (named k.After-read_dfs-next) c.in_ok-map_err-in-Whole.field-0
    (placed_value c.loop-quiet.at c.read_dfs-next.result (sym (placed k.After-map_err) ∙ c.in_ok-map_err-in-Whole.was))

-- ---- any other
skips : (c : After-add_element-next) → reads_dfs c.args.ibss c.in-Whole.id ≡ false
skips c = sym c.reads_dfs.ensures ∙ c.if-reads_dfs.false

abbrev contents : After-add_element-next → List ℕ
contents c = take (c.in-Whole.end - c.in-Whole.start) (drop c.in-Whole.start c.args.body.now)

goes : (c : After-add_element-next)
    → elements_in (drop c.loop-quiet.at c.args.body.now) ≡ follow c.args.body.now (Found.Whole c.in-Whole.id c.in-Whole.start c.in-Whole.end)
goes c = goes_on _ _ _ _ _ c.in-Whole.is c.element_at.ensures.run_value

ends : (c : After-add_element-next) → past_element c.loop-quiet.at (contents c) ≡ c.in-Whole.end
ends c = past _ _ _ _ _ c.in-Whole.is c.element_at.ensures.within

-- if it is a Quiet element that is not refused, no slot is left for it: one that finds a slot does not come here
full : (c : After-add_element-next) → SlotlessIn c.loop-quiet.invariant.quiets c.args.interval c.in-Whole.id (contents c)
full c =
    no_slot _ _ _ _ _ _ _ _ _ c.loop-quiet.invariant _ _ c.in-Whole.end (goes c) (ends c)
    (subst (QuietAt c.args.body.now c.loop-quiet.at c.loop-quiet.count c.args.interval) c.in-None.is c.quiet_at.ensures)

-- what was added is what the definition adds
comes : (c : After-add_element-next) (x : Outcome Notice) → c.add_element-next.result ≡ x
    → Comes _ _ _ _ _ _ _ _ _ c.loop-quiet.invariant c.in-Whole.id (contents c) c.in-Whole.end (goes c) (ends c) x
comes c x e =
    let w = c.loop-quiet.invariant in
    ap (added_told w.quiets) (sym e) ∙ c.add_element-next.ensures w.quiets (full c)

added : (c : After-map_err-else-reads_dfs) → c.map_err-else-reads_dfs.result ≡ placed_at c.loop-quiet.at c.add_element-next.result
added c = mapped c.loop-quiet.at c.add_element-next.result (λ r x g. search rules) c.map_err-else-reads_dfs.ensures.cases

pub returns-in_err-notice-in-Whole : goal.returns-in_err-notice-in-Whole
returns-in_err-notice-in-Whole c =
    let s = goal.at.returns-in_err-notice-in-Whole c in
    let k = s.After-add_element-next in
    let f = placed_fault c.loop-quiet.at c.add_element-next.result (sym (added s.After-map_err-else-reads_dfs) ∙ c.in_err-notice-in-Whole.was) in
    let up = err_from_is_err_and c.from_residual-in_err-notice-in-Whole.result c.from_residual-in_err-notice-in-Whole.ensures.1 in
    up.1 ∙ ap Err (up.2 ∙ sym f.2)
    ∙ ap (laid c.args.index) (at_refused _ _ _ _ _ _ _ _ _ c.loop-quiet.invariant _ _ c.in-Whole.end (goes k) (ends k) (skips k) f.0 (comes k _ f.1))

pub loop-quiet-preserved : goal.loop-quiet-preserved
loop-quiet-preserved c =
    let s = goal.at.loop-quiet-preserved c in
    let k = s.After-add_element-next in
    at_notice _ _ _ _ _ _ _ _ _ c.loop-quiet.invariant _ _ c.in-Whole.end (goes k) (ends k) (skips k) _
    (comes k _ (placed_value c.loop-quiet.at c.add_element-next.result (sym (added s.After-map_err-else-reads_dfs) ∙ c.in_ok-notice-in-Whole.was)))
