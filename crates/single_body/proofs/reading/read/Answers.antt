-- `read` meets its contract: past the element that has to be there, each way out is a way of a body of one element.
use Rattle.std.specs.Prelude.{Ok, Err}
use borrow.Author.Tests.{ltb-true, ltb-false}
use Rattle.std.proofs.Common.{rules, List, ap, ap₂, drop, sym, take, ℕ, ◌-◌, ◌∙◌, ◌≡◌}
use Rattle.answer.specs.Faults.{Placed, placed_at}
use Rattle.walk.specs.Handed.{handed_in}
use Rattle.walk.proofs.Kept.{kept_ok}
use Rattle.walk.proofs.Requiring.{Lies, lies}
use Rattle.single_body.specs.Kinds.{contents_mean, id_of, fields_before}
use Rattle.single_body.specs.Singles.{single}
use Rattle.single_body.specs.declared.kinds.Kind.{Kind}
use Rattle.single_body.specs.declared.kinds.Single.{Single}
use Rattle.single_body.proofs.Singling.{cut_after, crowded, good}
use Rattle.single_body.proofs.reading.read.Goals as goal
use Rattle.single_body.proofs.reading.read.Goals.{After-pass_over}

-- what is wanted: the element with the ID of this kind, after the fields of this kind, and what its contents mean
abbrev wanted : (body : List ℕ) (kind : Kind) (at id : ℕ) → Placed Single
wanted body kind at id = single at id (contents_mean kind) (handed_in (drop at body))

module _ (c : After-pass_over) where
  -- the place and the ID are those of the kind
  by_kind : wanted c.args.body.now c.args.kind c.fixed_fields-at.result c.id.result ≡ wanted c.args.body.now c.args.kind (fields_before c.args.kind) (id_of c.args.kind)
  by_kind = ap₂ (λ (i n : ℕ). wanted c.args.body.now c.args.kind n i) c.id.ensures c.fixed_fields-at.ensures

  -- where the contents lie
  place : Lies c.args.body.now c.fixed_fields-at.result c.id.result c.in_ok-contents.contents
  place =
      lies c.args.body.now c.fixed_fields-at.result c.id.result c.required_at.result c.required_at.ensures.result_value c.required_at.ensures.required_within
      (kept_ok _ _ c.required_at.result c.in_ok-contents.ensures.variant c.in_ok-contents.ensures.cases)

  -- what they say
  said-is : Ok c.in_ok-said.said
      ≡ placed_at c.fixed_fields-at.result
      (contents_mean c.args.kind (take (c.in_ok-contents.contents.end - c.in_ok-contents.contents.start) (drop c.in_ok-contents.contents.start c.args.body.now)))
  said-is =
      ap (placed_at c.fixed_fields-at.result) (sym (kept_ok _ _ c.read_contents.result c.in_ok-said.ensures.variant c.in_ok-said.ensures.cases) ∙ c.read_contents.ensures)

pub returns-in_err-next : goal.returns-in_err-next
returns-in_err-next c =
    let k = (goal.at.returns-in_err-next c).After-pass_over in
    search rules ∙ cut_after c.fixed_fields-at.result c.id.result (contents_mean c.args.kind) (place k) (said-is k) {x = c.in_err-next.field-0.0} (search rules)
    ∙ by_kind k

pub returns-then-has_left_over : goal.returns-then-has_left_over
returns-then-has_left_over c =
    let k = (goal.at.returns-then-has_left_over c).After-pass_over in
    ap Err c.at.ensures ∙ crowded c.fixed_fields-at.result c.id.result (contents_mean c.args.kind) (place k) (said-is k) {k = c.in_ok-next.next} (search rules) (ltb-true _ _ (sym c.has_left_over.ensures ∙ c.if-has_left_over.true))
    ∙ by_kind k

pub returns : goal.returns
returns c =
    let k = (goal.at.returns c).After-pass_over in
    good c.fixed_fields-at.result c.id.result (contents_mean c.args.kind) (place k) (said-is k) {k = c.in_ok-next.next} (search rules) (ltb-false _ _ (sym c.has_left_over.ensures ∙ c.if-has_left_over.false))
    ∙ by_kind k
