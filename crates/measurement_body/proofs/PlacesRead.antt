-- The contents at the place of an index mean the record at that index. Assumes nothing.
use Rattle.std.specs.Prelude.{Option, Some, None, Ok, Err}
use mathlib.Core.Path.{◌≡◌, refl, sym, ap, subst, ◌∙◌}
use mathlib.Core.List.{List, [], ◌∷◌, ◌++◌, append-nil}
use mathlib.Core.Logic.{inl, inr}
use Prim.Native.Nat.{ℕ, zero, suc, ◌-◌, ◌≤◌}
use native.Mathlib.Omega.{arith}
use lib.ListN.{length, take, drop}
use lib.Seq.{append_snoc}
use Rattle.action.specs.Openings.{fixed_fields}
use Rattle.answer.specs.Checks.{Outcome}
use Rattle.answer.specs.declared.Refusal.{Refusal}
use Rattle.walk.proofs.Passing.{Walks, walks_more, walks_passed}
use Rattle.walk.proofs.RunLaws.{Lying, lying}
use Rattle.walk.specs.Elements.{past_element}
use Rattle.walk.specs.Handed.{Handed, end, cut_header, cut_contents, more, passed, cut_passed, vendor_id, passing_in, handed_in}
use Rattle.walk.specs.declared.Contents.{Contents}
use Rattle.measurement_body.specs.Lists.{Sort, listed, measurements_in, nth}
use Rattle.measurement_body.specs.Surveys.{place_after, place_in}
use Rattle.measurement_body.proofs.Listing.{Lists, lists, ended, not_cut_header, not_cut_contents, not_cut_passed}

-- what is at a place of a body: no record (16), or what the contents there mean
abbrev pub Reads : {A : Type 0} → Sort A → List ℕ → Outcome A → Option Contents → Type 0
Reads s body o None = o ≡ Err Refusal.Impossible
Reads s body o (Some c) = (c.start ≤ c.end) × (c.end ≤ length body) × (s.means (take (c.end - c.start) (drop c.start body)) ≡ o)

module _ {A : Type 0} (s : Sort A) (body : List ℕ) where
  -- the records from a place on, after those before, each where its place says
  record Rest (at : ℕ) (hs : Handed) (before l : List A) : Type 0 where
    tail : List A
    whole : l ≡ before ++ tail
    reads : (i : ℕ) → Reads s body (nth i tail) (place_after at i hs)

  rest : (hs : Handed) (at : ℕ) (before l : List A) → Walks (drop at body) hs → listed s at hs before ≡ Ok l → Rest at hs before l
  unfolding listed place_after nth
  rest end at before l e h = record { tail = []; whole = sym (append-nil before ∙ (ended s at before l h).1); reads = λ i. refl }
  rest cut_header at before l e h = absurd (not_cut_header s at before l h)
  rest (cut_contents id) at before l e h = absurd (not_cut_contents s at id before l h)
  rest (more id x hs) at before l e h =
      let g = lists s at id x hs before l h in
      let y = walks_more (drop at body) id x hs e in
      let p = lying body at id x y.rest y.octets in
      let z = rest hs (past_element at x) (before ++ (g.one ∷ [])) l (inr (ap passing_in p.after ∙ y.after)) g.on in
      record {
        tail = g.one ∷ z.tail;
        whole = z.whole ∙ append_snoc before g.one z.tail;
        reads = by g p z;
      }
    where
      by : (g : Lists s at id x hs before l) {r : List ℕ} (p : Lying body at x r) (z : Rest (past_element at x) hs (before ++ (g.one ∷ [])) l) (i : ℕ)
          → Reads s body (nth i (g.one ∷ z.tail)) (place_after at i (more id x hs))
      by g p z zero = (omega arith, p.inside, ap s.means p.contents ∙ g.says)
      by g p z (suc i) = z.reads i
  rest (passed x hs) at before l e h =
      let y = walks_passed (drop at body) x hs e in
      let p = lying body at vendor_id x y.rest y.octets in
      let z = rest hs (past_element at x) before l (inr (ap passing_in p.after ∙ y.after)) h in
      record { tail = z.tail; whole = z.whole; reads = z.reads }
  rest cut_passed at before l e h = absurd (not_cut_passed s at before l h)

  pub place_reads : (xs : List A) → measurements_in s (drop fixed_fields body) ≡ Ok xs → (i : ℕ) → Reads s body (nth i xs) (place_in i body)
  unfolding measurements_in
  place_reads xs h i =
      let r = rest (handed_in (drop fixed_fields body)) fixed_fields [] xs (inl refl) h in
      subst (λ (l : List A). Reads s body (nth i l) (place_in i body)) (sym r.whole) (r.reads i)
