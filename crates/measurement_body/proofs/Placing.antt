-- The place of the element at an index, as a walk finds it. Assumes nothing.
use Rattle.std.specs.Prelude.{Option, Some, None, Ok}
use mathlib.Core.Path.{◌≡◌, refl, sym, ap, ap₂, ◌∙◌}
use mathlib.Core.List.{List}
use Prim.Native.Nat.{ℕ, zero, suc, ◌+◌, ◌<◌}
use native.Mathlib.Omega.{arith}
use borrow.Author.Tests.{eq-eqb, ne_eqb}
use lib.Dec.{eqb}
use lib.ListN.{length}
use Rattle.answer.proofs.Judged.{never}
use Rattle.answer.specs.Checks.{pick}
use Rattle.walk.proofs.Passing.{past_passed}
use Rattle.walk.specs.CodeTerms.Next.{next_after}
use Rattle.walk.specs.Elements.{past_element}
use Rattle.walk.specs.Handed.{Handed, end, cut_header, cut_contents, more, passed, cut_passed}
use Rattle.walk.specs.declared.Contents.{Contents}
use Rattle.measurement_body.specs.Surveys.{place_after}

-- with `count` elements passed: the element at the index is met, and is at this place, or lies ahead. `whole` is where it lies,
-- and `hs` is what is handed out from `at` on
pub data Placed (whole : Option Contents) (hs : Handed) (index count at : ℕ) (place : Option Contents) : Type 0 where
  met : index < count → place ≡ whole → Placed whole hs index count at place
  ahead : (j : ℕ) → index ≡ count + j → place ≡ None → place_after at j hs ≡ whole → Placed whole hs index count at place

pub unmet : (hs : Handed) (index at : ℕ) → Placed (place_after at index hs) hs index 0 at None
unmet hs index at = ahead index (omega arith) refl refl

-- past the last element it is where the walk has it
pub final : {whole place : Option Contents} {index count at : ℕ} → Placed whole end index count at place → place ≡ whole
unfolding place_after
final (met h e) = e
final (ahead j h a w) = a ∙ w

-- one element further
module _ {whole place : Option Contents} {id : ℕ} {c : List ℕ} {hs : Handed} {index count at : ℕ} {d : Contents} (begins : d.start ≡ at + 2) (ends : d.end ≡ at + 2 + length c) where
  pub placed_on : Placed whole (more id c hs) index count at place → Placed whole hs index (count + 1) d.end (pick (eqb count index) (Some d) place)
  unfolding place_after
  placed_on (met h e) = met (omega arith) (simp (ne_eqb count index (λ z. omega arith)) e)
  placed_on (ahead zero h a w) =
      met (omega arith) (simp (eq-eqb count index (omega arith)) (ap₂ (λ (a b : ℕ). Some (record { start = a; end = b })) begins ends ∙ w))
  placed_on (ahead (suc j) h a w) =
      ahead j (omega arith) (simp (ne_eqb count index (λ z. omega arith)) a) (ap (λ (k : ℕ). place_after k j hs) ends ∙ w)

-- past what is passed over
place_onward : (i : ℕ) (hs : Handed) (n : ℕ) {m : ℕ} → next_after n hs ≡ Ok m → place_after n i hs ≡ place_after m i (past_passed hs)
unfolding place_after next_after
place_onward i end n e = refl
place_onward i cut_header n e = refl
place_onward i (cut_contents id) n e = refl
place_onward i (more id c hs) n {m} e = let here : n ≡ m = cc in ap (λ (k : ℕ). place_after k i (more id c hs)) here
place_onward i (passed c hs) n e = place_onward i hs (past_element n c) e
place_onward i cut_passed n e = absurd (never e)

pub placed_onward : {whole place : Option Contents} {index count at next : ℕ} (hs : Handed) → next_after at hs ≡ Ok next → Placed whole hs index count at place
    → Placed whole (past_passed hs) index count next place
placed_onward hs e (met h p) = met h p
placed_onward {at = at} hs e (ahead j h a w) = ahead j h a (sym (place_onward j hs at e) ∙ w)
