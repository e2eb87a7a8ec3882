-- An element that is to follow what is there: the test of it is the one for its record, and what is lent to the one writer are the octets
-- that are to be put. Assumes nothing.
use Rattle.std.specs.Prelude.{Ok, Err}
use mathlib.Core.Path.{◌≡◌, refl, sym, ap, ap₂, ◌∙◌}
use mathlib.Core.Bool.{Bool, true, false, not, ◌&&◌, ◌||◌}
use mathlib.Core.List.{List, [], ◌++◌}
use Prim.Native.Nat.{ℕ, ◌+◌}
use native.Mathlib.Omega.{arith}
use borrow.Author.Tests.{eqb-true}
use lib.Dec.{leb, eqb}
use lib.ListN.{length, take, drop}
use Rattle.action.specs.Openings.{fixed_fields}
use Rattle.answer.specs.Checks.{pick, Outcome}
use Rattle.answer.specs.Faults.{Placed}
use Rattle.octets.proofs.Overwriting.{written_as}
use Rattle.octets.specs.Writing.{Written}
use Rattle.walk.specs.Handed.{handed_in}
use Rattle.measurement_body.specs.Bodies.{longest_body, opening, begins, may_open, joins, appended, may_append}
use Rattle.measurement_body.specs.CodeTerms.Appending.{may_join, may_follow, following}
use Rattle.measurement_body.specs.Lists.{Sort, used, measurements_in, all_clear, all_interpreted}
use Rattle.measurement_body.specs.Surveys.{surveyed_as, surveyed}
use Rattle.measurement_body.proofs.Conjunctions.{and-false, and_assoc}

-- ---- whether it may

module _ {A : Type 0} (s : Sort A) (token : ℕ) (a : A) (there : List ℕ) where
  -- the octets that the body then has, as the code counts them
  then_has : length there + length (appended s token a there) ≡ pick (eqb (length there) 0) fixed_fields (length there) + length (s.octets a)
  unfolding appended
  then_has = by (eqb (length there) 0) refl
    where
      by : (t : Bool) → eqb (length there) 0 ≡ t
          → length there + length (pick t (opening s.action token) [] ++ s.octets a) ≡ pick t fixed_fields (length there) + length (s.octets a)
      by true e = omega (arith, eqb-true (length there) 0 e)
      by false e = refl

  -- what the survey says of a record that is to join those that are there
  joined : (all_clear s (handed_in (drop fixed_fields there)) && joins s a (measurements_in s (drop fixed_fields there)))
      ≡ may_join s.once (surveyed s 0 (s.token a) there)
  joined = by (measurements_in s (drop fixed_fields there))
    where
      by : (o : Placed (List A)) → (all_clear s (handed_in (drop fixed_fields there)) && joins s a o)
          ≡ may_join s.once (surveyed_as s 0 (s.token a) there o)
      by (Err r) = and-false (all_clear s (handed_in (drop fixed_fields there)))
      by (Ok l) = and_assoc (all_clear s (handed_in (drop fixed_fields there))) (all_interpreted s l) (not (s.once && used s (s.token a) l))

  pub may_follow_lem : may_follow s token (s.token a) (length (s.octets a)) (s.may a) there ≡ may_append s token a there
  unfolding may_follow may_append
  may_follow_lem =
      ap₂
      (λ (n : ℕ) (b : Bool). s.may a && (may_open s token && (leb n longest_body && (eqb (length there) 0 || (begins s.action token there && b)))))
      (sym then_has) (sym joined)

-- ---- its octets

-- what is promised of these octets is promised of the record
module _ {A : Type 0} (s : Sort A) (token : ℕ) (a : A) (used : ℕ) (buffer bytes : List ℕ) where
  pub of_record : {may : Bool} {n : ℕ} {answer : Outcome ℕ} {exit : List ℕ}
      → may ≡ s.may a → take (length (s.octets a)) bytes ≡ s.octets a → n ≡ length (s.octets a)
      → let element = take n bytes in
      Written (may_follow s token (s.token a) (length element) may (take used buffer)) (following s token (take used buffer) element) used buffer answer exit
      → Written (may_append s token a (take used buffer)) (appended s token a (take used buffer)) used buffer answer exit
  unfolding appended
  of_record m front many w =
      let e = ap (λ (k : ℕ). take k bytes) many ∙ front in
      written_as
      (ap₂ (λ (n : ℕ) (b : Bool). may_follow s token (s.token a) n b (take used buffer)) (ap length e) m ∙ may_follow_lem s token a (take used buffer))
      (ap (following s token (take used buffer)) e)
      w
