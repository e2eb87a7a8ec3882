-- The tests by which demand 2 is said, that every reserved bit is clear, look at exactly the reserved bits (00, demand 2; 01, "Octets"). Assumes nothing.
use mathlib.Core.Bool.{Bool, true, false, not, ◌&&◌, ◌||◌}
use mathlib.Core.List.{List}
use mathlib.Core.Logic.{◌⊎◌, inl, inr, ◌↔◌}
use mathlib.Core.Path.{◌≡◌, refl, sym, ap, subst, ◌∙◌}
use Prim.Native.Nat.{ℕ, zero, suc, ◌%◌, ◌<◌}
use native.Mathlib.Omega.{arith}
use borrow.Author.Tests.{eq-eqb, ne_eqb, eqb-true, eqb-false, lt-ltb, le-ltb, ltb-true, leb-false, lt-leb, not-true}
use lib.Dec.{ltb, leb, eqb}
use Rattle.answer.proofs.Booleans.{clash, either, both, neither, or_go}
use Rattle.answer.specs.Checks.{pick}
use Rattle.measurement_element.specs.MeasurementReport.{report_in, map_clear, report_clear}
use Rattle.measurement_element.specs.MeasurementRequest.{request_clear}
use Rattle.measurement_element.specs.Span.{span_in}
use Rattle.measurement_element.specs.declared.found.Found.{Found}
use Rattle.measurement_element.specs.declared.measurement_report.Matter.{Matter}
use Rattle.measurement_element.specs.declared.measurement_report.Reason.{Reason}
use Rattle.octets.proofs.Bits.{bit_value, low_bit}
use Rattle.octets.specs.Numbers.{octet, bit}
use Rattle.claims.specs.Reserved.{NoneSet, request_reserved, has_map, report_reserved}
use Rattle.claims.proofs.SameBits.{same_number, zero_bit, no_high_bit}

-- ---- 38

other_bit : (k : ℕ) → not (eqb k 1 || false) ≡ true → k ≡ 1 → ⊥
other_bit k r = eqb-false k 1 (neither (eqb k 1) false (not-true (eqb k 1 || false) r)).0

bit_of_two : (k : ℕ) → (k ≡ 1 → ⊥) → bit k 2 ≡ false
bit_of_two zero h = refl
bit_of_two (suc zero) h = absurd (h refl)
bit_of_two (suc (suc k)) h = (no_high_bit 2 2).0 (omega arith) (suc (suc k)) (omega arith)

module _ (m : ℕ) where
  -- the reserved bits of a mode, by whether Enable is set and whether the type is none that is reserved
  abbrev ModeClear : Bool → Bool → Type 0
  ModeClear enable valid = (k : ℕ) → not (eqb k 1 || (enable && (valid && (eqb k 2 || eqb k 3)))) ≡ true → bit k m ≡ false

  abbrev tested : Bool → Bool → Bool
  tested enable valid = pick enable (pick valid (eqb (m % 2) 0 && ltb m 16) (eqb m 2)) (eqb m 0)

  -- a number that has bit 1 or not, and no other bit
  only_bit : (n : ℕ) → bit 1 m ≡ bit 1 n → ((k : ℕ) → (k ≡ 1 → ⊥) → bit k n ≡ false) → ((k : ℕ) → not (eqb k 1 || false) ≡ true → bit k m ≡ false) → m ≡ n
  only_bit n e none h = same_number m n (λ k. by k (eqb k 1) refl)
    where
      by : (k : ℕ) (t : Bool) → eqb k 1 ≡ t → bit k m ≡ bit k n
      by k true f = subst (λ (j : ℕ). bit j m ≡ bit j n) (sym (eqb-true k 1 f)) e
      by k false f = h k (simp f) ∙ sym (none k (eqb-false k 1 f))

  mode_clear_lem : (enable valid : Bool) → bit 1 m ≡ enable → (tested enable valid ≡ true) ↔ ModeClear enable valid
  mode_clear_lem true true e = (there, back)
    where
      there : (eqb (m % 2) 0 && ltb m 16) ≡ true → ModeClear true true
      there h zero r = low_bit m ∙ simp (eqb-true (m % 2) 0 (both (eqb (m % 2) 0) (ltb m 16) h).0)
      there h (suc zero) r = clash (sym r)
      there h (suc (suc zero)) r = clash (sym r)
      there h (suc (suc (suc zero))) r = clash (sym r)
      there h (suc (suc (suc (suc k)))) r =
          (no_high_bit 4 m).0 (ltb-true m 16 (both (eqb (m % 2) 0) (ltb m 16) h).1) (suc (suc (suc (suc k)))) (omega arith)

      back : ModeClear true true → (eqb (m % 2) 0 && ltb m 16) ≡ true
      back h =
          let even = eq-eqb (m % 2) 0 (bit_value m false (sym (low_bit m) ∙ h 0 refl)) in
          let small = (no_high_bit 4 m).1 (λ k j. h k (simp (ne_eqb k 1 (omega arith), ne_eqb k 2 (omega arith), ne_eqb k 3 (omega arith)))) in
          simp (even, lt-ltb m 16 small)
  mode_clear_lem true false e =
      (λ h k r. ap (bit k) (eqb-true m 2 h) ∙ bit_of_two k (other_bit k r), λ h. eq-eqb m 2 (only_bit 2 e bit_of_two h))
  mode_clear_lem false valid e =
      (λ h k r. ap (bit k) (eqb-true m 0 h) ∙ zero_bit k, λ h. eq-eqb m 0 (only_bit 0 (e ∙ sym (zero_bit 1)) (λ k j. zero_bit k) h))

module _ (c : List ℕ) where
  pub request_clear_lem : (request_clear c ≡ true) ↔ NoneSet (request_reserved c) c
  request_clear_lem = (there, λ n. by_mode.1 (λ k r. n 1 k r))
    where
      by_mode : (request_clear c ≡ true) ↔ ModeClear (octet 1 c) (bit 1 (octet 1 c)) (leb (octet 2 c) 2)
      by_mode = mode_clear_lem (octet 1 c) (bit 1 (octet 1 c)) (leb (octet 2 c) 2) refl

      there : request_clear c ≡ true → NoneSet (request_reserved c) c
      there h i k r =
          let p = both (eqb i 1) _ r in
          subst (λ (j : ℕ). bit k (octet j c) ≡ false) (sym (eqb-true i 1 p.0)) (by_mode.0 h k p.1)

-- ---- 39

-- the map is looked at where there is one
map_test : (c : List ℕ) (o : ℕ) → map_clear (report_in c).matter o ≡ pick (has_map c) (ltb o 32) true
map_test c o =
    by (bit 0 (octet 1 c)) (bit 1 (octet 1 c)) (bit 2 (octet 1 c)) (eqb (octet 2 c) 0) (ltb 2 (octet 2 c)) (eqb (octet 2 c) 1)
    (λ e. le-ltb 2 (octet 2 c) (omega (arith, eqb-true (octet 2 c) 0 e)))
  where
    matter : Bool → Bool → Bool → Bool → Bool → Bool → Matter
    matter late incapable refused basic other cca =
        pick late (Matter.NotMeasured Reason.Late)
        (pick incapable (Matter.NotMeasured Reason.Incapable)
        (pick refused (Matter.NotMeasured Reason.Refused)
        (pick other Matter.Uninterpreted (Matter.Measured (span_in c) (pick basic (Found.Map (octet 14 c % 32)) (pick cca (Found.Busy (octet 14 c)) Found.Densities))))))

    by : (late incapable refused basic other cca : Bool) → (basic ≡ true → other ≡ false)
        → map_clear (matter late incapable refused basic other cca) o ≡ pick (basic && not (late || (incapable || refused))) (ltb o 32) true
    by true v w true y x one = refl
    by true v w false y x one = refl
    by false true w true y x one = refl
    by false true w false y x one = refl
    by false false true true y x one = refl
    by false false true false y x one = refl
    by false false false true true x one = clash (one refl)
    by false false false true false x one = refl
    by false false false false true x one = refl
    by false false false false false true one = refl
    by false false false false false false one = refl

module _ (c : List ℕ) where
  map_clear_lem : (map_clear (report_in c).matter (octet 14 c) ≡ true) ↔ (has_map c ≡ true → octet 14 c < 32)
  map_clear_lem = (
    λ h e. ltb-true (octet 14 c) 32 (ap (λ (t : Bool). pick t (ltb (octet 14 c) 32) true) (sym e) ∙ sym (map_test c (octet 14 c)) ∙ h),
    λ h. map_test c (octet 14 c) ∙ by (has_map c) h,
  )
    where
      by : (t : Bool) → (t ≡ true → octet 14 c < 32) → pick t (ltb (octet 14 c) 32) true ≡ true
      by true h = lt-ltb (octet 14 c) 32 (h refl)
      by false h = refl

  -- a bit over these in the octet at a place
  over : (k n at : ℕ) (i : ℕ) → eqb i at ≡ true → not (leb k n) ≡ true → ((j : ℕ) → n < j → bit j (octet at c) ≡ false) → bit k (octet i c) ≡ false
  over k n at i e h none = subst (λ (j : ℕ). bit k (octet j c) ≡ false) (sym (eqb-true i at e)) (none k (leb-false k n (not-true (leb k n) h)))

  pub report_clear_lem : (report_clear c ≡ true) ↔ NoneSet (report_reserved c) c
  report_clear_lem = (there, back)
    where
      there : report_clear c ≡ true → NoneSet (report_reserved c) c
      there h i k r = by (either (eqb i 1 && not (leb k 2)))
        where
          by : ((eqb i 1 && not (leb k 2)) ≡ true) ⊎ ((eqb i 1 && not (leb k 2)) ≡ false) → bit k (octet i c) ≡ false
          by (inl e) =
              let p = both (eqb i 1) _ e in
              over k 2 1 i p.0 p.1 ((no_high_bit 3 (octet 1 c)).0 (ltb-true (octet 1 c) 8 (both (ltb (octet 1 c) 8) _ h).0))
          by (inr e) =
              let p = both (eqb i 14) _ (sym (or_go (eqb i 1 && not (leb k 2)) e) ∙ r) in
              let q = both (has_map c) _ p.1 in
              over k 4 14 i p.0 q.1 ((no_high_bit 5 (octet 14 c)).0 (map_clear_lem.0 (both (ltb (octet 1 c) 8) _ h).1 q.0))

      back : NoneSet (report_reserved c) c → report_clear c ≡ true
      back n =
          let mode = (no_high_bit 3 (octet 1 c)).1 (λ k j. n 1 k (simp (lt-leb k 2 (omega arith)))) in
          let map = map_clear_lem.1 (λ e. (no_high_bit 5 (octet 14 c)).1 (λ k j. n 14 k (simp (e, lt-leb k 4 (omega arith))))) in
          simp (lt-ltb (octet 1 c) 8 mode, map)
