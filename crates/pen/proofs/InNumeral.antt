-- Digits in their room: one of them read, changed, and one more put in front. Assumes nothing.
use mathlib.Core.List.{List, ◌∷◌, ◌++◌}
use mathlib.Core.Path.{◌≡◌, sym, ap, ap₂, ◌∙◌}
use Prim.Native.Nat.{ℕ, suc, ◌+◌, ◌-◌, ◌<◌, ◌≤◌}
use native.Mathlib.Omega.{arith}
use lib.ListN.{length, get_or, take, drop, set, length-set}
use lib.Seq.{length-take-le, length-slice, drop-cons, get_or-append_seam, set-append_seam, get_or-set_same, drop-set-lt, take-set-lt, drop-set-add, get_or-take, get_or-drop, take-add, drop_at}
use Rattle.pen.specs.Decimals.{decimal}
use Rattle.pen.specs.Numerals.{numeral_end, numeral_room, Spells}
use Rattle.pen.proofs.Spelling.{some_digits}

-- a number's digits stand at the end of the room, and there is one at least
pub placed_digits : {n from : ℕ} {s : List ℕ} → Spells n s from → (from + length (decimal n) ≡ numeral_end) × (1 ≤ length (decimal n))
placed_digits {n} {from} {s} p =
    let some = some_digits n in
    let many = length-slice from numeral_end s (omega (arith, p.room)) in
    omega (arith, ap length p.says, many, some)

-- they are the part of the room from the place up to its end
pub digits_cut : {n from : ℕ} {s : List ℕ} → Spells n s from → take (numeral_end - from) (drop from s) ≡ decimal n
digits_cut {n} {from} {s} p =
    let whole : from + (numeral_end - from) ≡ numeral_end = omega (arith, placed_digits p) in
    sym (drop_at (take from s) (take (numeral_end - from) (drop from s)) from (length-take-le from s (omega (arith, p.room, placed_digits p))))
    ∙ ap (drop from) (sym (take-add from (numeral_end - from) s))
    ∙ ap (λ (k : ℕ). drop from (take k s)) whole
    ∙ p.says

-- the digit after the first ones
module _ (s : List ℕ) (from at : ℕ) (front : List ℕ) (digit : ℕ) (done : List ℕ) (place : from + length front ≡ at) (inside : at < numeral_end)
    (stands : drop from (take numeral_end s) ≡ front ++ (digit ∷ done)) where
  pub digit_read : get_or s at 0 ≡ digit
  digit_read =
      sym (get_or-take numeral_end s at 0 inside)
      ∙ ap (λ (k : ℕ). get_or (take numeral_end s) k 0) (sym place)
      ∙ sym (get_or-drop from (take numeral_end s) (length front) 0)
      ∙ ap (λ (xs : List ℕ). get_or xs (length front) 0) stands
      ∙ get_or-append_seam front digit done 0

  pub digit_changed : (other : ℕ) → drop from (take numeral_end (set s at other)) ≡ front ++ (other ∷ done)
  digit_changed other =
      ap (drop from) (take-set-lt numeral_end s at other inside)
      ∙ ap (λ (k : ℕ). drop from (set (take numeral_end s) k other)) (sym place)
      ∙ drop-set-add from (take numeral_end s) (length front) other
      ∙ ap (λ (xs : List ℕ). set xs (length front) other) stands
      ∙ set-append_seam front digit done other

-- one more in front of those that stand
pub digit_before : (s : List ℕ) (from digit : ℕ) → length s ≡ numeral_room → 1 ≤ from → from ≤ numeral_end
    → drop (from - 1) (take numeral_end (set s (from - 1) digit)) ≡ digit ∷ drop from (take numeral_end s)
digit_before s from digit room one inside =
    let all : List ℕ = take numeral_end s in
    let long = length-take-le numeral_end s (omega arith) in
    let next : suc (from - 1) ≡ from = omega arith in
    ap (drop (from - 1)) (take-set-lt numeral_end s (from - 1) digit (omega arith))
    ∙ drop-cons (set all (from - 1) digit) (from - 1) 0 (omega (arith, long, length-set all (from - 1) digit))
    ∙ ap₂ (λ (d : ℕ) (xs : List ℕ). d ∷ xs) (get_or-set_same all (from - 1) digit 0 (omega (arith, long))) (drop-set-lt (suc (from - 1)) all (from - 1) digit (omega arith))
    ∙ ap (λ (k : ℕ). digit ∷ drop k all) next
