-- Of the room of the digits nothing else changes: what stands before them, and what stands after their end. Assumes nothing.
use mathlib.Core.List.{List, ◌++◌}
use mathlib.Core.Path.{◌≡◌, refl, sym, ap, ap₂, ◌∙◌}
use Prim.Native.Nat.{ℕ, ◌+◌, ◌-◌, ◌<◌, ◌≤◌}
use native.Mathlib.Omega.{arith}
use lib.ListN.{length, take, drop, set, take-append-drop}
use lib.Seq.{take-take, take-set-le, drop-set-lt}
use Rattle.octets.specs.Writing.{over}
use Rattle.pen.specs.Decimals.{decimal}
use Rattle.pen.specs.Numerals.{numeral_end, Spells}
use Rattle.pen.proofs.InNumeral.{placed_digits}

-- the room as it was, but for the octets from a place up to the digits' end
pub record Around (entry digits : List ℕ) (from : ℕ) : Type 0 where
  pub before : take from digits ≡ take from entry
  pub after : drop numeral_end digits ≡ drop numeral_end entry

pub nothing_changed : (s : List ℕ) (from : ℕ) → Around s s from
nothing_changed s from = record { before = refl; after = refl }

-- one of those octets changes
pub one_changed : {entry digits : List ℕ} {from : ℕ} → Around entry digits from → (at digit : ℕ) → from ≤ at → at < numeral_end → Around entry (set digits at digit) from
one_changed {entry} {digits} {from} a at digit low high =
    record {
      before = take-set-le from digits at digit low ∙ a.before;
      after = drop-set-lt numeral_end digits at digit high ∙ a.after;
    }

-- one more of them
pub one_wider : {entry digits : List ℕ} {from : ℕ} → Around entry digits from → Around entry digits (from - 1)
one_wider {entry} {digits} {from} a =
    record {
      before = sym (take-take (from - 1) from digits (omega arith)) ∙ ap (take (from - 1)) a.before ∙ take-take (from - 1) from entry (omega arith);
      after = a.after;
    }

-- where they are the digits of a number, that is all
pub only_digits : {n from : ℕ} {entry digits : List ℕ} → Spells n digits from → Around entry digits from
    → (from ≡ numeral_end - length (decimal n)) × (digits ≡ over entry (numeral_end - length (decimal n)) (decimal n))
only_digits {n} {from} {entry} {digits} p a =
    let place : from ≡ numeral_end - length (decimal n) = omega (arith, placed_digits p) in
    let end : numeral_end ≡ from + length (decimal n) = omega (arith, placed_digits p) in (
      place,
      sym (take-append-drop numeral_end digits)
          ∙ ap (λ (xs : List ℕ). xs ++ drop numeral_end digits) (sym (take-append-drop from (take numeral_end digits)))
          ∙ ap₂ (λ (xs ys : List ℕ). (take from (take numeral_end digits) ++ xs) ++ ys) p.says a.after
          ∙ ap (λ (xs : List ℕ). (xs ++ decimal n) ++ drop numeral_end entry) (take-take from numeral_end digits (omega (arith, end)) ∙ a.before)
          ∙ ap (λ (k : ℕ). (take from entry ++ decimal n) ++ drop k entry) end
          ∙ ap (λ (k : ℕ). over entry k (decimal n)) place,
    )
