-- The nines that were passed are zeros, and the rest of the room is as it was.
use Rattle.std.proofs.Common.{List, length, ℕ, ◌-◌, ◌<◌, ◌≡◌, ◌≤◌}
use Rattle.pen.specs.Numerals.{numeral_room, Spells}
use Rattle.pen.proofs.CountingUp.{Counting, Passed}
use Rattle.pen.proofs.OnlyDigits.{Around}
use Rattle.pen.proofs.numeral.count_up.Given as goal

-- of whatever number the digits say, with the places from `end` on behind
pub record Inv (digits₀ : List ℕ) (from : ℕ) (digits : List ℕ) (end : ℕ) : Type 0 where
  pub room : length digits ≡ numeral_room
  pub low : from ≤ end
  pub counting : (n : ℕ) → Spells n digits₀ from → from < end → Counting n from digits (end - 1)
  pub passed : (n : ℕ) → Spells n digits₀ from → end ≡ from → Passed n from digits
  pub around : Around digits₀ digits from

abbrev pub invariant-loop-at : goal.invariant-loop-at
invariant-loop-at l = Inv l.initial.digits l.from l.digits l.at
