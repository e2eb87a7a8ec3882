-- The digits that are done stand at the end, and the rest of the room is as it was.
use Rattle.std.proofs.Common.{List, drop, length, take, ℕ, ◌+◌, ◌≡◌, ◌≤◌}
use Rattle.pen.specs.Decimals.{decimal}
use Rattle.pen.specs.Numerals.{numeral_end, numeral_room}
use Rattle.pen.proofs.OnlyDigits.{Around}
use Rattle.pen.proofs.Spelling.{Spelled}
use Rattle.pen.proofs.numeral.spell.Given as goal

pub record Inv (number : ℕ) (digits₀ digits : List ℕ) (from rest : ℕ) : Type 0 where
  pub short : length (decimal number) ≤ numeral_end
  pub room : length digits ≡ numeral_room
  pub done : List ℕ
  pub spelled : Spelled number rest done
  pub place : from + length done ≡ numeral_end
  pub stands : drop from (take numeral_end digits) ≡ done
  pub around : Around digits₀ digits from

abbrev pub invariant-loop-rest : goal.invariant-loop-rest
invariant-loop-rest l = Inv l.number l.initial.digits l.digits l.from l.rest

abbrev pub decreases-loop-rest : goal.decreases-loop-rest
decreases-loop-rest l = l.from
