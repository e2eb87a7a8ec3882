-- `put_digits` meets its contract: one piece, and what follows it where there are more digits.
-- Assumes nothing.
use Rattle.std.proofs.Common.{List, ap, arith, drop, length, take, ℕ, ◌+◌, ◌-◌, ◌<◌, ◌∙◌, ◌≡◌}
use Rattle.octets.specs.Writing.{over}
use Rattle.pen.specs.Numerals.{numeral_end, numeral_room, Spells}
use Rattle.pen.specs.CodeTerms.Putting.{piece}
use Rattle.pen.proofs.InNumeral.{placed_digits}
use Rattle.pen.proofs.Pieces.{more_put, pieces_put}
use Rattle.pen.proofs.putting.put_digits.Goals as goal
use Rattle.pen.proofs.putting.put_digits.Goals.{then-count-gt-PIECE, else-count-gt-PIECE}

-- The first digit stands before the end of the digits.
within : (digits : List ℕ) (from : ℕ) → (n : ℕ) × Spells n digits from
    → (from < numeral_end) × (length digits ≡ numeral_room)
within digits from p = omega (arith, p.1.room, placed_digits p.1)

pub overflow_sub-count : goal.overflow_sub-count
overflow_sub-count c = omega (arith, within _ _ c.requires.by_index)

pub overflow_add-from : goal.overflow_add-from
overflow_add-from c = omega (arith, within _ _ c.requires.by_index)

pub slice_bounds-put-end : goal.slice_bounds-put-end
slice_bounds-put-end c = omega (arith, within _ _ c.requires.by_index)

-- All digits stand in the buffer, and after them fewer octets than a piece.
pub returns : goal.returns
returns c =
    let a = c.args in
    let bound = within _ _ c.requires.by_index in
    let s = a.digits.now in
    let out = a.out.now in
    let exit = c.if-count-gt-PIECE.out in
    let first : take (a.from + piece - a.from) (drop a.from s) ≡ take piece (drop a.from s) =
    ap (λ (k : ℕ). take k (drop a.from s)) (let e : a.from + piece - a.from ≡ piece = omega arith in e) in
    let stands = c.put.ensures.stands ∙ ap (over out a.at) first in
    let rest : ℕ = numeral_end - (a.from + piece) in
    let following : List ℕ = take rest (drop (a.from + piece) s) in
    λ n p.
    elim c.if-count-gt-PIECE.branch [
      | then-count-gt-PIECE w ↦
          pieces_put p (piece + rest) (omega arith) (omega arith) out exit a.at
          (w.out-is
          ∙ w.put-then-count-gt-PIECE.ensures.stands
          ∙ ap (λ (b : List ℕ). over b (a.at + piece) following) stands
          ∙ more_put s out a.from a.at rest (omega arith) (omega arith))
      | else-count-gt-PIECE w ↦
          pieces_put p piece (omega arith) (omega arith) out exit a.at
          (w.out-is ∙ stands)
    ]
