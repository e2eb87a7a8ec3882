-- Octets of which the first are copied in a whole piece: the piece, what follows it, and the digits of a number so. Assumes nothing.
use mathlib.Core.List.{List, [], ◌++◌, append-nil}
use mathlib.Core.Path.{◌≡◌, sym, ap, ap₂, ◌∙◌}
use Prim.Native.Nat.{ℕ, ◌+◌, ◌-◌, ◌≤◌}
use native.Mathlib.Omega.{arith}
use lib.ListN.{length, take, drop, length-take, length-drop}
use lib.Seq.{length-take-le, take-add, drop-drop}
use Rattle.octets.specs.Writing.{over}
use Rattle.pen.specs.Decimals.{decimal}
use Rattle.pen.specs.Numerals.{numeral_end, Spells}
use Rattle.pen.specs.CodeTerms.Putting.{piece, PiecesPut}
use Rattle.pen.proofs.Following.{put_over}
use Rattle.pen.proofs.InNumeral.{placed_digits, digits_cut}

-- ---- what follows the first piece

module _ (s out : List ℕ) (from at k : ℕ) (there : from + piece + k ≤ length s) (fits : at + piece + k ≤ length out) where
  abbrev first_piece : List ℕ
  first_piece = take piece (drop from s)

  abbrev following : List ℕ
  following = take k (drop (from + piece) s)

  first_long : length first_piece ≡ piece
  first_long = length-take-le piece (drop from s) (omega (arith, length-drop from s))

  following_long : length following ≡ k
  following_long = length-take-le k (drop (from + piece) s) (omega (arith, length-drop (from + piece) s))

  pub more_put : over (over out at first_piece) (at + piece) following ≡ over out at (take (piece + k) (drop from s))
  more_put =
      ap₂ (λ (xs : List ℕ) (k : ℕ). over (over out at xs) (at + k) following) (sym (append-nil first_piece)) (sym first_long)
      ∙ put_over out at first_piece [] following (omega (arith, first_long, following_long)) (omega arith)
      ∙ ap (λ (xs : List ℕ). over out at (first_piece ++ take k xs)) (sym (drop-drop piece from s))
      ∙ ap (over out at) (sym (take-add piece k (drop from s)))

-- ---- the digits of a number, and what comes along after them

module _ {n from : ℕ} {s : List ℕ} (p : Spells n s from) (done : ℕ) (all : numeral_end ≤ from + done) (few : from + done + 1 ≤ numeral_end + piece) where
  abbrev count : ℕ
  count = numeral_end - from

  abbrev extra : ℕ
  extra = done - count

  along : take done (drop from s) ≡ decimal n ++ take extra (drop count (drop from s))
  along =
      ap (λ (k : ℕ). take k (drop from s)) (let e : done ≡ count + extra = omega arith in e)
      ∙ take-add count extra (drop from s)
      ∙ ap (λ (xs : List ℕ). xs ++ take extra (drop count (drop from s))) (digits_cut p)

  pub pieces_put : (out exit : List ℕ) (at : ℕ) → exit ≡ over out at (take done (drop from s)) → PiecesPut (decimal n) at out (at + count) exit
  pieces_put out exit at e =
      record {
        ends = omega (arith, placed_digits p);
        more = take extra (drop count (drop from s));
        few = omega (arith, length-take extra (drop count (drop from s)), placed_digits p);
        stands = e ∙ ap (over out at) along;
      }
