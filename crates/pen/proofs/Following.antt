-- Octets that are put into a buffer one after the other. Assumes nothing.
use mathlib.Core.List.{List, [], ◌++◌, append_assoc, append-nil}
use mathlib.Core.Path.{◌≡◌, sym, ap, ap₂, subst, ◌∙◌}
use Prim.Native.Nat.{ℕ, ◌+◌, ◌-◌, ◌≤◌}
use native.Mathlib.Omega.{arith}
use lib.ListN.{length, take, drop, length-append}
use lib.Seq.{length-take-le, take_at, drop-append-add, drop-drop}
use Rattle.octets.specs.Writing.{over}
use Rattle.pen.specs.CodeTerms.Putting.{OctetsPut, piece, PiecesPut}

-- what was put of octets was put of equal ones
pub put_as : {os os' : List ℕ} {at : ℕ} {out : List ℕ} {end : ℕ} {exit : List ℕ} → os ≡ os' → OctetsPut os at out end exit → OctetsPut os' at out end exit
put_as {at} {out} {end} {exit} e p = subst (λ (xs : List ℕ). OctetsPut xs at out end exit) e p

-- what comes along after the first octets makes no difference where the next ones are put over it
module _ (out : List ℕ) (at : ℕ) (xs ys zs : List ℕ) (fits : at + length xs + length zs ≤ length out) (covered : length ys ≤ length zs) where
  abbrev before : List ℕ
  before = take at out ++ xs

  abbrev rest : List ℕ
  rest = drop (at + length (xs ++ ys)) out

  abbrev left_over : ℕ
  left_over = length zs - length ys

  end : length before ≡ at + length xs
  end = omega (arith, length-append (take at out) xs, length-take-le at out (omega arith))

  parted : over out at (xs ++ ys) ≡ before ++ (ys ++ rest)
  parted =
      ap (λ (r : List ℕ). r ++ rest) (sym (append_assoc (take at out) xs ys))
      ∙ append_assoc before ys rest

  later : drop (at + length xs + length zs) (before ++ (ys ++ rest)) ≡ drop (at + length (xs ++ zs)) out
  later =
      ap (λ (k : ℕ). drop k (before ++ (ys ++ rest))) (let e : at + length xs + length zs ≡ length before + length zs = omega (arith, end) in e)
      ∙ drop-append-add before (ys ++ rest) (length zs)
      ∙ ap (λ (k : ℕ). drop k (ys ++ rest)) (let e : length zs ≡ length ys + left_over = omega arith in e)
      ∙ drop-append-add ys rest left_over
      ∙ drop-drop left_over (at + length (xs ++ ys)) out
      ∙ ap (λ (k : ℕ). drop k out) (let e : at + length (xs ++ ys) + left_over ≡ at + length (xs ++ zs) = omega (arith, length-append xs ys, length-append xs zs) in e)

  pub put_over : over (over out at (xs ++ ys)) (at + length xs) zs ≡ over out at (xs ++ zs)
  put_over =
      ap (λ (b : List ℕ). over b (at + length xs) zs) parted
      ∙ ap₂ (λ (front rest : List ℕ). front ++ zs ++ rest) (take_at before (ys ++ rest) (at + length xs) end) later
      ∙ ap (λ (r : List ℕ). r ++ drop (at + length (xs ++ zs)) out) (append_assoc (take at out) xs zs)

-- ---- what follows what comes along, and what follows other octets

module _ {out mid exit : List ℕ} {at m end : ℕ} (xs : List ℕ) {zs : List ℕ} (fits : at + length xs + length zs ≤ length out) (second : OctetsPut zs m mid end exit) where
  -- `ys` came along
  joined : (ys : List ℕ) → length ys ≤ length zs → m ≡ at + length xs → mid ≡ over out at (xs ++ ys) → OctetsPut (xs ++ zs) at out end exit
  joined ys covered e stands =
      record {
        ends = omega (arith, second.ends, length-append xs zs);
        stands =
            second.stands
            ∙ ap₂ (λ (b : List ℕ) (k : ℕ). over b k zs) stands e
            ∙ put_over out at xs ys zs fits covered;
      }

  pub put_after_pieces : PiecesPut xs at out m mid → piece ≤ length zs + 1 → OctetsPut (xs ++ zs) at out end exit
  put_after_pieces first enough = joined first.more (omega (arith, first.few)) first.ends first.stands

  pub put_after : OctetsPut xs at out m mid → OctetsPut (xs ++ zs) at out end exit
  put_after first = joined [] (omega arith) first.ends (first.stands ∙ ap (over out at) (sym (append-nil xs)))
