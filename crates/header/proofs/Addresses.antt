-- Comparing addresses, and telling all ones by two numbers. Assumes nothing.
use mathlib.Core.Path.{◌≡◌, refl, sym, ap, ap₂, ◌∙◌}
use mathlib.Core.Bool.{Bool, true, ◌&&◌, and-true, and_assoc}
use mathlib.Core.List.{List, [], ◌∷◌}
use Prim.Native.Nat.{ℕ, zero, suc, ◌+◌, ◌*◌, ◌<◌}
use native.Mathlib.Omega.{arith}
use borrow.Author.Tests.{eq-eqb, eqb-true}
use Rattle.std.proofs.lemmas.Bool.Decides.{nat_tests}
use lib.Dec.{eqb}
use lib.ListN.{replicate}
use Rattle.octets.specs.Numbers.{Octets, octet, octets_from, number}
use Rattle.answer.proofs.Booleans.{clash, both, and_go}
use Rattle.header.specs.Headers.{same, to_all}

-- addresses compare as the same exactly if they are
pub same_self : (xs : List ℕ) → same xs xs ≡ true
same_self [] = refl
same_self (x ∷ xs) = and_go (eqb x x) (eq-eqb x x refl) ∙ same_self xs

pub same_is : (xs ys : List ℕ) → same xs ys ≡ true → xs ≡ ys
same_is [] [] e = refl
same_is [] (y ∷ ys) e = clash (sym e)
same_is (x ∷ xs) [] e = clash (sym e)
same_is (x ∷ xs) (y ∷ ys) e = let w = both (eqb x y) (same xs ys) e in ap₂ (λ z zs. z ∷ zs) (eqb-true x y w.0) (same_is xs ys w.1)

-- octets are all ones where the number that they hold is the highest
abbrev highest : ℕ → ℕ
highest zero = 0
highest (suc k) = 255 + 256 * highest k

both_highest : (o j m : ℕ) → o < 256 → eqb (o + 256 * j) (255 + 256 * m) ≡ (eqb o 255 && eqb j m)
both_highest o j m h = grind (arith, nat_tests)

ones_from : (f : List ℕ) → Octets f → (k at : ℕ) → same (octets_from k at f) (replicate k 255) ≡ eqb (number k at f) (highest k)
ones_from f fit zero at = refl
ones_from f fit (suc k) at =
    ap (λ (b : Bool). eqb (octet at f) 255 && b) (ones_from f fit k (at + 1)) ∙ sym (both_highest (octet at f) (number k (at + 1) f) (highest k) (fit at))

six_ones : (f : List ℕ) → to_all f ≡ (same (octets_from 4 4 f) (replicate 4 255) && same (octets_from 2 8 f) (replicate 2 255))
unfolding to_all
six_ones f = simp (and-true, and_assoc)

pub two_highest : (f : List ℕ) → Octets f → to_all f ≡ (eqb (number 4 4 f) 4294967295 && eqb (number 2 8 f) 65535)
two_highest f fit = six_ones f ∙ ap₂ (λ a b. a && b) (ones_from f fit 4 4) (ones_from f fit 2 8)
