-- Laws of the sum of a list. Assumes nothing.
use mathlib.Core.Path.{◌≡◌, refl, ap₂}
use mathlib.Core.List.{List, [], ◌∷◌}
use Prim.Native.Nat.{ℕ, zero, suc, ◌+◌, ◌≤◌}
use native.Mathlib.Numerals.{add-one}
use native.Mathlib.Omega.{arith}
use lib.ListN.{length, get_or, take, replicate}
use lib.Seq.{take-nil}
use Rattle.octets.specs.Sums.{sum_of}

-- no entry is over the sum
pub entry_in_sum : (xs : List ℕ) (i : ℕ) → get_or xs i 0 ≤ sum_of xs
entry_in_sum [] i = omega arith
entry_in_sum (x ∷ xs) zero = omega arith
entry_in_sum (x ∷ xs) (suc i) = omega (arith, entry_in_sum xs i)

-- the sum of one entry more
sum_suc : (xs : List ℕ) (i : ℕ) → sum_of (take (suc i) xs) ≡ sum_of (take i xs) + get_or xs i 0
sum_suc [] i = rw take-nil
sum_suc (x ∷ xs) zero = omega arith
sum_suc (x ∷ xs) (suc i) = omega (arith, sum_suc xs i)

pub sum_more : (xs : List ℕ) (i : ℕ) → sum_of (take (i + 1) xs) ≡ sum_of (take i xs) + get_or xs i 0
sum_more xs i = rw add-one (sum_suc xs i)

-- where the sum is 0, every entry is
pub zero_sum : (xs : List ℕ) → sum_of xs ≡ 0 → xs ≡ replicate (length xs) 0
zero_sum [] e = refl
zero_sum (x ∷ xs) e =
    let first : x ≡ 0 = omega arith in
    ap₂ (λ y ys. y ∷ ys) first (zero_sum xs (omega arith))
