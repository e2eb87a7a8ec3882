-- What it says that a block is damaged, or that it is used. Assumes nothing.
use mathlib.Core.Bool.{Bool, true, false, not}
use mathlib.Core.List.{List, [], ◌∷◌}
use mathlib.Core.Path.{◌≡◌, refl, ap}
use Prim.Native.Nat.{ℕ, ◌+◌, ◌%◌, ◌<◌, ◌≤◌}
use native.Mathlib.Omega.{arith}
use borrow.Author.Tests.{ne_eqb, eqb-true, not-false, ltb-false}
use lib.Dec.{eqb}
use lib.ListN.{length}
use Rattle.std.specs.Prelude.{Some, None}
use Rattle.std.specs.List.{fold}
use Rattle.answer.proofs.Booleans.{neither, or_stop}
use Rattle.answer.specs.Checks.{pick}
use Rattle.octets.specs.Numbers.{number}
use Rattle.octets.specs.Sums.{sum_of}
use Rattle.block.specs.Blocks.{used_length, check_of, is_damaged, block_means}

-- what adds modulo 65,536 gives the sum modulo 65,536
pub folded : (xs : List ℕ) (a : ℕ) → a < 65536 → fold (λ n x. (n + x) % 65536) a xs ≡ (a + sum_of xs) % 65536
folded [] a h = omega arith
folded (x ∷ xs) a h = omega (arith, folded xs ((a + x) % 65536) (omega arith))

pub other_size : (b : List ℕ) → (length b ≡ 512 → ⊥) → None ≡ block_means b
unfolding block_means
other_size b h = rw (or_stop (not (eqb (length b) 512)) _ (ap not (ne_eqb (length b) 512 h)))

-- a block that is used has 512 octets, of which at most 508 are used
pub used_within : (b : List ℕ) (n : ℕ) → block_means b ≡ Some n → (length b ≡ 512) × (n ≡ used_length b) × (n ≤ 508)
unfolding block_means
used_within b n e = by_damage (is_damaged b) refl e
  where
    by_damage : (d : Bool) → is_damaged b ≡ d → pick d None (Some (used_length b)) ≡ Some n → (length b ≡ 512) × (n ≡ used_length b) × (n ≤ 508)
    by_damage true f g = absurd (let z : ◌≡◌ {A = ℕ} 0 1 = cc in omega arith)
    by_damage false f g =
        let w = neither (not (eqb (length b) 512)) _ f in
        let x = neither (not (eqb (number 2 510 b) (check_of b))) _ w.1 in
        let same : n ≡ used_length b = cc in
        (eqb-true (length b) 512 (not-false (eqb (length b) 512) w.0), same, omega (arith, ltb-false 508 (used_length b) x.1))
