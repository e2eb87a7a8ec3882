-- How large fractions are, alone and in sum. Assumes nothing.
use mathlib.Core.Path.{◌≡◌}
use mathlib.Core.List.{List, [], ◌∷◌, map}
use Prim.Native.Nat.{ℕ, ◌+◌, ◌-◌, ◌*◌, ◌<◌, ◌≤◌}
use native.Mathlib.Nat.{lt_of_mul-lt-mul_left}
use native.Mathlib.Omega.{arith}
use lib.ListN.{length}
use Rattle.octets.specs.Sums.{sum_of}
use Rattle.octets.proofs.SumLaws.{entry_in_sum}
use Rattle.fraction.specs.Fractions.{fraction_of}
use Rattle.fraction.proofs.Ceilings.{least, near}

-- a time within the duration makes at most 255
pub fraction_bound : (duration time : ℕ) → 0 < duration → time ≤ 1024 * duration → fraction_of duration time ≤ 255
unfolding fraction_of
fraction_bound duration time pos h = least (255 * time) (1024 * duration) (omega arith) 255 (omega arith)

-- each fraction, times the whole, is less than a whole over 255 times its time
rounded : (duration : ℕ) (times : List ℕ) → 0 < duration
    → sum_of (map (fraction_of duration) times) * (1024 * duration) + length times ≤ 255 * sum_of times + length times * (1024 * duration)
unfolding fraction_of
rounded duration [] pos = omega arith
rounded duration (t ∷ times) pos =
    omega (arith, near (255 * t) (1024 * duration) (omega arith), rounded duration times pos)

-- so the fractions of times that are possible add up to 255, and at most one more for each time but one
pub sum_bound : (duration : ℕ) (times : List ℕ) → 0 < duration → sum_of times ≤ 1024 * duration
    → sum_of (map (fraction_of duration) times) ≤ 255 + (length times - 1)
sum_bound duration [] pos h = omega arith
sum_bound duration (t ∷ times) pos h =
    let s = sum_of (map (fraction_of duration) (t ∷ times)) in
    let n = length (t ∷ times) in
    let below : 1024 * duration * s < 1024 * duration * (255 + n) = omega (arith, rounded duration (t ∷ times) pos) in
    omega (arith, lt_of_mul-lt-mul_left (1024 * duration) below)

pub sum_of_eight : (duration : ℕ) (times : List ℕ) → 0 < duration → sum_of times ≤ 1024 * duration → length times ≡ 8
    → sum_of (map (fraction_of duration) times) ≤ 262
sum_of_eight duration times pos h eight = omega (arith, sum_bound duration times pos h)

-- what the densities need: no time is over the sum, and how large they are together
pub ruleset bounds = (entry_in_sum, sum_of_eight)
