-- The ceiling of a quotient is the least number that times the divisor is the dividend or more. Assumes nothing.
use Prim.Native.Nat.{ℕ, ◌+◌, ◌-◌, ◌*◌, ◌<◌, ◌≤◌}
use native.Mathlib.Nat.{div-mul-le_self, lt-div-mul-add, div-lt_iff_lt-mul}
use native.Mathlib.Omega.{arith}
use Rattle.fraction.specs.Fractions.{ceiling}

module _ (n d : ℕ) (pos : 0 < d) where
  pub enough : n ≤ ceiling n d * d
  unfolding ceiling
  enough = omega (arith, lt-div-mul-add {a = n + (d - 1)} {b = d} pos)

  pub least : (k : ℕ) → n ≤ k * d → ceiling n d ≤ k
  unfolding ceiling
  least k h =
      let below : n + (d - 1) < (k + 1) * d = omega arith in
      omega (arith, (div-lt_iff_lt-mul {k = d} {x = n + (d - 1)} {y = k + 1} pos).1 below)

  -- times the divisor it is less than the divisor too much
  pub near : ceiling n d * d ≤ n + (d - 1)
  unfolding ceiling
  near = div-mul-le_self (n + (d - 1)) d
