-- How long a number is at most. Assumes nothing.
use Prim.Native.Nat.{ℕ, ◌<◌, ◌≤◌, ◌^◌}
use native.Mathlib.Omega.{arith}
use lib.ListN.{length}
use Rattle.pen.specs.Decimals.{decimal}
use Rattle.pen.proofs.Spelling.{few_digits}

-- a number of 64 bits
pub number_short : (n : ℕ) → n < 2 ^ 64 → length (decimal n) ≤ 20
number_short n h = few_digits 20 n (omega arith) (omega arith)
