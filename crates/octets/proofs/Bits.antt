-- Octets as the sum of their bits. Assumes nothing.
use mathlib.Core.Path.{◌≡◌, ap}
use mathlib.Core.Bool.{Bool, true, false}
use Prim.Native.Nat.{ℕ, ◌+◌, ◌*◌, ◌/◌, ◌%◌, ◌<◌}
use native.Mathlib.Omega.{arith}
use borrow.Author.Tests.{eqb-true, eqb-false}
use lib.Dec.{eqb}
use Rattle.answer.specs.Checks.{pick}
use Rattle.octets.specs.Numbers.{bit}

-- a bit by its test
pub bit_value : (n : ℕ) (b : Bool) → eqb (n % 2) 1 ≡ b → n % 2 ≡ pick b 1 0
bit_value n true e = eqb-true (n % 2) 1 e
bit_value n false e = let h = eqb-false (n % 2) 1 e in omega arith

-- its weight
pub weigh : (b : Bool) (w : ℕ) → w * pick b 1 0 ≡ pick b w 0
weigh true w = omega arith
weigh false w = omega arith

pub four_bits : (m : ℕ) → m < 16 → m ≡ m % 2 + 2 * (m / 2 % 2) + 4 * (m / 4 % 2) + 8 * (m / 8 % 2)
four_bits m h =
    let a : m / 4 ≡ m / 2 / 2 = omega arith in
    let b : m / 8 ≡ m / 4 / 2 = omega arith in
    let u : m / 8 % 2 ≡ m / 8 = omega arith in
    let v : m / 4 ≡ m / 4 % 2 + 2 * (m / 8) = omega arith in
    let w : m / 2 ≡ m / 2 % 2 + 2 * (m / 4) = omega arith in
    let x : m ≡ m % 2 + 2 * (m / 2) = omega arith in
    omega arith

pub three_bits : (m : ℕ) → m < 8 → m ≡ m % 2 + 2 * (m / 2 % 2) + 4 * (m / 4 % 2)
three_bits m h = omega (arith, four_bits m (omega arith))

-- bit 0 as the code tests it
pub low_bit : (o : ℕ) → bit 0 o ≡ eqb (o % 2) 1
low_bit o = let e : o / 1 ≡ o = omega arith in ap (λ (n : ℕ). eqb (n % 2) 1) e
