-- Numbers that agree in some of their bits, or in all. Assumes nothing.
use mathlib.Core.Bool.{false}
use mathlib.Core.Logic.{◌↔◌}
use mathlib.Core.Path.{◌≡◌, refl, sym, ap, ap₂, ◌∙◌}
use Prim.Native.Nat.{ℕ, zero, suc, ◌+◌, ◌*◌, ◌/◌, ◌%◌, ◌≤◌, ◌<◌, ◌^◌}
use native.Mathlib.Nat.{div-add-mod, div-div-eq-div-mul, pow-succ', mod-lt, mod-eq_of_lt, zero-div, add-mul-mod_self_left}
use native.Mathlib.Omega.{arith}
use lib.Dec.{eqb}
use Rattle.octets.proofs.Bits.{bit_value, low_bit}
use Rattle.octets.specs.Numbers.{bit}

-- the bit that a test looks at
pub same_bit : (m n : ℕ) → eqb (m % 2) 1 ≡ eqb (n % 2) 1 → m % 2 ≡ n % 2
same_bit m n e = bit_value m (eqb (n % 2) 1) e ∙ sym (bit_value n (eqb (n % 2) 1) refl)

pub lowest : (o p : ℕ) → bit 0 o ≡ bit 0 p → o % 2 ≡ p % 2
lowest o p e = same_bit o p (sym (low_bit o) ∙ e ∙ low_bit p)

-- the bits of a half are those from bit 1 on
halved : (k o : ℕ) → bit k (o / 2) ≡ bit (suc k) o
halved k o = ap (λ (n : ℕ). eqb (n % 2) 1) (div-div-eq-div-mul o 2 (2 ^ k) ∙ ap (λ (m : ℕ). o / m) (sym (pow-succ' 2 k)))

doubled : (m o : ℕ) → 0 < m → o % (2 * m) ≡ o % 2 + 2 * (o / 2 % m)
doubled m o h =
    let low = o % 2 + 2 * (o / 2 % m) in
    let whole : o ≡ low + 2 * m * (o / 2 / m) = omega (arith, div-add-mod (o / 2) m) in
    let small : low < 2 * m = omega (arith, mod-lt (o / 2) h) in
    ap (λ (n : ℕ). n % (2 * m)) whole ∙ add-mul-mod_self_left low (2 * m) (o / 2 / m) ∙ mod-eq_of_lt small

below : (n : ℕ) → n < 2 ^ n
below zero = omega arith
below (suc n) = omega (arith, below n)

-- numbers that agree in their lowest bits
pub low_bits : (n o p : ℕ) → ((k : ℕ) → k < n → bit k o ≡ bit k p) → o % 2 ^ n ≡ p % 2 ^ n
low_bits zero o p e = omega arith
low_bits (suc n) o p e =
    let low = lowest o p (e 0 (omega arith)) in
    let high = low_bits n (o / 2) (p / 2) (λ k h. halved k o ∙ e (suc k) (omega arith) ∙ sym (halved k p)) in
    by o ∙ ap₂ (λ (x y : ℕ). x + 2 * y) low high ∙ sym (by p)
  where
    by : (x : ℕ) → x % 2 ^ suc n ≡ x % 2 + 2 * (x / 2 % 2 ^ n)
    by x = ap (λ (m : ℕ). x % m) (pow-succ' 2 n) ∙ doubled (2 ^ n) x (omega (arith, below n))

-- in all
pub same_number : (o p : ℕ) → ((k : ℕ) → bit k o ≡ bit k p) → o ≡ p
same_number o p e =
    let n = o + p in
    let h = below n in
    sym (mod-eq_of_lt (omega arith)) ∙ low_bits n o p (λ k j. e k) ∙ mod-eq_of_lt (omega arith)

-- ---- numbers with no high bit

pub zero_bit : (k : ℕ) → bit k 0 ≡ false
zero_bit k = ap (λ (n : ℕ). eqb (n % 2) 1) (zero-div (2 ^ k))

pub no_high_bit : (n m : ℕ) → (m < 2 ^ n) ↔ ((k : ℕ) → n ≤ k → bit k m ≡ false)
no_high_bit n m = (there n m, back n m)
  where
    there : (n m : ℕ) → m < 2 ^ n → (k : ℕ) → n ≤ k → bit k m ≡ false
    there zero m h k j = ap (bit k) (let none : m ≡ 0 = omega arith in none) ∙ zero_bit k
    there (suc n) m h zero j = absurd (omega arith)
    there (suc n) m h (suc k) j = sym (halved k m) ∙ there n (m / 2) (omega arith) k (omega arith)

    back : (n m : ℕ) → ((k : ℕ) → n ≤ k → bit k m ≡ false) → m < 2 ^ n
    back zero m e = let none = same_number m 0 (λ k. e k (omega arith) ∙ sym (zero_bit k)) in omega arith
    back (suc n) m e = let high = back n (m / 2) (λ k h. halved k m ∙ e (suc k) (omega arith)) in omega arith
