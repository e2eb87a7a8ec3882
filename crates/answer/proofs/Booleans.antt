-- What a test says: one way or the other, both of an `&&`, and neither of an `||`. Assumes nothing.
use mathlib.Core.Path.{◌≡◌, refl}
use mathlib.Core.Bool.{Bool, true, false, ◌&&◌, ◌||◌}
use mathlib.Core.Logic.{◌⊎◌, inl, inr}
use Prim.Native.Nat.{ℕ}
use native.Mathlib.Omega.{arith}

-- what is true is not false, so anything follows
pub clash : {A : Type 0} → true ≡ false → A
clash e = absurd (let z : ◌≡◌ {A = ℕ} 0 1 = cc in omega arith)

-- a test goes one way or the other
pub either : (t : Bool) → (t ≡ true) ⊎ (t ≡ false)
either true = inl refl
either false = inr refl

pub both : (a b : Bool) → (a && b) ≡ true → (a ≡ true) × (b ≡ true)
both true b e = (refl, e)
both false b e = absurd (let z : ◌≡◌ {A = ℕ} 0 1 = cc in omega arith)

pub neither : (a b : Bool) → (a || b) ≡ false → (a ≡ false) × (b ≡ false)
neither true b e = clash e
neither false b e = (refl, e)

-- ---- a chain of tests, from the left: past one that leaves it open, or stopped at one that decides

pub and_go : (a : Bool) {r : Bool} → a ≡ true → (a && r) ≡ r
and_go a {r} e = simp e

pub and_stop : (a : Bool) (r : Bool) → a ≡ false → (a && r) ≡ false
and_stop a r e = simp e

pub or_go : (a : Bool) {r : Bool} → a ≡ false → (a || r) ≡ r
or_go a {r} e = simp e

pub or_stop : (a : Bool) (r : Bool) → a ≡ true → (a || r) ≡ true
or_stop a r e = simp e
