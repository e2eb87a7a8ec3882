-- Laws of places: an outcome at a place or at none, and one with so many octets more before it. Assumes nothing.
use Rattle.std.specs.Prelude.{Ok, Err}
use mathlib.Core.Path.{◌≡◌, refl}
use Prim.Native.Nat.{ℕ}
use Rattle.answer.specs.Checks.{Outcome}
use Rattle.answer.specs.Faults.{Placed, placed_at, nowhere, without_place, placed_past}
use Rattle.answer.proofs.Judged.{never}

module _ {A : Type 0} where
  -- what is accepted was accepted
  pub placed_value : (n : ℕ) (o : Outcome A) {a : A} → placed_at n o ≡ Ok a → o ≡ Ok a
  placed_value n (Err r) e = absurd (never e)
  placed_value n (Ok b) e = cc

  pub nowhere_value : (o : Outcome A) {a : A} → nowhere o ≡ Ok a → o ≡ Ok a
  nowhere_value (Err r) e = absurd (never e)
  nowhere_value (Ok b) e = cc

  pub past_value : (n : ℕ) (o : Placed A) {a : A} → placed_past n o ≡ Ok a → o ≡ Ok a
  past_value n (Err x) e = absurd (never e)
  past_value n (Ok b) e = cc

  -- the place is all that is added
  pub past_without : (n : ℕ) (o : Placed A) → without_place (placed_past n o) ≡ without_place o
  past_without n (Err x) = refl
  past_without n (Ok a) = refl

  pub nowhere_without : (o : Outcome A) → without_place (nowhere o) ≡ o
  nowhere_without (Err r) = refl
  nowhere_without (Ok a) = refl
