-- Laws of `checked` and `and_then`: what an accepted value says of each check and value before it, and the ways through a list of checks.
-- Assumes nothing.
use Rattle.std.specs.Prelude.{Ok, Err, Result}
use mathlib.Core.Path.{◌≡◌, refl}
use mathlib.Core.Bool.{Bool, true, false}
use mathlib.Core.List.{List, [], ◌∷◌}
use Prim.Native.Nat.{ℕ}
use native.Mathlib.Omega.{arith}
use Rattle.answer.specs.Checks.{Check, pick, checked, and_then}

pub never : {R A : Type 0} {r : R} {a : A} → Err r ≡ Ok a → ⊥
never e = let z : ◌≡◌ {A = ℕ} 0 1 = cc in omega arith

module _ {R A : Type 0} {a : A} where
  first : (t : Bool) (r : R) (o : Result A R) → pick t (Err r) o ≡ Ok a → (t ≡ false) × (o ≡ Ok a)
  first true r o e = absurd (never e)
  first false r o e = (refl, e)

  -- after an accepted value the first check did not fail, and the others were made
  pub passed : (c : Check R) (cs : List (Check R)) (o : Result A R) → checked (c ∷ cs) o ≡ Ok a → (c.fails ≡ false) × (checked cs o ≡ Ok a)
  unfolding checked
  passed c cs o e = first c.fails c.gives (checked cs o) e

  -- where no check is left, the outcome stands
  pub stands : (o : Result A R) → checked [] o ≡ Ok a → o ≡ Ok a
  unfolding checked
  stands o e = e

  pub kept : (x : A) → checked {R = R} [] (Ok x) ≡ Ok a → x ≡ a
  unfolding checked
  kept x e = cc

-- what follows an accepted value was accepted too
pub followed : {R A B : Type 0} (o : Result A R) (next : A → Result B R) (b : B) → and_then o next ≡ Ok b
    → (a : A) × (o ≡ Ok a) × (next a ≡ Ok b)
followed (Err r) next b e = absurd (never e)
followed (Ok a) next b e = (a, refl, e)

-- ---- the ways through a list of checks: past each that does not fail, up to the one that does or to the end

module _ {R A : Type 0} where
  pub past : (c : Check R) (cs : List (Check R)) (p : Result A R) {o : Result A R} → c.fails ≡ false → o ≡ checked cs p → o ≡ checked (c ∷ cs) p
  unfolding checked
  past c cs p h e = simp h e

  pub stop : (c : Check R) (cs : List (Check R)) (p : Result A R) → c.fails ≡ true → Err c.gives ≡ checked (c ∷ cs) p
  unfolding checked
  stop c cs p h = simp h

  pub done : (a : A) → Ok a ≡ checked {R = R} [] (Ok a)
  unfolding checked
  done a = refl

  -- past the last check
  pub through : (p : Result A R) {o : Result A R} → o ≡ p → o ≡ checked [] p
  unfolding checked
  through p e = e
