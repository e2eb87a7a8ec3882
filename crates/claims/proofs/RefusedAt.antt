-- What a refusal, and one at a place, says of the checks and the outcomes that it came from. Assumes nothing.
use Rattle.std.specs.Prelude.{Ok, Err, Some, None, Option, Result}
use mathlib.Core.Bool.{Bool, true, false}
use mathlib.Core.List.{List, [], ◌∷◌}
use mathlib.Core.Path.{◌≡◌, refl, sym, ap, ap₂}
use Prim.Native.Nat.{ℕ, ◌+◌}
use native.Mathlib.Omega.{arith}
use Rattle.answer.proofs.Judged.{never}
use Rattle.answer.specs.Checks.{Outcome, Check, pick, checked, and_then}
use Rattle.answer.specs.Faults.{fault_at, fault_nowhere, Placed, placed_at, nowhere, offset_past, fault_past, placed_past}
use Rattle.answer.specs.declared.Fault.{Fault}
use Rattle.answer.specs.declared.Refusal.{Refusal}

module _ {R A : Type 0} {r : R} where
  -- a check that gives another refusal did not fail, and the others were made
  pub unfailed : (c : Check R) (cs : List (Check R)) (o : Result A R) → (c.gives ≡ r → ⊥) → checked (c ∷ cs) o ≡ Err r
      → (c.fails ≡ false) × (checked cs o ≡ Err r)
  unfolding checked
  unfailed c cs o other e = by c.fails e
    where
      by : (t : Bool) → pick t (Err c.gives) (checked cs o) ≡ Err r → (t ≡ false) × (checked cs o ≡ Err r)
      by true g = absurd (other cc)
      by false g = (refl, g)

  -- where no check is left, the outcome refuses
  pub unchecked : (o : Result A R) → checked [] o ≡ Err r → o ≡ Err r
  unfolding checked
  unchecked o e = e

  -- an outcome refuses, or what follows its value does
  pub refused_by : {B P : Type 0} (o : Result B R) (next : B → Result A R) → and_then o next ≡ Err r
      → (o ≡ Err r → P) → ((b : B) → o ≡ Ok b → next b ≡ Err r → P) → P
  refused_by (Err q) next e first later = first cc
  refused_by (Ok b) next e first later = later b refl e

  -- the outcome does, where what follows refuses nothing
  pub made_refused : {B : Type 0} (o : Result B R) (make : B → A) → and_then o (λ b. Ok (make b)) ≡ Err r → o ≡ Err r
  made_refused (Err q) make e = cc
  made_refused (Ok b) make e = absurd (never (sym e))

-- ---- places

-- a fault at a place is at no other
pub same_place : (n p : ℕ) (q r : Refusal) → fault_at n q ≡ fault_at p r → p ≡ n
same_place n p q r e = let same = ap (λ (x : Fault). x.offset) e in cc

-- and not at none
pub some_place : (q : Refusal) (p : ℕ) (r : Refusal) → fault_nowhere q ≡ fault_at p r → ⊥
some_place q p r e = let same = ap (λ (x : Fault). x.offset) e in let z : ◌≡◌ {A = ℕ} 0 1 = cc in omega arith

module _ {A : Type 0} (p : ℕ) (r : Refusal) where
  -- an outcome at a place refuses there
  pub at_place : (n : ℕ) (o : Outcome A) → placed_at n o ≡ Err (fault_at p r) → p ≡ n
  at_place n (Err q) e = same_place n p q r cc
  at_place n (Ok a) e = absurd (never (sym e))

  -- one that is refused as a whole refuses at none
  pub not_nowhere : (o : Outcome A) → nowhere o ≡ Err (fault_at p r) → ⊥
  not_nowhere (Err q) e = some_place q p r cc
  not_nowhere (Ok a) e = never (sym e)

  -- one with n octets before it refuses at a place of its own
  pub record Past (n : ℕ) (o : Placed A) : Type 0 where
    pub own : ℕ
    pub place : p ≡ n + own
    pub refuses : o ≡ Err (fault_at own r)

  pub past_place : (n : ℕ) (o : Placed A) → placed_past n o ≡ Err (fault_at p r) → Past n o
  past_place n (Err x) e =
      let same : fault_past n x ≡ fault_at p r = cc in
      by x.offset refl (ap (λ (y : Fault). y.offset) same) (ap (λ (y : Fault). y.refusal) same)
    where
      by : (o : Option ℕ) → x.offset ≡ o → offset_past n o ≡ Some p → x.refusal ≡ r → Past n (Err x)
      by None g k is = absurd (let z : ◌≡◌ {A = ℕ} 0 1 = cc in omega arith)
      by (Some m) g k is =
          record { own = m; place = cc; refuses = ap₂ (λ (q : Refusal) (o : Option ℕ). Err (record { refusal = q; offset = o })) is g }
  past_place n (Ok a) e = absurd (never (sym e))
