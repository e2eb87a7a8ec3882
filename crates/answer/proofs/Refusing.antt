-- What holds of whatever refuses. Assumes nothing.
use Rattle.std.specs.Prelude.{Ok, Err, Result}
use mathlib.Core.Path.{◌≡◌, refl, sym, ap, subst}
use mathlib.Core.Bool.{Bool, true, false}
use mathlib.Core.List.{List, [], ◌∷◌}
use Prim.Native.Nat.{ℕ}
use Rattle.answer.specs.Checks.{Outcome, Check, pick, checked, and_then}
use Rattle.answer.specs.Faults.{fault_at, placed_at}
use Rattle.answer.specs.declared.Fault.{Fault}
use Rattle.answer.specs.declared.Refusal.{Refusal}
use Rattle.answer.proofs.Judged.{never}

-- whatever refuses has the property
abbrev pub Refuses : {R A : Type 0} → (R → Type 0) → Result A R → Type 0
Refuses {R} {A} P o = (r : R) → o ≡ Err r → P r

module _ {R A : Type 0} (P : R → Type 0) where
  pub by_value : (a : A) → Refuses {R = R} P (Ok a)
  by_value a r e = absurd (never (sym e))

  pub by_refusal : {r : R} → P r → Refuses {A = A} P (Err r)
  by_refusal {r} p q e = subst P (let same : r ≡ q = cc in same) p

  pub by_either : (t : Bool) (o p : Result A R) → Refuses P o → Refuses P p → Refuses P (pick t o p)
  by_either true o p h k = h
  by_either false o p h k = k

  -- by a check, or by what comes after it
  pub by_check : (c : Check R) (cs : List (Check R)) (o : Result A R) → P c.gives → (c.fails ≡ false → Refuses P (checked cs o)) → Refuses P (checked (c ∷ cs) o)
  unfolding checked
  by_check c cs o p h = by c.fails refl
    where
      by : (t : Bool) → c.fails ≡ t → Refuses P (pick t (Err c.gives) (checked cs o))
      by true e = by_refusal p
      by false e = h e

  pub by_none : (o : Result A R) → Refuses P o → Refuses P (checked [] o)
  unfolding checked
  by_none o h = h

  -- by an outcome, or by what follows its value
  pub by_then : {B : Type 0} (o : Result B R) (f : B → Result A R) → Refuses P o → ((b : B) → o ≡ Ok b → Refuses P (f b)) → Refuses P (and_then o f)
  by_then (Err r) f h k = by_refusal (h r refl)
  by_then (Ok b) f h k = k b refl

-- at a place
pub by_place : {A : Type 0} (P : Fault → Type 0) (n : ℕ) (o : Outcome A) → Refuses (λ (r : Refusal). P (fault_at n r)) o → Refuses P (placed_at n o)
by_place P n (Err r) h = by_refusal P (h r refl)
by_place P n (Ok a) h = by_value P a

pub of_place : {A : Type 0} (P : Fault → Type 0) (n : ℕ) (o : Outcome A) → Refuses P (placed_at n o) → Refuses (λ (r : Refusal). P (fault_at n r)) o
of_place P n o h r e = h (fault_at n r) (ap (placed_at n) e)
