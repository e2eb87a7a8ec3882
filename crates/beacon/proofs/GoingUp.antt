-- A refusal that goes up with its place: what `map_err` makes of an outcome, and what comes of a refusal there. Assumes nothing.
use Rattle.std.specs.Prelude.{Ok, Err, MatchResult, IsErrAnd}
use mathlib.Core.Path.{◌≡◌, refl, sym, ap, ◌∙◌}
use Prim.Native.Nat.{ℕ}
use Rattle.std.proofs.lemmas.Result.{err_from_is_err_and}
use Rattle.answer.proofs.Judged.{never}
use Rattle.answer.specs.Checks.{Outcome}
use Rattle.answer.specs.Faults.{Placed, fault_at, placed_at}
use Rattle.answer.specs.declared.Fault.{Fault}
use Rattle.answer.specs.declared.Refusal.{Refusal}

module _ {A : Type 0} (n : ℕ) (o : Outcome A) where
  pub mapped : {p : Placed A} {Gives : Refusal → Fault → Type 0} → ((r : Refusal) (x : Fault) → Gives r x → x ≡ fault_at n r)
      → MatchResult o (λ a. p ≡ Ok a) (λ r. IsErrAnd p (Gives r)) → p ≡ placed_at n o
  mapped {p} {Gives} gives = by o
    where
      by : (u : Outcome A) → MatchResult u (λ a. p ≡ Ok a) (λ r. IsErrAnd p (Gives r)) → p ≡ placed_at n u
      by (Err r) h =
          let e = err_from_is_err_and p h in
          e.1 ∙ ap Err (gives r e.0 e.2)
      by (Ok a) h = h

  pub placed_fault : {x : Fault} → placed_at n o ≡ Err x → (r : Refusal) × (o ≡ Err r) × (fault_at n r ≡ x)
  placed_fault {x} = by o
    where
      by : (u : Outcome A) → placed_at n u ≡ Err x → (r : Refusal) × (u ≡ Err r) × (fault_at n r ≡ x)
      by (Err r) e = (r, refl, cc)
      by (Ok a) e = absurd (never (sym e))
