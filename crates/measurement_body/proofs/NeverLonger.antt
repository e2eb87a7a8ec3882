-- However many calls of `append` are made one after the other, they write no body that is too long. Assumes nothing.
use Rattle.std.specs.Prelude.{Ok, Err}
use mathlib.Core.Path.{◌≡◌, refl}
use mathlib.Core.List.{List, [], ◌∷◌}
use Prim.Native.Nat.{ℕ, ◌+◌, ◌≤◌}
use native.Mathlib.Omega.{arith}
use borrow.Author.Tests.{leb-true, ltb-false, not-false}
use lib.Dec.{leb}
use lib.ListN.{length, take}
use lib.Seq.{length-take-le}
use Rattle.answer.proofs.Booleans.{both}
use Rattle.answer.proofs.Judged.{never, passed, kept}
use Rattle.answer.specs.Checks.{Outcome}
use Rattle.octets.specs.Writing.{room, wrote}
use Rattle.measurement_body.specs.Bodies.{longest_body, may_open, may_append, appended}
use Rattle.measurement_body.specs.Calls.{Buffer, after_put, may_put, put, appends}
use Rattle.measurement_body.specs.Lists.{Sort}

-- after an accepted call the next ones are made
on : (o : Outcome ℕ) (used : ℕ) (buffer : List ℕ) (next : ℕ → List ℕ → Buffer) {n : ℕ} {P : Type 0}
    → ((k : ℕ) → o ≡ Ok k → (next (used + k) buffer).used ≡ Ok n → P) → (after_put o used buffer next).used ≡ Ok n → P
on (Err r) used buffer next f e = absurd (never e)
on (Ok k) used buffer next f e = f k refl e

module _ {A : Type 0} (s : Sort A) (token : ℕ) where
  -- what an accepted call has put is still within the longest body
  within : (a : A) (used : ℕ) (buffer : List ℕ) (n : ℕ)
      → wrote (may_put s token a used buffer) (put s token a used buffer) used buffer ≡ Ok n → used + n ≤ longest_body
  unfolding wrote room may_append
  within a used buffer n e =
      let p = passed _ _ _ e in
      let count : length (put s token a used buffer) ≡ n = kept _ (passed _ _ _ p.1).1 in
      let fits = ltb-false (length buffer) (used + length (put s token a used buffer)) (passed _ _ _ p.1).0 in
      let starts = both (may_open s token) _ (both (s.may a) _ (not-false _ p.0)).1 in
      let short = both (leb (length (take used buffer) + length (appended s token a (take used buffer))) longest_body) _ starts.1 in
      omega (arith, leb-true (length (take used buffer) + length (appended s token a (take used buffer))) longest_body short.0, length-take-le used buffer (omega arith))

  pub never_longer : (xs : List A) (used : ℕ) (buffer : List ℕ) (n : ℕ) → used ≤ longest_body → (appends s token xs used buffer).used ≡ Ok n
      → n ≤ longest_body
  unfolding appends
  never_longer [] used buffer n short e = let same : used ≡ n = cc in omega arith
  never_longer (a ∷ xs) used buffer n short e =
      on (wrote (may_put s token a used buffer) (put s token a used buffer) used buffer) _ _ _
      (λ k h. never_longer xs (used + k) _ n (within a used buffer k h)) e
