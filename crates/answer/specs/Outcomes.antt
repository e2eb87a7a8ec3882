-- What it is for a promise to leave one outcome (01, "How tight the promises are"): of two calls with the same arguments that
-- both meet it, the results are the same, and so is what each leaves in the lent buffer.
use Rattle.std.specs.Prelude.{◌≡◌, List, ℕ}
use borrow.Fn.Kinds.{ParamKind, ResultKind, Dens, res_t, ended_of, Out}
use contract.Lifetimes.{Lfts}
use denote.Triple.Clauses.{AtExit}

module _ (n : ℕ) (ps : List (ParamKind n)) (r : ResultKind n) (Promise : Out n ps r) where
  abbrev pub OneResult : Type 0
  OneResult =
      (κs : Lfts n) (a : Dens κs ps) (e f : AtExit (ended_of n ps r) κs) (x y : (res_t r κs).Denot)
      → Promise κs a x e → Promise κs a y f → x ≡ y

  -- `buffer` is the lent buffer among the arguments as the call leaves them
  abbrev pub OneOutcome : ((κs : Lfts n) → AtExit (ended_of n ps r) κs → List ℕ) → Type 0
  OneOutcome buffer =
      (κs : Lfts n) (a : Dens κs ps) (e f : AtExit (ended_of n ps r) κs) (x y : (res_t r κs).Denot)
      → Promise κs a x e → Promise κs a y f → (x ≡ y) × (buffer κs e ≡ buffer κs f)
