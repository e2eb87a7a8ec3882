-- What a call gives back as its caller reads it, a signed number of 64 bits (docs/BOUNDARY.md): 0 or more, or minus a refusal's number.
use Rattle.std.specs.Prelude.{List, ◌≡◌, ℕ, ◌<◌, ◌≤◌, ◌^◌, Ok, Err}
use borrow.Fn.Kinds.{ParamKind, Dens, GoodsP, ended_of, Out, r_num}
use contract.Lifetimes.{Lfts}
use denote.Triple.Clauses.{AtExit}
use Rattle.std.specs.Int.{w64}
use Rattle.answer.specs.Checks.{Outcome}
use Rattle.boundary.specs.Codes.{code_of}

abbrev pub IsNegative : ℕ → Type 0
IsNegative code = 2 ^ 63 ≤ code

-- an accepted number is 0 or more: one of 2 ^ 63 or more would be read as a refusal's
abbrev pub InRange : Outcome ℕ → Type 0
InRange (Err r) = Unit {0}
InRange (Ok n) = n < 2 ^ 63

-- the number stands for one outcome, and one under 0 leaves every lent octet as it was
pub record Answers (code : ℕ) (lent left : List ℕ) : Type 0 where
  pub outcome : Outcome ℕ
  pub in_range : InRange outcome
  pub number : code ≡ code_of outcome
  pub only : (o : Outcome ℕ) → InRange o → code ≡ code_of o → o ≡ outcome
  pub keeps : IsNegative code → left ≡ lent

-- so does each call that a promise allows. `GoodsP` is what a caller's owning the arguments says: a slice of octets has fewer than 2 ^ 63 of them. `lent` and
-- `left` are the lent buffer among the arguments, and as the call leaves them
module _ (n : ℕ) (ps : List (ParamKind n)) (Promise : Out n ps (r_num w64)) where
  abbrev pub EachAnswers : ((κs : Lfts n) → Dens κs ps → List ℕ) → ((κs : Lfts n) → AtExit (ended_of n ps (r_num w64)) κs → List ℕ) → Type 0
  EachAnswers lent left =
      (κs : Lfts n) (a : Dens κs ps) (e : AtExit (ended_of n ps (r_num w64)) κs) (x : ℕ) → GoodsP κs ps a → Promise κs a x e → Answers x (lent κs a) (left κs e)
