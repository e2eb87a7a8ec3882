-- A call's outcome, and the order of its refusals as data: a list of checks, of which the first that fails gives the answer
-- (01, "Answer numbers", "Order").
use Rattle.std.specs.Prelude.{Bool, true, false, List, [], ◌∷◌, Ok, Err, Result}
use Rattle.answer.specs.declared.Refusal.{Refusal}

infix 70 ◌⇒◌
abbrev pub pick : {A : Type 0} → Bool → A → A → A
pick true a b = a
pick false a b = b

-- a value, or a refusal
abbrev pub Outcome : Type 0 → Type 0
Outcome A = Result A Refusal

-- what a call answers whose value stands beside it
abbrev pub Answer : Type 0
Answer = Outcome (Unit {0})

-- whether a check fails, and the refusal that this gives
pub record Check (R : Type 0) : Type 0 where
  pub fails : Bool
  pub gives : R

abbrev pub ◌⇒◌ : {R : Type 0} → Bool → R → Check R
t ⇒ r = record { fails = t; gives = r }

-- checks in front of an outcome: the first that fails refuses, and where none does the outcome stands
unfoldable pub checked : {R A : Type 0} → List (Check R) → Result A R → Result A R
checked [] o = o
checked (c ∷ cs) o = pick c.fails (Err c.gives) (checked cs o)

-- checks in front of a value
abbrev pub judged : {R A : Type 0} → List (Check R) → A → Result A R
judged cs a = checked cs (Ok a)

-- what follows an accepted value; a refusal stays
abbrev pub and_then : {R A B : Type 0} → Result A R → (A → Result B R) → Result B R
and_then (Err r) next = Err r
and_then (Ok a) next = next a

-- the answer that stands for an outcome
abbrev pub answer_of : {A : Type 0} → Outcome A → Answer
answer_of (Err r) = Err r
answer_of (Ok a) = Ok tt
