-- A body written element by element, as a caller does: one call for each record, until one refuses. What each call has put is
-- added to the octets in use.
use Rattle.std.specs.Prelude.{Bool, List, [], ◌∷◌, ℕ, ◌+◌, take, Ok, Err}
use Rattle.answer.specs.Checks.{Outcome}
use Rattle.octets.specs.Writing.{wrote, left}
use Rattle.measurement_body.specs.Bodies.{may_append, appended}
use Rattle.measurement_body.specs.Lists.{Sort}

-- how many octets are in use, or why a call refused, and the buffer
pub record Buffer : Type 0 where
  pub used : Outcome ℕ
  pub octets : List ℕ

abbrev pub after_put : Outcome ℕ → ℕ → List ℕ → (ℕ → List ℕ → Buffer) → Buffer
after_put (Err r) used buffer next = record { used = Err r; octets = buffer }
after_put (Ok n) used buffer next = next (used + n) buffer

module _ {A : Type 0} (s : Sort A) (token : ℕ) where
  -- what `append` promises of its test and its octets
  abbrev pub may_put : A → ℕ → List ℕ → Bool
  may_put a used buffer = may_append s token a (take used buffer)

  abbrev pub put : A → ℕ → List ℕ → List ℕ
  put a used buffer = appended s token a (take used buffer)

  unfoldable pub appends : List A → ℕ → List ℕ → Buffer
  appends [] used buffer = record { used = Ok used; octets = buffer }
  appends (a ∷ xs) used buffer =
      after_put (wrote (may_put a used buffer) (put a used buffer) used buffer) used
      (left (may_put a used buffer) (put a used buffer) used buffer)
      (appends xs)
