-- The code's own terms: a pass over the blocks of a capture, which stores their lines or only sees whether they fit. No public promise cites these.
use Rattle.std.specs.Prelude.{Bool, true, List, ◌≡◌, ℕ, ◌+◌, Ok}
use Rattle.answer.specs.Checks.{Outcome, and_then}
use Rattle.octets.specs.Writing.{wrote, left}
use Rattle.capture.specs.Lists.{Told}
use Rattle.boundary.specs.declared.whole.Progress.{Progress}

-- what is answered of octets from a place on, as if they were stored, and what is left of the buffer
pub record Passes (store : Bool) (os : List ℕ) (at : ℕ) (buffer : List ℕ) (answer : Outcome ℕ) (exit : List ℕ) : Type 0 where
  pub answers : answer ≡ wrote true os at buffer
  pub leaves : exit ≡ left store os at buffer

-- where a pass stands that told this after so many octets of lines
abbrev pub passed : ℕ → Told → List ℕ → Outcome Progress
passed count told buffer = and_then (wrote true told.text count buffer) (λ n. Ok (record { count = count + n; lister = told.lister }))
