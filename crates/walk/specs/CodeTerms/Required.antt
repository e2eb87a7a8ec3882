-- Where the element that has to be there lies.
use Rattle.std.specs.Prelude.{List, ◌≡◌, ℕ, ◌+◌, ◌-◌, ◌≤◌, take, drop, Ok, Err}
use Rattle.answer.specs.Checks.{Outcome}
use Rattle.walk.specs.Handed.{passing_in}
use Rattle.walk.specs.Required.{Standing}
use Rattle.walk.specs.declared.Contents.{Contents}

-- the contents that lie there, and the elements after them
abbrev pub between : List ℕ → Contents → Standing
between run c = record { contents = take (c.end - c.start) (drop c.start run); rest = passing_in (drop c.end run) }

-- the outcome that an answer stands for
abbrev pub required_told : List ℕ → Outcome Contents → Outcome Standing
required_told run (Err r) = Err r
required_told run (Ok c) = Ok (between run c)

-- its contents begin two octets past the place, and end in the run
abbrev pub RequiredWithin : ℕ → ℕ → Outcome Contents → Type 0
RequiredWithin at size (Err r) = Unit {0}
RequiredWithin at size (Ok c) = (c.start ≡ at + 2) × (c.start ≤ c.end) × (c.end ≤ size)
