-- What a call gives back, and what it leaves in the lent buffer.
use Rattle.std.specs.Prelude.{Bool, true, List, ◌≡◌, ℕ, ◌-◌, Ok, Err}
use Rattle.answer.specs.Checks.{Outcome, and_then}
use Rattle.answer.specs.Numbers.{number_of}
use Rattle.answer.specs.declared.Refusal.{Refusal}
use Rattle.octets.specs.Numbers.{split}
use Rattle.octets.specs.Writing.{wrote, left}
use Rattle.reply.specs.Replies.{left_by}

-- minus the refusal's number, in 64 bits
abbrev pub refusal_code : Refusal → ℕ
refusal_code r = 18446744073709551616 - number_of r

abbrev pub code_of : Outcome ℕ → ℕ
code_of (Err r) = refusal_code r
code_of (Ok n) = n

-- the six octets of an address, the first of them the least significant
abbrev pub address_of : ℕ → List ℕ
address_of n = split 6 n

-- what is promised of a writer: `os` from a place on where they `may` be written
pub record Put (may : Bool) (os : List ℕ) (at : ℕ) (buffer : List ℕ) (code : ℕ) (exit : List ℕ) : Type 0 where
  pub answers : code ≡ code_of (wrote may os at buffer)
  pub leaves : exit ≡ left may os at buffer

-- what is promised of a call that gives octets or a refusal
pub record Given (o : Outcome (List ℕ)) (buffer : List ℕ) (code : ℕ) (exit : List ℕ) : Type 0 where
  pub answers : code ≡ code_of (and_then o (λ os. wrote true os 0 buffer))
  pub leaves : exit ≡ left_by o buffer
