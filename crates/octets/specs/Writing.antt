-- What a writer answers and what it leaves in the buffer (01, "Answer numbers": "Write: 16, 13", and "lent buffers keep their
-- contents"). `may` says that the record may be written, `os` are its octets, `at` is the place and `buffer` the buffer.
use Rattle.std.specs.Prelude.{◌≡◌, Bool, not, List, [], ◌∷◌, ◌++◌, ℕ, ◌+◌, length, take, drop, ltb, Ok, Err}
use Rattle.answer.specs.Checks.{Outcome, ◌⇒◌, judged}
use Rattle.answer.specs.declared.Refusal.{Refusal}

-- so many octets from a place on, in a buffer of so many
unfoldable pub room : Bool → ℕ → ℕ → ℕ → Outcome ℕ
room may count at size =
    judged
    (not may ⇒ Refusal.Impossible ∷ ltb size (at + count) ⇒ Refusal.BufferShort ∷ [])
    count

-- what a writer answers
unfoldable pub wrote : Bool → List ℕ → ℕ → List ℕ → Outcome ℕ
wrote may os at buffer = room may (length os) at (length buffer)

-- how many octets it stores
abbrev pub stored_by : Outcome ℕ → ℕ
stored_by (Err r) = 0
stored_by (Ok n) = n

-- the octets in place of as many from a place on, with every other byte as it was
abbrev pub over : List ℕ → ℕ → List ℕ → List ℕ
over buffer at os = take at buffer ++ os ++ drop (at + length os) buffer

-- the octets in front, and the rest of the buffer as it was
abbrev pub filled : List ℕ → List ℕ → List ℕ
filled os buffer = os ++ drop (length os) buffer

abbrev pub after : Outcome ℕ → List ℕ → ℕ → List ℕ → List ℕ
after (Err r) os at buffer = buffer
after (Ok n) os at buffer = over buffer at os

-- what a writer leaves
unfoldable pub left : Bool → List ℕ → ℕ → List ℕ → List ℕ
left may os at buffer = after (wrote may os at buffer) os at buffer

-- what is promised of a writer: its answer, and the buffer as it leaves it
pub record Written (may : Bool) (os : List ℕ) (at : ℕ) (buffer : List ℕ) (answer : Outcome ℕ) (exit : List ℕ) : Type 0 where
  pub answers : answer ≡ wrote may os at buffer
  pub leaves : exit ≡ left may os at buffer
