-- An error return beside the frame that it answers (02, One: for an action frame to the station refused with 1, 5 to 10, 21 or 22, category present and
-- under 128, "the reply is its body with the category's top bit set and nothing else changed"). The octets of its header are those of any reply (`RepliesTo`).
use Rattle.std.specs.Prelude.{true, List, ◌≡◌, ℕ, ◌+◌, ◌<◌, ◌≤◌, length, Err}
use Rattle.answer.specs.Numbers.{number_of}
use Rattle.answer.specs.declared.Fault.{Fault}
use Rattle.frame.specs.Frames.{frame_means}
use Rattle.header.specs.Headers.{header_length, longest_frame}
use Rattle.octets.specs.Numbers.{octet}
use Rattle.reply.specs.Due.{is_returned}

-- the category is the first octet after the header
abbrev pub category : List ℕ → ℕ
category f = octet header_length f

-- `os` is the error return of the station `own` for the frame `f`
pub record ReturnsBody (own ap f os : List ℕ) : Type 0 where
  -- the frame is refused, whatever the beacon interval, with one of these numbers
  pub fault : Fault
  pub broken : (b : ℕ) → frame_means own ap b f ≡ Err fault
  pub among : is_returned (number_of fault.refusal) ≡ true
  -- it has a category, and its top bit is free; in the return it is set, and every octet after it is the same
  pub present : header_length < length f
  pub free : category f < 128
  pub as_long : length os ≡ length f
  pub short : length os ≤ longest_frame
  pub top_bit : category os ≡ category f + 128
  pub same_octets : (i : ℕ) → header_length < i → octet i os ≡ octet i f
