-- What stands before the fault is sound (02, One): where a frame is refused at an element or at a left-over octet, the octets before it are a frame that is accepted,
-- or, where it is an action frame's first element, one in which that element is absent (7, at its end).
use Rattle.std.specs.Prelude.{false, List, ◌≡◌, ℕ, ◌<◌, eqb, take, Ok, Err}
use Rattle.answer.specs.Checks.{pick}
use Rattle.answer.specs.Faults.{fault_at}
use Rattle.answer.specs.declared.Refusal.{Refusal}
use Rattle.frame.specs.Frames.{Sent, frame_means}
use Rattle.header.specs.Headers.{subtype}
use Rattle.octets.specs.Numbers.{octet}

-- how many octets stand before the first element: the header (24), and an action frame's category, action and, but for action 4, token, or a beacon's or a
-- probe response's fixed fields (12)
abbrev pub first_element : List ℕ → ℕ
first_element f = pick (eqb (subtype f) 13) (pick (eqb (octet 25 f) 4) 26 27) 36

-- of the frame `f`, refused at the octet with `p` before it
pub record SoundBefore (own ap : List ℕ) (b : ℕ) (f : List ℕ) (p : ℕ) : Type 0 where
  -- an action frame needs its first element, and a beacon or a probe response needs none
  pub first_absent : subtype f ≡ 13 → p ≡ first_element f → frame_means own ap b (take p f) ≡ Err (fault_at p Refusal.ElementAbsent)
  pub notice_accepted : eqb (subtype f) 13 ≡ false → (s : Sent) × (frame_means own ap b (take p f) ≡ Ok s)
  pub later_accepted : first_element f < p → (s : Sent) × (frame_means own ap b (take p f) ≡ Ok s)
