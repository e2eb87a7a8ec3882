-- A frame as a station of an IBSS reads it (02, Five), as its fields at fixed places (docs/BOUNDARY.md): 01's, and the sender and element 41 after them.
use Rattle.std.specs.Prelude.{List, ◌∷◌, ◌++◌, ℕ, replicate, Ok, Some, None, Option}
use Rattle.answer.specs.Checks.{Outcome, and_then}
use Rattle.answer.specs.Faults.{Placed}
use Rattle.element.specs.declared.ibss_dfs.IbssDfs.{IbssDfs}
use Rattle.element.specs.declared.quiet.Quiet.{Quiet}
use Rattle.frame.specs.Frames.{Sent}
use Rattle.frame.specs.IbssFrames.{SentInIbss}
use Rattle.frame.specs.declared.ibss.ReceivedInIbss.{ReceivedInIbss}
use Rattle.octets.specs.Numbers.{split}
use Rattle.boundary.specs.ElementFields.{quiet_of}
use Rattle.boundary.specs.FrameFields.{frame_fields}

-- 1 where there is an element 41, its owner (6), recovery interval and how many pairs it has (8); zeros where there is none
abbrev pub held_dfs : Option IbssDfs → List ℕ
held_dfs None = replicate 16 0
held_dfs (Some d) = 1 ∷ (d.owner ++ (d.recovery ∷ split 8 d.pairs))

-- 01's fields; sender (6); element 41 (16)
abbrev pub with_sender : ReceivedInIbss → List ℕ → List ℕ
with_sender h os = os ++ h.sender ++ held_dfs h.dfs

-- of what was received, or its refusal
abbrev pub ibss_fields : ReceivedInIbss → Outcome (List ℕ)
ibss_fields h = and_then (frame_fields h.received) (λ os. Ok (with_sender h os))

-- ---- a Quiet element by its index, of what 01 reads of the frame

abbrev pub sent_in : Placed SentInIbss → Placed Sent
sent_in o = and_then o (λ s. Ok s.sent)

abbrev pub quiet_in_ibss : ℕ → Placed SentInIbss → Outcome Quiet
quiet_in_ibss i o = quiet_of i (sent_in o)
