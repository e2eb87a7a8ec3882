-- The code's own terms: a Quiet element by its index, out of the slots beside a frame. No public promise cites these.
use Rattle.std.specs.Prelude.{ℕ, leb, get_or, Ok, Err}
use Rattle.answer.specs.Checks.{Outcome, pick}
use Rattle.answer.specs.declared.Refusal.{Refusal}
use Rattle.beacon.specs.Laid.{no_quiet}
use Rattle.element.specs.declared.quiet.Quiet.{Quiet}
use Rattle.frame.specs.declared.Received.{Received}

abbrev pub held_quiet : ℕ → Received → Outcome Quiet
held_quiet i v = pick (leb v.count i) (Err Refusal.Impossible) (Ok (get_or v.quiets i no_quiet))
