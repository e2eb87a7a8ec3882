-- Where the walk stands past what it passes over, n octets before it.
use Rattle.std.specs.Prelude.{ℕ, Ok, Err}
use Rattle.answer.specs.Faults.{fault_at, Placed}
use Rattle.answer.specs.declared.Refusal.{Refusal}
use Rattle.walk.specs.Elements.{past_element}
use Rattle.walk.specs.Handed.{Handed, end, cut_header, cut_contents, more, passed, cut_passed}

-- the place of what is handed out next or of the end; a vendor's element that is cut is refused, at its place
unfoldable pub next_after : ℕ → Handed → Placed ℕ
next_after n end = Ok n
next_after n cut_header = Ok n
next_after n (cut_contents id) = Ok n
next_after n (more id c hs) = Ok n
next_after n (passed c hs) = next_after (past_element n c) hs
next_after n cut_passed = Err (fault_at n Refusal.ElementCut)
