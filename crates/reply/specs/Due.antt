-- What a frame is owed (01, "Replies": "Due only for accepted Action frames whose DA is the station. Past check 4, all else is 18"; 02, One: a
-- broken body comes back). `own` is the station's address and `ap` its AP's.
use Rattle.std.specs.Prelude.{Bool, ◌&&◌, ◌||◌, List, ℕ, leb, ltb, eqb, length, Ok, Err}
use Rattle.action.specs.Openings.{category_field}
use Rattle.answer.specs.Checks.{Outcome, pick, and_then}
use Rattle.answer.specs.Faults.{Placed}
use Rattle.answer.specs.Numbers.{number_of}
use Rattle.answer.specs.declared.Refusal.{Refusal}
use Rattle.frame.specs.Actions.{Body, action_means}
use Rattle.header.specs.Headers.{body_of, header_means}
use Rattle.header.specs.declared.Head.{Head}
use Rattle.header.specs.declared.address.Cell.{Cell}
use Rattle.header.specs.declared.management.Subtype.{Subtype}
use Rattle.octets.specs.Numbers.{octet}

-- an answer to what its body asks, or its broken body back
pub data Owed : Type 0 where
  asks : Body → Owed
  breaks : List ℕ → Owed

-- "refused with 1, 5 to 10, 21 or 22"
abbrev pub is_returned : ℕ → Bool
is_returned n = eqb n 1 || ((leb 5 n && leb n 10) || (eqb n 21 || eqb n 22))

-- "category present and under 128"
abbrev pub has_category : List ℕ → Bool
has_category body = ltb 0 (length body) && ltb (octet category_field body) 128

-- "other broken bodies still give 18"
abbrev pub or_return : List ℕ → Placed Body → Outcome Owed
or_return body (Err x) = pick (is_returned (number_of x.refusal) && has_category body) (Ok (breaks body)) (Err Refusal.NoReplyDue)
or_return body (Ok b) = Ok (asks b)

abbrev pub by_subtype : Subtype → List ℕ → Outcome Owed
by_subtype Subtype.Beacon body = Err Refusal.NoReplyDue
by_subtype Subtype.ProbeResponse body = Err Refusal.NoReplyDue
by_subtype Subtype.Action body = or_return body (action_means body)

-- after the header: not to all ones, and an action frame
abbrev pub after_header : List ℕ → Head → Outcome Owed
after_header f h = pick h.to_all (Err Refusal.NoReplyDue) (by_subtype h.subtype (body_of f))

-- in a cell of either kind, by its BSSID (02, Five)
unfoldable pub due_in : Cell → List ℕ → List ℕ → List ℕ → Outcome Owed
due_in cell own bss f = and_then (header_means cell own bss f) (after_header f)

abbrev pub due_means : List ℕ → List ℕ → List ℕ → Outcome Owed
due_means own ap f = due_in Cell.Ap own ap f
