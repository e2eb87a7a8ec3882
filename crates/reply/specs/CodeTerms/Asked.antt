-- What is due, as the code tells it: a request by its token and, of a Measurement Request, its element at an index; or a broken body.
use Rattle.std.specs.Prelude.{ℕ, Ok, Err}
use Rattle.answer.specs.Checks.{Outcome, and_then}
use Rattle.answer.specs.declared.Refusal.{Refusal}
use Rattle.frame.specs.Actions.{Body, requests, reports, tpc_request, tpc_report, switch}
use Rattle.measurement_body.specs.Lists.{nth}
use Rattle.reply.specs.Due.{Owed, asks, breaks}
use Rattle.reply.specs.declared.due.Due.{Due}

-- of a body that was accepted
abbrev pub request_due : ℕ → Body → Outcome Due
request_due i (requests token rs) = Ok (Due.Measurement token (nth i rs))
request_due i (reports token rs) = Err Refusal.NoReplyDue
request_due i (tpc_request token) = Ok (Due.Tpc token)
request_due i (tpc_report token t) = Err Refusal.NoReplyDue
request_due i (switch w) = Err Refusal.NoReplyDue

abbrev pub owed_due : ℕ → Owed → Outcome Due
owed_due i (asks body) = request_due i body
owed_due i (breaks body) = Ok Due.Broken

abbrev pub due_of : ℕ → Outcome Owed → Outcome Due
due_of i o = and_then o (owed_due i)
