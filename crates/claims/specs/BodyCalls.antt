-- An action body as a caller writes it (01, "Octets"): a measurement body by one call of `append` for each element, a body of one
-- element by one call of its writer.
use Rattle.std.specs.Prelude.{Bool, true, not, List, ◌++◌, ℕ, eqb, length, drop, Ok}
use Rattle.single_body.specs.Singles.{tpc_request_body, tpc_report_body, switch_body}
use Rattle.element.specs.ChannelSwitch.{switch_may}
use Rattle.frame.specs.Actions.{Body, requests, reports, tpc_request, tpc_report, switch}
use Rattle.measurement_body.specs.Calls.{Buffer, appends}
use Rattle.measurement_body.specs.Reports.{report_sort}
use Rattle.measurement_body.specs.Requests.{request_sort}
use Rattle.octets.specs.Writing.{wrote, left}

-- one call of a writer, from the buffer's first octet on
abbrev pub once : Bool → List ℕ → List ℕ → Buffer
once may os buffer = record { used = wrote may os 0 buffer; octets = left may os 0 buffer }

-- what the calls make of a buffer, by what each writer promises
unfoldable pub body_calls : Body → List ℕ → Buffer
body_calls (requests token rs) buffer = appends request_sort token rs 0 buffer
body_calls (reports token rs) buffer = appends report_sort token rs 0 buffer
body_calls (tpc_request token) buffer = once (not (eqb token 0)) (tpc_request_body token) buffer
body_calls (tpc_report token t) buffer = once true (tpc_report_body token t) buffer
body_calls (switch s) buffer = once (switch_may s) (switch_body s) buffer

-- every call accepted, these octets in front, and the rest of the buffer as it was
abbrev pub holding : List ℕ → List ℕ → Buffer
holding os buffer = record { used = Ok (length os); octets = os ++ drop (length os) buffer }
