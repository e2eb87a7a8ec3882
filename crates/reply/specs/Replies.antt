-- The two replies (01, "Replies"), in 01's order: header (1 to 4), 18, 16, 13. Either gives the error return of a broken body (02, One).
use Rattle.std.specs.Prelude.{true, not, List, [], ◌∷◌, ◌≡◌, ℕ, Ok, Err}
use Rattle.single_body.specs.Singles.{tpc_report_body}
use Rattle.answer.specs.Checks.{Outcome, ◌⇒◌, judged, and_then}
use Rattle.answer.specs.declared.Refusal.{Refusal}
use Rattle.header.specs.declared.address.Cell.{Cell}
use Rattle.measurement_element.specs.MeasurementReport.{report_may}
use Rattle.element.specs.declared.tpc_report.TpcReport.{TpcReport}
use Rattle.frame.specs.Actions.{Body, requests, reports, tpc_request, tpc_report, switch}
use Rattle.measurement_body.specs.Bodies.{body_octets}
use Rattle.measurement_body.specs.Lists.{nth}
use Rattle.measurement_body.specs.Reports.{report_sort}
use Rattle.octets.specs.Writing.{wrote, left}
use Rattle.reply.specs.Due.{Owed, asks, breaks, due_in}
use Rattle.reply.specs.Frames.{frame_to, error_return, old_sender}
use Rattle.measured_report.specs.Reports.{report_for}
use Rattle.measured_report.specs.declared.Readings.{Readings}

-- ---- the octets of a reply, or the refusal

-- of the station `own` to a sender, with the BSSID
module _ (own to bss : List ℕ) where
  -- a request is answered, and a broken body sent back
  abbrev pub owed_to : (Body → Outcome (List ℕ)) → Owed → Outcome (List ℕ)
  owed_to answers (asks body) = answers body
  owed_to answers (breaks body) = Ok (frame_to own to bss (error_return body))

  -- a TPC Request is answered by a TPC Report with its token; what is no request is due none
  abbrev pub tpc_answer_to : TpcReport → Body → Outcome (List ℕ)
  tpc_answer_to report (requests token rs) = Err Refusal.Impossible
  tpc_answer_to report (reports token rs) = Err Refusal.NoReplyDue
  tpc_answer_to report (tpc_request token) = Ok (frame_to own to bss (tpc_report_body token report))
  tpc_answer_to report (tpc_report token t) = Err Refusal.NoReplyDue
  tpc_answer_to report (switch w) = Err Refusal.NoReplyDue

  -- one frame for one element, with the request's dialog token; impossible readings are 16
  abbrev pub measurement_answer_to : ℕ → ℕ → Readings → Body → Outcome (List ℕ)
  measurement_answer_to clock index readings (requests token rs) =
      and_then (and_then (nth index rs) (report_for clock readings))
      (λ x. judged (not (report_may x) ⇒ Refusal.Impossible ∷ []) (frame_to own to bss (body_octets report_sort token (x ∷ []))))
  measurement_answer_to clock index readings (reports token rs) = Err Refusal.NoReplyDue
  measurement_answer_to clock index readings (tpc_request token) = Err Refusal.Impossible
  measurement_answer_to clock index readings (tpc_report token t) = Err Refusal.NoReplyDue
  measurement_answer_to clock index readings (switch w) = Err Refusal.NoReplyDue

-- in a cell of either kind, by its BSSID
module _ (cell : Cell) (own bss : List ℕ) where
  unfoldable pub tpc_reply_in : TpcReport → List ℕ → Outcome (List ℕ)
  tpc_reply_in report f = let to = old_sender cell bss f in and_then (due_in cell own bss f) (owed_to own to bss (tpc_answer_to own to bss report))

  unfoldable pub measurement_reply_in : ℕ → ℕ → Readings → List ℕ → Outcome (List ℕ)
  measurement_reply_in clock index readings f =
      let to = old_sender cell bss f in and_then (due_in cell own bss f) (owed_to own to bss (measurement_answer_to own to bss clock index readings))

-- of a station with an AP
module _ (own ap : List ℕ) where
  abbrev pub owed : (Body → Outcome (List ℕ)) → Owed → Outcome (List ℕ)
  owed answers x = owed_to own ap ap answers x

  abbrev pub tpc_answer : TpcReport → Body → Outcome (List ℕ)
  tpc_answer report body = tpc_answer_to own ap ap report body

  abbrev pub tpc_reply : TpcReport → List ℕ → Outcome (List ℕ)
  tpc_reply report f = tpc_reply_in Cell.Ap own ap report f

  abbrev pub measurement_answer : ℕ → ℕ → Readings → Body → Outcome (List ℕ)
  measurement_answer clock index readings body = measurement_answer_to own ap ap clock index readings body

  abbrev pub measurement_reply : ℕ → ℕ → Readings → List ℕ → Outcome (List ℕ)
  measurement_reply clock index readings f = measurement_reply_in Cell.Ap own ap clock index readings f

-- ---- the answer, and every byte of the buffer

abbrev pub left_by : Outcome (List ℕ) → List ℕ → List ℕ
left_by (Err r) buffer = buffer
left_by (Ok os) buffer = left true os 0 buffer

-- what is promised of a reply: its answer, and the buffer as it leaves it
pub record Replied (o : Outcome (List ℕ)) (buffer : List ℕ) (answer : Outcome ℕ) (exit : List ℕ) : Type 0 where
  pub answers : answer ≡ and_then o (λ os. wrote true os 0 buffer)
  pub leaves : exit ≡ left_by o buffer
