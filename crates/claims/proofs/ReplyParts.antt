-- What an accepted reply was made of: the request that it answers, the report that is owed for it, and its octets; or the broken body that it sends back.
-- Assumes nothing.
use Rattle.std.specs.Prelude.{Ok}
use mathlib.Core.Bool.{true}
use mathlib.Core.List.{List, [], ◌∷◌}
use mathlib.Core.Logic.{◌⊎◌, inl, inr}
use mathlib.Core.Path.{◌≡◌, sym}
use Prim.Native.Nat.{ℕ}
use borrow.Author.Tests.{not-false}
use Rattle.answer.proofs.Judged.{never, passed, kept, followed}
use Rattle.answer.specs.Checks.{Outcome, and_then}
use Rattle.element.specs.declared.tpc_report.TpcReport.{TpcReport}
use Rattle.frame.specs.Actions.{Body, requests, reports, tpc_request, tpc_report, switch}
use Rattle.measured_report.specs.Reports.{report_for}
use Rattle.measured_report.specs.declared.Readings.{Readings}
use Rattle.measurement_body.specs.Bodies.{body_octets}
use Rattle.measurement_body.specs.Lists.{nth}
use Rattle.measurement_body.specs.Reports.{report_sort}
use Rattle.measurement_element.specs.MeasurementReport.{report_may}
use Rattle.measurement_element.specs.declared.measurement_report.Report.{Report}
use Rattle.measurement_element.specs.declared.measurement_request.Request.{Request}
use Rattle.reply.specs.Due.{Owed, asks, breaks, due_means}
use Rattle.reply.specs.Frames.{reply_frame, error_return}
use Rattle.reply.specs.Replies.{owed, tpc_answer, tpc_reply, measurement_answer, measurement_reply, tpc_reply_in, measurement_reply_in}
use Rattle.single_body.specs.Singles.{tpc_report_body}

module _ (own ap f os : List ℕ) where
  -- ---- a broken body

  pub record ReturnParts : Type 0 where
    pub body : List ℕ
    pub due : due_means own ap f ≡ Ok (breaks body)
    pub octets : os ≡ reply_frame own ap (error_return body)

  -- whatever a request would be answered with
  by_owed : (answers : Body → Outcome (List ℕ)) {P : Type 0} → ((body : Body) → due_means own ap f ≡ Ok (asks body) → answers body ≡ Ok os → P)
      → (x : Owed) → due_means own ap f ≡ Ok x → owed own ap answers x ≡ Ok os → P ⊎ ReturnParts
  by_owed answers h (asks body) d g = inl (h body d g)
  by_owed answers h (breaks body) d g = inr (record { body = body; due = d; octets = cc })

  -- ---- to a TPC Request

  pub record TpcParts (report : TpcReport) : Type 0 where
    pub token : ℕ
    pub due : due_means own ap f ≡ Ok (asks (tpc_request token))
    pub octets : os ≡ reply_frame own ap (tpc_report_body token report)

  module _ (report : TpcReport) where
    by_tpc_request : (body : Body) → due_means own ap f ≡ Ok (asks body) → tpc_answer own ap report body ≡ Ok os → TpcParts report
    by_tpc_request (requests token rs) d g = absurd (never g)
    by_tpc_request (reports token rs) d g = absurd (never g)
    by_tpc_request (tpc_request token) d g = record { token = token; due = d; octets = cc }
    by_tpc_request (tpc_report token t) d g = absurd (never g)
    by_tpc_request (switch w) d g = absurd (never g)

    pub tpc_parts : tpc_reply own ap report f ≡ Ok os → TpcParts report ⊎ ReturnParts
    unfolding tpc_reply_in
    tpc_parts e = let (x, d, g) = followed (due_means own ap f) _ os e in by_owed (tpc_answer own ap report) by_tpc_request x d g

  -- ---- to an element of a Measurement Request

  pub record MeasurementParts (clock index : ℕ) (readings : Readings) : Type 0 where
    pub token : ℕ
    pub elements : List Request
    pub request : Request
    pub report : Report
    pub due : due_means own ap f ≡ Ok (asks (requests token elements))
    pub asked : nth index elements ≡ Ok request
    pub owed : report_for clock readings request ≡ Ok report
    pub may : report_may report ≡ true
    pub octets : os ≡ reply_frame own ap (body_octets report_sort token (report ∷ []))

  module _ (clock index : ℕ) (readings : Readings) where
    by_element : (token : ℕ) (rs : List Request) → due_means own ap f ≡ Ok (asks (requests token rs))
        → measurement_answer own ap clock index readings (requests token rs) ≡ Ok os → MeasurementParts clock index readings
    by_element token rs d g =
        let (x, of-request, written) = followed (and_then (nth index rs) (report_for clock readings)) _ os g in
        let (q, at, owed) = followed (nth index rs) _ x of-request in
        let p = passed _ _ _ written in
        record {
          token = token;
          elements = rs;
          request = q;
          report = x;
          due = d;
          asked = at;
          owed = owed;
          may = not-false (report_may x) p.0;
          octets = sym (kept _ p.1);
        }

    by_request : (body : Body) → due_means own ap f ≡ Ok (asks body) → measurement_answer own ap clock index readings body ≡ Ok os
        → MeasurementParts clock index readings
    by_request (requests token rs) d g = by_element token rs d g
    by_request (reports token rs) d g = absurd (never g)
    by_request (tpc_request token) d g = absurd (never g)
    by_request (tpc_report token t) d g = absurd (never g)
    by_request (switch w) d g = absurd (never g)

    pub measurement_parts : measurement_reply own ap clock index readings f ≡ Ok os → MeasurementParts clock index readings ⊎ ReturnParts
    unfolding measurement_reply_in
    measurement_parts e = let (x, d, g) = followed (due_means own ap f) _ os e in by_owed (measurement_answer own ap clock index readings) by_request x d g
