-- Each due request has a reply, and a buffer that is long enough takes it (01, "Replies"): every TPC Request, whatever the report, and every element of a
-- Measurement Request but Enable elements, whatever the clock. Assumes nothing.
use Rattle.std.specs.Prelude.{Ok}
use mathlib.Core.Bool.{Bool, true, false}
use mathlib.Core.List.{List}
use mathlib.Core.Logic.{◌⊎◌, inl, inr}
use mathlib.Core.Path.{◌≡◌, refl, sym, ap, ◌∙◌, subst, subst₃}
use Prim.Native.Nat.{ℕ, ◌+◌, ◌≤◌}
use native.Mathlib.Omega.{arith}
use borrow.Author.Tests.{lt-ltb}
use lib.Dec.{eqb}
use lib.ListN.{length, length-append}
use Rattle.answer.proofs.Booleans.{neither}
use Rattle.answer.specs.Checks.{Outcome, checked, and_then}
use Rattle.element.specs.TpcReport.{tpc_report_octets}
use Rattle.element.specs.declared.tpc_report.TpcReport.{TpcReport}
use Rattle.frame.specs.Actions.{Body, requests, tpc_request}
use Rattle.header.specs.Headers.{header_length}
use Rattle.measured_report.specs.Reports.{plain, found, is_late, begun, report_for}
use Rattle.measured_report.specs.declared.Finding.{Finding}
use Rattle.measured_report.specs.declared.Readings.{Readings}
use Rattle.measurement_body.specs.Lists.{nth}
use Rattle.measurement_element.specs.MeasurementReport.{report_may}
use Rattle.measurement_element.specs.MeasurementRequest.{request_matter_forbids, request_forbids}
use Rattle.measurement_element.specs.Span.{span_forbids}
use Rattle.measurement_element.specs.declared.found.Found.{Found}
use Rattle.measurement_element.specs.declared.measurement_report.Matter.{Matter}
use Rattle.measurement_element.specs.declared.measurement_report.Reason.{Reason}
use Rattle.measurement_element.specs.declared.measurement_report.Report.{Report}
use Rattle.measurement_element.specs.declared.measurement_request.Matter as Asks
use Rattle.measurement_element.specs.declared.measurement_request.Request.{Request}
use Rattle.measurement_element.specs.declared.span.Span.{Span}
use Rattle.octets.proofs.Storing.{room_answer, front_left}
use Rattle.octets.specs.Writing.{wrote, filled}
use Rattle.reply.proofs.Framed.{head_length_lem}
use Rattle.reply.proofs.OneReport.{body, short_body}
use Rattle.reply.specs.Due.{asks, breaks, due_means}
use Rattle.reply.specs.Frames.{head_to, reply_frame}
use Rattle.reply.specs.Replies.{tpc_reply, measurement_reply, left_by, Replied, tpc_reply_in, measurement_reply_in}
use Rattle.single_body.specs.Singles.{tpc_report_body}
use Rattle.claims.proofs.DueFrames.{owed_by_station, element_allowed}
use Rattle.claims.proofs.OwedReports.{owed}
use Rattle.claims.proofs.ReplyParts.{MeasurementParts, ReturnParts, measurement_parts}
use Rattle.claims.proofs.Same.{accepted_once}
use Rattle.claims.specs.AnsweredRequests.{IsEnable, TpcCall, MeasurementCall, Answered}
use Rattle.claims.specs.PossibleReadings.{AsAsked, basic, cca, rpi, Possible, incapable, late, refuses, carried, refusing}

-- ---- a report for possible readings

-- one that is owed and may be written
record Writable (clock : ℕ) (readings : Readings) (q : Request) : Type 0 where
  report : Report
  owes : report_for clock readings q ≡ Ok report
  may : report_may report ≡ true

module _ {times : List ℕ} where
  as_found : {kind : ℕ} {finding : Finding} {x : Found} {ds : List ℕ} (token : ℕ) (s : Span) → AsAsked s.duration times kind finding x ds
      → found token kind s finding times ≡ Ok (record { token = token; kind = kind; matter = Matter.Measured s x; densities = ds })
  as_found token s (basic h k) = refl
  as_found token s (cca e) = rw e
  as_found token s (rpi e) = rw e

  may_carry : {duration kind : ℕ} {finding : Finding} {x : Found} {ds : List ℕ} (token : ℕ) (s : Span) → span_forbids s ≡ false → AsAsked duration times kind finding x ds
      → report_may (record { token = token; kind = kind; matter = Matter.Measured s x; densities = ds }) ≡ true
  unfolding report_may
  may_carry token s allowed (basic {map = m} h k) = rw (allowed, k, lt-ltb m 32 h)
  may_carry token s allowed (cca e) = rw allowed
  may_carry token s allowed (rpi e) = rw allowed

module _ (clock : ℕ) (readings : Readings) (q : Request) (allowed : request_forbids q ≡ false) where
  unmeasured : (reason : Reason) → report_for clock readings q ≡ Ok (plain q.token q.kind (Matter.NotMeasured reason)) → Writable clock readings q
  unfolding report_may
  unmeasured reason e = record { report = plain q.token q.kind (Matter.NotMeasured reason); owes = e; may = refl }

  by_late : {s : Span} → q.matter ≡ Asks.Matter.Measure s → (is_late clock s ≡ false → Writable clock readings q) → Writable clock readings q
  by_late {s} e h = by (is_late clock s) refl
    where
      by : (t : Bool) → is_late clock s ≡ t → Writable clock readings q
      by true k = unmeasured Reason.Late (rw (e, k))
      by false k = h k

  writable : Possible clock readings q → Writable clock readings q
  writable (incapable e) = unmeasured Reason.Incapable (rw e)
  writable (late e k) = unmeasured Reason.Late (rw (e, k))
  writable (refuses e k) = by_late e (λ t. unmeasured Reason.Refused (rw (e, t, k)))
  writable (carried {asked = s} {found = x} {densities = ds} e k) =
      by_late e
      (λ t.
      record {
        report = record { token = q.token; kind = q.kind; matter = Matter.Measured (begun clock s) x; densities = ds };
        owes = rw (e, t) (as_found q.token (begun clock s) k);
        may = may_carry q.token (begun clock s) (rw e at (neither (eqb q.token 0) (request_matter_forbids q.matter) allowed).1) k;
      })

refusing_possible : (clock : ℕ) (q : Request) → (IsEnable q.matter → ⊥) → Possible clock refusing q
refusing_possible clock q measures = by q.matter refl measures
  where
    by : (m : Asks.Matter) → q.matter ≡ m → (IsEnable m → ⊥) → Possible clock refusing q
    by (Asks.Matter.Enable r p) e h = absurd (h tt)
    by (Asks.Matter.Measure s) e h = refuses e refl
    by Asks.Matter.Uninterpreted e h = incapable e

-- ---- into a buffer that is long enough

put_in_front : {o : Outcome (List ℕ)} {os buffer exit : List ℕ} {answer : Outcome ℕ} → Replied o buffer answer exit → o ≡ Ok os → length os ≤ length buffer
    → (answer ≡ Ok (length os)) × (exit ≡ filled os buffer)
put_in_front {os = os} {buffer = buffer} {answer = answer} w e h = (
  w.answers ∙ ap (λ (x : Outcome (List ℕ)). and_then x (λ xs. wrote true xs 0 buffer)) e ∙ room_answer os 0 buffer (omega arith),
  w.leaves ∙ ap (λ (x : Outcome (List ℕ)). left_by x buffer) e ∙ front_left os buffer h,
)

module _ (own ap' f : List ℕ) where
  reply_length : (asked : Body) → due_means own ap' f ≡ Ok (asks asked) → (os : List ℕ) → length (reply_frame own ap' os) ≡ header_length + length os
  reply_length asked d os =
      let a = owed_by_station own ap' f (asks asked) d in
      length-append (head_to own ap' ap') os ∙ ap (λ (n : ℕ). n + length os) (head_length_lem own ap' ap' (ap length (sym a.to_station)) (ap length (sym a.from_ap)) (ap length (sym a.from_ap)))

  -- ---- TPC Requests

  module _ (report : TpcReport) where
    tpc_called : (buffer exit : List ℕ) (answer : Outcome ℕ) → TpcCall own ap' f report buffer exit answer → Replied (tpc_reply own ap' report f) buffer answer exit
    tpc_called buffer exit answer (κs, a, e, promised, of_frame, of-own, of-ap, of-report, lent, left) =
        let same : tpc_reply a.1.0 a.1.1.0 a.1.1.1.0 a.0.now ≡ tpc_reply own ap' report f = cc in
        subst₃ (λ (o : Outcome (List ℕ)) (b x : List ℕ). Replied o b answer x) same lent left promised

    pub tpc_answered : (token : ℕ) → due_means own ap' f ≡ Ok (asks (tpc_request token)) → Answered (tpc_reply own ap' report f) (TpcCall own ap' f report)
    unfolding tpc_reply_in tpc_report_octets
    tpc_answered token d =
        let given : tpc_reply own ap' report f ≡ Ok (reply_frame own ap' (tpc_report_body token report)) = rw d in
        record {
          octets = reply_frame own ap' (tpc_report_body token report);
          given = given;
          short = omega (arith, reply_length (tpc_request token) d (tpc_report_body token report));
          put = λ buffer exit answer call h. put_in_front (tpc_called buffer exit answer call) given h;
        }

  -- ---- elements of Measurement Requests

  module _ (clock index : ℕ) where
    element_called : (readings : Readings) (buffer exit : List ℕ) (answer : Outcome ℕ) → MeasurementCall own ap' f clock index readings buffer exit answer
        → Replied (measurement_reply own ap' clock index readings f) buffer answer exit
    element_called readings buffer exit answer (κs, a, e, promised, of_frame, of-own, of-ap, of-clock, of-index, of-readings, lent, left) =
        let same : measurement_reply a.1.0 a.1.1.0 a.1.1.1.0 a.1.1.1.1.0 a.1.1.1.1.1.0 a.0.now ≡ measurement_reply own ap' clock index readings f = cc in
        subst₃ (λ (o : Outcome (List ℕ)) (b x : List ℕ). Replied o b answer x) same lent left promised

    module _ (readings : Readings) (token : ℕ) (rs : List Request) (q : Request) (due : due_means own ap' f ≡ Ok (asks (requests token rs))) (at : nth index rs ≡ Ok q) where
      -- with all possible readings
      pub element_answered : length readings.times ≡ 8 → Possible clock readings q → Answered (measurement_reply own ap' clock index readings f) (MeasurementCall own ap' f clock index readings)
      unfolding measurement_reply_in checked
      element_answered eight possible =
          let w = writable clock readings q (element_allowed own ap' f token rs index q due at) possible in
          let x = w.report in
          let given : measurement_reply own ap' clock index readings f ≡ Ok (reply_frame own ap' (body token x)) = rw (due, at, w.owes, w.may) in
          record {
            octets = reply_frame own ap' (body token x);
            given = given;
            short = omega (arith, reply_length (requests token rs) due (body token x), short_body token x ((owed clock readings q x w.owes).eight eight));
            put = λ buffer exit answer call h. put_in_front (element_called readings buffer exit answer call) given h;
          }

      -- and with no others
      pub only_possible : (os : List ℕ) → measurement_reply own ap' clock index readings f ≡ Ok os → Possible clock readings q
      only_possible os e = by (measurement_parts own ap' f os clock index readings e)
        where
          by : MeasurementParts own ap' f os clock index readings ⊎ ReturnParts own ap' f os → Possible clock readings q
          by (inl p) =
              let asked : asks (requests p.token p.elements) ≡ asks (requests token rs) = accepted_once (sym p.due ∙ due) in
              let list : p.elements ≡ rs = cc in
              let same : p.request ≡ q = cc in
              subst (Possible clock readings) same ((owed clock readings p.request p.report p.owed).possible p.may)
          by (inr p) = absurd (let k : breaks p.body ≡ asks (requests token rs) = accepted_once (sym p.due ∙ due) in let z : ◌≡◌ {A = ℕ} 0 1 = cc in omega arith)

    -- so each element but Enable has a reply, whatever was found: a station may always refuse
    pub each_element_answered : (token : ℕ) (rs : List Request) (q : Request) → due_means own ap' f ≡ Ok (asks (requests token rs)) → nth index rs ≡ Ok q
        → (IsEnable q.matter → ⊥) → Answered (measurement_reply own ap' clock index refusing f) (MeasurementCall own ap' f clock index refusing)
    each_element_answered token rs q due at measures = element_answered refusing token rs q due at refl (refusing_possible clock q measures)
