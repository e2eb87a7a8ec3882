-- A reply, read from the other side (01, "Replies": "TPC Report with the same token"; of a Measurement Request: "one frame for one element, same tokens and type"; "with the
-- request's channel, duration and start (the clock times 1,024 where that start is 0)").
use Rattle.std.specs.Prelude.{false, List, [], ◌∷◌, ◌≡◌, ℕ, ◌*◌, eqb, Ok}
use Rattle.answer.specs.Checks.{pick}
use Rattle.element.specs.declared.tpc_report.TpcReport.{TpcReport}
use Rattle.frame.specs.Actions.{requests, reports, tpc_request, tpc_report}
use Rattle.frame.specs.Frames.{action, frame_means}
use Rattle.measured_report.specs.Reports.{report_for}
use Rattle.measured_report.specs.declared.Readings.{Readings}
use Rattle.measurement_body.specs.Lists.{nth}
use Rattle.measurement_element.specs.declared.found.Found.{Found}
use Rattle.measurement_element.specs.declared.measurement_report.Matter as Says
use Rattle.measurement_element.specs.declared.measurement_report.Report.{Report}
use Rattle.measurement_element.specs.declared.measurement_request.Matter as Asks
use Rattle.measurement_element.specs.declared.measurement_request.Request.{Request}
use Rattle.measurement_element.specs.declared.span.Span.{Span}
use Rattle.reply.specs.Due.{asks, due_means}
use Rattle.claims.specs.Exchanged.{exchanged}
use Rattle.claims.specs.PossibleReadings.{AsAsked}

-- what was measured is what the caller has found, with the request's channel, duration and start (the clock times 1,024 where that start is 0)
pub record CarriesReadings (clock : ℕ) (readings : Readings) (request : Request) (span : Span) (found : Found) (densities : List ℕ) : Type 0 where
  pub asked : Span
  pub asks : request.matter ≡ Asks.Matter.Measure asked
  pub same_channel : span.channel ≡ asked.channel
  pub same_duration : span.duration ≡ asked.duration
  pub start : span.start ≡ pick (eqb asked.start 0) (clock * 1024) asked.start
  pub finds : AsAsked asked.duration readings.times request.kind readings.finding found densities

-- the octets of a reply to a TPC Request: heard from the AP, whatever the beacon interval, they are the report with the request's token
pub record TpcReadsBack (own ap f : List ℕ) (report : TpcReport) (os : List ℕ) : Type 0 where
  pub token : ℕ
  pub due : due_means own ap f ≡ Ok (asks (tpc_request token))
  pub read : (b : ℕ) → frame_means own ap b (exchanged os) ≡ Ok (record { to_all = false; kind = action (tpc_report token report) })

-- the octets of a reply to the element at an index of the frame `f`
pub record ReadsBack (own ap f : List ℕ) (clock index : ℕ) (readings : Readings) (os : List ℕ) : Type 0 where
  -- the element that it answers
  pub token : ℕ
  pub elements : List Request
  pub request : Request
  pub due : due_means own ap f ≡ Ok (asks (requests token elements))
  pub asked : nth index elements ≡ Ok request
  -- heard from the AP, whatever the beacon interval, they are a frame of one report, with the request's tokens and type
  pub report : Report
  pub read : (b : ℕ) → frame_means own ap b (exchanged os) ≡ Ok (record { to_all = false; kind = action (reports token (report ∷ [])) })
  pub same_token : report.token ≡ request.token
  pub same_type : report.kind ≡ request.kind
  -- Incapable, Late, Refused or readings, by 01's rule; where it is measured it carries the caller's readings
  pub owed : report_for clock readings request ≡ Ok report
  pub carries : (span : Span) (found : Found) → report.matter ≡ Says.Matter.Measured span found
      → CarriesReadings clock readings request span found report.densities
