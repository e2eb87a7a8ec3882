-- The report that is owed for one element of a Measurement Request (01, "Replies"): same token and type; type over 2 gives Incapable; else a
-- start that is not 0 and lies before the clock times 1,024 gives Late; else the caller's own Refused or readings.
use Rattle.std.specs.Prelude.{Bool, not, ◌&&◌, List, ℕ, ◌*◌, ltb, eqb, Ok, Err}
use Rattle.answer.specs.Checks.{Outcome, pick, and_then}
use Rattle.answer.specs.declared.Refusal.{Refusal}
use Rattle.measurement_element.specs.MeasurementReport.{no_densities}
use Rattle.measurement_element.specs.declared.found.Found.{Found}
use Rattle.measurement_element.specs.declared.measurement_report.Matter.{Matter}
use Rattle.measurement_element.specs.declared.measurement_report.Reason.{Reason}
use Rattle.measurement_element.specs.declared.measurement_report.Report.{Report}
use Rattle.measurement_element.specs.declared.measurement_request.Matter as Asked
use Rattle.measurement_element.specs.declared.measurement_request.Request.{Request}
use Rattle.measurement_element.specs.declared.span.Span.{Span}
use Rattle.fraction.specs.Fractions.{busy_of, densities_of}
use Rattle.measured_report.specs.declared.Finding.{Finding}
use Rattle.measured_report.specs.declared.Readings.{Readings}

-- a report with no densities beside it
abbrev pub plain : ℕ → ℕ → Matter → Report
plain token kind m = record { token = token; kind = kind; matter = m; densities = no_densities }

-- ---- the readings, as the type asks: a map, busy µs, or eight times; another kind is 16

abbrev pub map_report : ℕ → ℕ → Span → ℕ → Outcome Report
map_report token kind s m = pick (eqb kind 0) (Ok (plain token kind (Matter.Measured s (Found.Map m)))) (Err Refusal.Impossible)

abbrev pub busy_report : ℕ → ℕ → Span → ℕ → Outcome Report
busy_report token kind s time =
    pick (eqb kind 1) (and_then (busy_of s.duration time) (λ f. Ok (plain token kind (Matter.Measured s (Found.Busy f))))) (Err Refusal.Impossible)

abbrev pub rpi_report : ℕ → ℕ → Span → List ℕ → Outcome Report
rpi_report token kind s times =
    pick (eqb kind 2)
    (and_then (densities_of s.duration times) (λ ds. Ok (record { token = token; kind = kind; matter = Matter.Measured s Found.Densities; densities = ds })))
    (Err Refusal.Impossible)

abbrev pub found : ℕ → ℕ → Span → Finding → List ℕ → Outcome Report
found token kind s Finding.Refused times = Ok (plain token kind (Matter.NotMeasured Reason.Refused))
found token kind s (Finding.Map m) times = map_report token kind s m
found token kind s (Finding.Busy time) times = busy_report token kind s time
found token kind s Finding.Times times = rpi_report token kind s times

abbrev pub found_report : ℕ → ℕ → Span → Readings → Outcome Report
found_report token kind s readings = found token kind s readings.finding readings.times

-- ---- when

abbrev pub is_late : ℕ → Span → Bool
is_late clock s = not (eqb s.start 0) && ltb s.start (clock * 1024)

-- the request's channel, duration and start, which is the clock times 1,024 where it is 0
abbrev pub begun : ℕ → Span → Span
begun clock s =
    record { channel = s.channel; start = pick (eqb s.start 0) (clock * 1024) s.start; duration = s.duration }

abbrev pub measured_report : ℕ → ℕ → Span → ℕ → Readings → Outcome Report
measured_report token kind s clock readings =
    pick (is_late clock s) (Ok (plain token kind (Matter.NotMeasured Reason.Late))) (found_report token kind (begun clock s) readings)

-- ---- what was asked: an Enable element gets none

abbrev pub by_matter : Asked.Matter → ℕ → ℕ → ℕ → Readings → Outcome Report
by_matter (Asked.Matter.Enable q p) token kind clock readings = Err Refusal.NoReplyDue
by_matter (Asked.Matter.Measure s) token kind clock readings = measured_report token kind s clock readings
by_matter Asked.Matter.Uninterpreted token kind clock readings = Ok (plain token kind (Matter.NotMeasured Reason.Incapable))

abbrev pub report_for : ℕ → Readings → Request → Outcome Report
report_for clock readings q = by_matter q.matter q.token q.kind clock readings
