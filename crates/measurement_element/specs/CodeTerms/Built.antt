-- What `to_octets` builds: the element's octets in front, and after those of a shorter element octets that are not written.
use Rattle.std.specs.Prelude.{List, [], ◌∷◌, ◌++◌, ℕ}
use Rattle.octets.specs.Numbers.{octet, octets_from}
use Rattle.measurement_element.specs.MeasurementReport.{report_mode, report_size}
use Rattle.measurement_element.specs.MeasurementRequest.{request_mode, request_size}
use Rattle.measurement_element.specs.Span.{no_span, span_octets}
use Rattle.measurement_element.specs.declared.found.Found.{Found}
use Rattle.measurement_element.specs.declared.measurement_report.Matter as Reported
use Rattle.measurement_element.specs.declared.measurement_report.Report.{Report}
use Rattle.measurement_element.specs.declared.measurement_request.Matter as Asked
use Rattle.measurement_element.specs.declared.measurement_request.Request.{Request}
use Rattle.measurement_element.specs.declared.span.Span.{Span}

-- ---- a request: after an Enable element are zeros

abbrev pub request_span : Asked.Matter → Span
request_span (Asked.Matter.Enable q p) = no_span
request_span (Asked.Matter.Measure s) = s
request_span Asked.Matter.Uninterpreted = no_span

abbrev pub request_built : Request → List ℕ
request_built r =
    (38 ∷ request_size r.matter ∷ r.token ∷ request_mode r.matter ∷ r.kind ∷ []) ++ span_octets (request_span r.matter)

-- ---- a report: after a shorter one stands what it does not hold

abbrev pub report_span : Reported.Matter → Span
report_span (Reported.Matter.NotMeasured r) = no_span
report_span (Reported.Matter.Measured s f) = s
report_span Reported.Matter.Uninterpreted = no_span

-- the octet after the span: the map, the busy fraction or the first density
abbrev pub found_octet : Found → ℕ → ℕ
found_octet (Found.Map m) d = m
found_octet (Found.Busy f) d = f
found_octet Found.Densities d = d

abbrev pub report_last : Reported.Matter → ℕ → ℕ
report_last (Reported.Matter.NotMeasured r) d = 0
report_last (Reported.Matter.Measured s f) d = found_octet f d
report_last Reported.Matter.Uninterpreted d = 0

abbrev pub report_built : Report → List ℕ
report_built r =
    (39 ∷ report_size r.matter ∷ r.token ∷ report_mode r.matter ∷ r.kind ∷ []) ++ span_octets (report_span r.matter)
    ++ (report_last r.matter (octet 0 r.densities) ∷ octets_from 7 1 r.densities)
