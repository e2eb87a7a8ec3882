-- An element of a frame as its fields, one after the other at fixed places (docs/BOUNDARY.md). What it has not got is 0.
use Rattle.std.specs.Prelude.{List, [], ◌∷◌, ◌++◌, ℕ}
use Rattle.answer.specs.Checks.{Outcome, and_then}
use Rattle.answer.specs.Faults.{Placed, without_place}
use Rattle.element.specs.declared.ibss_dfs.ChannelMap.{ChannelMap}
use Rattle.element.specs.declared.quiet.Quiet.{Quiet}
use Rattle.frame.specs.Frames.{Sent}
use Rattle.frame.specs.Laid.{quiets_of}
use Rattle.measurement_body.specs.Lists.{nth}
use Rattle.measurement_element.specs.Span.{no_span, span_octets}
use Rattle.measurement_element.specs.declared.found.Found.{Found}
use Rattle.measurement_element.specs.declared.measurement_report.Matter as Says
use Rattle.measurement_element.specs.declared.measurement_report.Reason.{Reason}
use Rattle.measurement_element.specs.declared.measurement_report.Report.{Report}
use Rattle.measurement_element.specs.declared.measurement_request.Matter as Asks
use Rattle.measurement_element.specs.declared.measurement_request.Request.{Request}
use Rattle.boundary.specs.FrameFields.{flag}
use Rattle.boundary.specs.declared.element_fields.Asked.{Asked}
use Rattle.boundary.specs.declared.element_fields.Said.{Said}

-- ---- a Quiet element by its index, as the measurement elements are: past the last, or on another kind, 16

abbrev pub quiet_of : ℕ → Placed Sent → Outcome Quiet
quiet_of i o = and_then (without_place o) (λ s. nth i (quiets_of s.kind))

-- ---- a pair of element 41: channel, map

abbrev pub pair_fields : ChannelMap → List ℕ
pair_fields p = p.channel ∷ p.map ∷ []

-- ---- a Measurement Request element: what is asked, by the numbers that a writer takes; the two bits of an Enable element

abbrev pub asked_by : Asks.Matter → Asked
asked_by (Asks.Matter.Enable request report) = record { asks = 0; request = flag request; report = flag report; span = no_span }
asked_by (Asks.Matter.Measure span) = record { asks = 1; request = 0; report = 0; span = span }
asked_by Asks.Matter.Uninterpreted = record { asks = 2; request = 0; report = 0; span = no_span }

-- token, type, what is asked, Request, Report; channel, start (8), duration (2)
unfoldable pub request_fields : Request → List ℕ
request_fields q =
    let a = asked_by q.matter in
    (q.token ∷ q.kind ∷ a.asks ∷ a.request ∷ a.report ∷ []) ++ span_octets a.span

-- ---- a Measurement Report element: what is said, by the numbers that a writer takes; the map or the busy fraction

abbrev pub reason_number : Reason → ℕ
reason_number Reason.Late = 0
reason_number Reason.Incapable = 1
reason_number Reason.Refused = 2

abbrev pub found_number : Found → ℕ
found_number (Found.Map m) = 3
found_number (Found.Busy f) = 4
found_number Found.Densities = 5

abbrev pub found_value : Found → ℕ
found_value (Found.Map m) = m
found_value (Found.Busy f) = f
found_value Found.Densities = 0

abbrev pub said_by : Says.Matter → Said
said_by (Says.Matter.NotMeasured r) = record { says = reason_number r; value = 0; span = no_span }
said_by (Says.Matter.Measured span f) = record { says = found_number f; value = found_value f; span = span }
said_by Says.Matter.Uninterpreted = record { says = 6; value = 0; span = no_span }

-- token, type, what is said, the map or the busy fraction; channel, start (8), duration (2); densities (8)
unfoldable pub report_fields : Report → List ℕ
report_fields q =
    let s = said_by q.matter in
    (q.token ∷ q.kind ∷ s.says ∷ s.value ∷ []) ++ span_octets s.span ++ q.densities
