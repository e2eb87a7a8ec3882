-- What a frame means to a station (01, "Answer numbers", "Octets"): header (1 to 4), then the body from left to right; one of seven
-- kinds, or one refusal and its place, the octets of the frame before the one at fault (02, One). `own` is the station's address, `ap` its
-- AP's, `b` its beacon interval.
use Rattle.std.specs.Prelude.{Bool, List, ℕ, Ok, Err}
use Rattle.answer.specs.Checks.{Outcome, and_then}
use Rattle.answer.specs.Faults.{Placed, nowhere, without_place, placed_past}
use Rattle.answer.specs.declared.Refusal.{Refusal}
use Rattle.beacon.specs.Beacons.{Told, beacon_means}
use Rattle.measurement_element.specs.declared.measurement_report.Report.{Report}
use Rattle.measurement_element.specs.declared.measurement_request.Request.{Request}
use Rattle.header.specs.Headers.{header_length, body_of, header_means}
use Rattle.header.specs.declared.address.Cell.{Cell}
use Rattle.header.specs.declared.management.Subtype.{Subtype}
use Rattle.measurement_body.specs.Lists.{nth}
use Rattle.frame.specs.Actions.{Body, requests, reports, tpc_request, tpc_report, switch, action_means}

-- Beacon, Probe Response, and the five action bodies
pub data Kind : Type 0 where
  beacon : Told → Kind
  probe_response : Told → Kind
  action : Body → Kind

-- a frame, and whether it was sent to all ones
pub record Sent : Type 0 where
  pub to_all : Bool
  pub kind : Kind

abbrev pub kind_of : ℕ → Subtype → List ℕ → Placed Kind
kind_of b Subtype.Beacon body = and_then (beacon_means b body) (λ t. Ok (beacon t))
kind_of b Subtype.ProbeResponse body = and_then (beacon_means b body) (λ t. Ok (probe_response t))
kind_of b Subtype.Action body = and_then (action_means body) (λ a. Ok (action a))

abbrev pub sent : Bool → Placed Kind → Placed Sent
sent to_all o = and_then o (λ k. Ok (record { to_all = to_all; kind = k }))

-- what the body means, with the header before it
unfoldable pub frame_means : List ℕ → List ℕ → ℕ → List ℕ → Placed Sent
frame_means own ap b f =
    and_then (nowhere (header_means Cell.Ap own ap f))
    (λ h. sent h.to_all (placed_past header_length (kind_of b h.subtype (body_of f))))

-- ---- a measurement element by its index from 0; past the last, or on another kind: 16

abbrev pub request_in : ℕ → Body → Outcome Request
request_in i (requests token rs) = nth i rs
request_in i (reports token rs) = Err Refusal.Impossible
request_in i (tpc_request token) = Err Refusal.Impossible
request_in i (tpc_report token t) = Err Refusal.Impossible
request_in i (switch s) = Err Refusal.Impossible

abbrev pub report_in : ℕ → Body → Outcome Report
report_in i (requests token rs) = Err Refusal.Impossible
report_in i (reports token rs) = nth i rs
report_in i (tpc_request token) = Err Refusal.Impossible
report_in i (tpc_report token t) = Err Refusal.Impossible
report_in i (switch s) = Err Refusal.Impossible

module _ {A : Type 0} (element_in : ℕ → Body → Outcome A) where
  abbrev pub of_kind : ℕ → Kind → Outcome A
  of_kind i (beacon t) = Err Refusal.Impossible
  of_kind i (probe_response t) = Err Refusal.Impossible
  of_kind i (action body) = element_in i body

  -- a frame that is refused has no elements either, and keeps its refusal
  unfoldable pub element_of : ℕ → Placed Sent → Outcome A
  element_of i o = and_then (without_place o) (λ s. of_kind i s.kind)
