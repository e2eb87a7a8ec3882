-- A body that was read, and where its measurement element at an index lies.
use Rattle.std.specs.Prelude.{List, ℕ, ◌-◌, ◌≤◌, length, take, drop, Ok, Err, Some, None, Option}
use Rattle.answer.specs.Checks.{Outcome, and_then}
use Rattle.answer.specs.Faults.{Placed, nowhere, placed_past}
use Rattle.answer.specs.declared.Refusal.{Refusal}
use Rattle.header.specs.Headers.{header_length, body_of, header_means}
use Rattle.header.specs.declared.address.Cell.{Cell}
use Rattle.measurement_body.specs.Surveys.{place_in}
use Rattle.measurement_body.specs.declared.kinds.Kind as Measurements
use Rattle.walk.specs.declared.Contents.{Contents}
use Rattle.frame.specs.Actions.{Body, requests, reports, tpc_request, tpc_report, switch}
use Rattle.frame.specs.Frames.{Kind, beacon, probe_response, action, kind_of, request_in}
use Rattle.frame.specs.Laid.{action_frame}
use Rattle.frame.specs.declared.Frame.{Frame}
use Rattle.frame.specs.declared.bodies.Located.{Located}
use Rattle.frame.specs.declared.index.Asked.{Asked}

-- ---- what is found

abbrev pub unplaced : Frame → Located
unplaced frame = record { frame = frame; request = None; report = None }

abbrev pub placed : Measurements.Kind → ℕ → ℕ → Option Contents → Located
placed Measurements.Kind.Requests token count p = record { frame = Frame.MeasurementRequest token count; request = p; report = None }
placed Measurements.Kind.Reports token count p = record { frame = Frame.MeasurementReport token count; request = None; report = p }

-- of an action body
abbrev pub body_located : ℕ → List ℕ → Body → Located
body_located i body (requests token rs) = placed Measurements.Kind.Requests token (length rs) (place_in i body)
body_located i body (reports token rs) = placed Measurements.Kind.Reports token (length rs) (place_in i body)
body_located i body (tpc_request token) = unplaced (Frame.TpcRequest token)
body_located i body (tpc_report token t) = unplaced (Frame.TpcReport token t)
body_located i body (switch s) = unplaced (Frame.ChannelSwitch s)

abbrev pub located : ℕ → List ℕ → Placed Body → Placed Located
located i body o = and_then o (λ b. Ok (body_located i body b))

-- of a body of any subtype
abbrev pub kind_located : ℕ → List ℕ → Kind → Located
kind_located i body (beacon t) = unplaced (Frame.Beacon t.notice)
kind_located i body (probe_response t) = unplaced (Frame.ProbeResponse t.notice)
kind_located i body (action b) = body_located i body b

abbrev pub located_in : ℕ → List ℕ → Placed Kind → Placed Located
located_in i body o = and_then o (λ k. Ok (kind_located i body k))

-- of a frame
unfoldable pub kind_means : List ℕ → List ℕ → ℕ → List ℕ → Placed Kind
kind_means own ap b f = and_then (nowhere (header_means Cell.Ap own ap f)) (λ h. placed_past header_length (kind_of b h.subtype (body_of f)))

-- ---- the place of a fault, in the body and in the frame

abbrev pub OffsetWithin : ℕ → Option ℕ → Type 0
OffsetWithin size None = Unit {0}
OffsetWithin size (Some n) = n ≤ size

-- ---- what is read there

abbrev pub PlaceWithin : List ℕ → Option Contents → Type 0
PlaceWithin body None = Unit {0}
PlaceWithin body (Some p) = (p.start ≤ p.end) × (p.end ≤ length body)

-- what the contents at a place mean; 16 where there are none
abbrev pub means_at : {A : Type 0} → (List ℕ → Outcome A) → List ℕ → Option Contents → Outcome A
means_at means body None = Err Refusal.Impossible
means_at means body (Some p) = means (take (p.end - p.start) (drop p.start body))

-- an action body as a frame, and its request at an index
abbrev pub asked_of : ℕ → Placed Body → Placed Asked
asked_of i o = and_then o (λ b. Ok (record { frame = action_frame b; request = request_in i b }))
