-- A frame as the code hands it out: counts in place of lists, Quiet elements in slots beside it.
use Rattle.std.specs.Prelude.{Bool, true, false, List, [], length, Ok}
use Rattle.answer.specs.Checks.{and_then}
use Rattle.answer.specs.Faults.{Placed}
use Rattle.beacon.specs.Laid.{slots}
use Rattle.element.specs.declared.quiet.Quiet.{Quiet}
use Rattle.header.specs.declared.management.Subtype.{Subtype}
use Rattle.frame.specs.Actions.{Body, requests, reports, tpc_request, tpc_report, switch}
use Rattle.frame.specs.Frames.{Kind, beacon, probe_response, action, Sent}
use Rattle.frame.specs.declared.Frame.{Frame}
use Rattle.frame.specs.declared.Received.{Received}

-- the action frame of a body
abbrev pub action_frame : Body → Frame
action_frame (requests token rs) = Frame.MeasurementRequest token (length rs)
action_frame (reports token rs) = Frame.MeasurementReport token (length rs)
action_frame (tpc_request token) = Frame.TpcRequest token
action_frame (tpc_report token t) = Frame.TpcReport token t
action_frame (switch s) = Frame.ChannelSwitch s

-- a body's frame, or its refusal
abbrev pub body_frame : Placed Body → Placed Frame
body_frame o = and_then o (λ body. Ok (action_frame body))

-- a frame, whether it was sent to all ones, and its Quiet elements in slots
abbrev pub received : Frame → Bool → List Quiet → Received
received frame to_all qs = record { frame = frame; broadcast = to_all; quiets = slots qs; count = length qs }

-- the frame of each kind, and the Quiet elements beside it
abbrev pub frame_of : Kind → Frame
frame_of (beacon t) = Frame.Beacon t.notice
frame_of (probe_response t) = Frame.ProbeResponse t.notice
frame_of (action body) = action_frame body

abbrev pub quiets_of : Kind → List Quiet
quiets_of (beacon t) = t.quiets
quiets_of (probe_response t) = t.quiets
quiets_of (action body) = []

abbrev pub frame_laid : Placed Sent → Placed Received
frame_laid o = and_then o (λ s. Ok (received (frame_of s.kind) s.to_all (quiets_of s.kind)))

-- ---- the code's own terms, which no public promise cites

abbrev pub notice_subtype : Bool → Subtype
notice_subtype true = Subtype.ProbeResponse
notice_subtype false = Subtype.Beacon
