-- What an accepted frame may say (01, "Octets", "Numbers that hold"), as far as a station goes by it. `b` is the beacon interval.
use Rattle.std.specs.Prelude.{false, List, ◌≡◌, ℕ, take, Ok, Err}
use Rattle.beacon.specs.Allowed.{Allowed}
use Rattle.beacon.specs.Beacons.{tells}
use Rattle.element.specs.ChannelSwitch.{switch_forbids}
use Rattle.element.specs.declared.quiet.Quiet.{Quiet}
use Rattle.frame.specs.Frames.{Kind}
use Rattle.frame.specs.Laid.{frame_of, quiets_of}
use Rattle.frame.specs.declared.Frame.{Frame}
use Rattle.frame.specs.declared.Received.{Received}
use Rattle.answer.specs.Faults.{Placed}

-- a frame, with the Quiet elements beside it
abbrev pub FrameAllowed : ℕ → Frame → List Quiet → Type 0
FrameAllowed b (Frame.Beacon n) qs = Allowed b (tells n qs)
FrameAllowed b (Frame.ProbeResponse n) qs = Allowed b (tells n qs)
FrameAllowed b (Frame.MeasurementRequest token count) qs = Unit {0}
FrameAllowed b (Frame.MeasurementReport token count) qs = Unit {0}
FrameAllowed b (Frame.TpcRequest token) qs = Unit {0}
FrameAllowed b (Frame.TpcReport token t) qs = Unit {0}
FrameAllowed b (Frame.ChannelSwitch w) qs = switch_forbids w ≡ false

abbrev pub KindAllowed : ℕ → Kind → Type 0
KindAllowed b k = FrameAllowed b (frame_of k) (quiets_of k)

-- what a reader hands out
abbrev pub ReceivedAllowed : ℕ → Placed Received → Type 0
ReceivedAllowed b (Err x) = Unit {0}
ReceivedAllowed b (Ok v) = FrameAllowed b v.frame (take v.count v.quiets)
