-- What a station hears of a frame (01, "The station"): its refusal, or what it may change of a station and its Quiet elements. A beacon or a
-- probe response replaces all schedules and may have a Power Constraint and an announcement, a Channel Switch frame is an announcement, and the
-- others change nothing.
use Rattle.std.specs.Prelude.{Bool, true, false, Ok, Err, Some, None, Option}
use Rattle.answer.specs.Checks.{and_then}
use Rattle.beacon.specs.declared.Notice.{Notice}
use Rattle.frame.specs.declared.Frame.{Frame}
use Rattle.frame.specs.declared.Received.{Received}
use Rattle.frame.specs.declared.hearing.Change.{Change}
use Rattle.frame.specs.declared.hearing.Hearing.{Hearing}
use Rattle.answer.specs.Faults.{Placed, Verdict, verdict_of}
use Rattle.element.specs.declared.power_constraint.PowerConstraint.{PowerConstraint}
use Rattle.element.specs.declared.channel_switch.ChannelSwitch.{ChannelSwitch}

abbrev changing : Bool → Option PowerConstraint → Option ChannelSwitch → Change
changing replaces p m = record { replaces = replaces; power = p; switch = m }

abbrev nothing : Change
nothing = changing false None None

abbrev pub by_notice : Notice → Change
by_notice n = changing true n.power n.switch

abbrev pub by_frame : Frame → Change
by_frame (Frame.Beacon n) = by_notice n
by_frame (Frame.ProbeResponse n) = by_notice n
by_frame (Frame.MeasurementRequest token count) = nothing
by_frame (Frame.MeasurementReport token count) = nothing
by_frame (Frame.TpcRequest token) = nothing
by_frame (Frame.TpcReport token t) = nothing
by_frame (Frame.ChannelSwitch w) = changing false None (Some w)

-- what was read: a refused frame changes nothing
abbrev pub by_reading : Placed Frame → Change
by_reading (Err x) = nothing
by_reading (Ok f) = by_frame f

-- the verdict on it
abbrev pub verdict_on : Placed Frame → Verdict
verdict_on o = verdict_of o

-- what was received, as it is heard
abbrev pub heard_of : Received → Hearing
heard_of v = record { change = by_frame v.frame; quiets = v.quiets; count = v.count }

abbrev pub hearing_of : Placed Received → Placed Hearing
hearing_of o = and_then o (λ v. Ok (heard_of v))
