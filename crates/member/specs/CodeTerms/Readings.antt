-- What was read of a frame, as the code tells it.
use Rattle.std.specs.Prelude.{Bool, true, false, Ok, Err, Some, None, Option, is_some}
use Rattle.frame.specs.declared.Frame.{Frame}
use Rattle.frame.specs.declared.Received.{Received}
use Rattle.element.specs.declared.ibss_dfs.IbssDfs.{IbssDfs}
use Rattle.owner.specs.Owners.{named}
use Rattle.owner.specs.declared.Owner.{Owner}
use Rattle.answer.specs.Faults.{Placed}

-- whether it has an announcement, in a beacon, in a probe response or in an action frame of its own
abbrev announces_in : Frame → Bool
announces_in (Frame.Beacon n) = is_some n.switch
announces_in (Frame.ProbeResponse n) = is_some n.switch
announces_in (Frame.MeasurementRequest token count) = false
announces_in (Frame.MeasurementReport token count) = false
announces_in (Frame.TpcRequest token) = false
announces_in (Frame.TpcReport token t) = false
announces_in (Frame.ChannelSwitch w) = true

abbrev pub announces : Placed Received → Bool
announces (Err x) = false
announces (Ok v) = announces_in v.frame

abbrev is_beacon_frame : Frame → Bool
is_beacon_frame (Frame.Beacon n) = true
is_beacon_frame (Frame.ProbeResponse n) = false
is_beacon_frame (Frame.MeasurementRequest token count) = false
is_beacon_frame (Frame.MeasurementReport token count) = false
is_beacon_frame (Frame.TpcRequest token) = false
is_beacon_frame (Frame.TpcReport token t) = false
is_beacon_frame (Frame.ChannelSwitch w) = false

abbrev pub is_beacon : Placed Received → Bool
is_beacon (Err x) = false
is_beacon (Ok v) = is_beacon_frame v.frame

-- the owner that it names, if any, or the one before
abbrev pub owner_named : Option Owner → Option IbssDfs → Option Owner
owner_named o None = o
owner_named o (Some d) = Some (named o d.owner d.recovery)
