-- The body of a beacon or a probe response that was heard, as the frame that it makes.
use Rattle.std.specs.Prelude.{Bool, true, false}
use Rattle.beacon.specs.declared.Heard.{Heard}
use Rattle.beacon.specs.declared.Notice.{Notice}
use Rattle.frame.specs.declared.Frame.{Frame}
use Rattle.frame.specs.declared.Received.{Received}

abbrev pub notice_as : Bool → Notice → Frame
notice_as true n = Frame.ProbeResponse n
notice_as false n = Frame.Beacon n

abbrev pub notice_frame : Bool → Bool → Heard → Received
notice_frame probe to_all v = record { frame = notice_as probe v.notice; broadcast = to_all; quiets = v.quiets; count = v.count }
