-- Announcements (01, "The station"): in a beacon, in a probe response, or in an action frame of its own.
use Rattle.std.specs.Prelude.{Some, None, Option}
use Rattle.frame.specs.Actions.{requests, reports, tpc_request, tpc_report, switch}
use Rattle.frame.specs.Frames.{Kind, beacon, probe_response, action}
use Rattle.element.specs.declared.channel_switch.ChannelSwitch.{ChannelSwitch}

abbrev pub announcement_in : Kind → Option ChannelSwitch
announcement_in (beacon t) = t.notice.switch
announcement_in (probe_response t) = t.notice.switch
announcement_in (action (requests token rs)) = None
announcement_in (action (reports token rs)) = None
announcement_in (action (tpc_request token)) = None
announcement_in (action (tpc_report token t)) = None
announcement_in (action (switch w)) = Some w
