-- `Station::heard` keeps the station valid: the frame changes it the one way of all frames. Assumes nothing.
use Rattle.station.proofs.Received.{still_valid}
use Rattle.station.proofs.Station.heard.Goals as goal

pub returns-in-Ok-clause-kept : goal.returns-in-Ok-clause-kept
returns-in-Ok-clause-kept c = still_valid c.args.self _ c.in-Ok.received _ c.requires c.in-Ok.is (rw c.by_frame-change.ensures at c.changed.ensures)
