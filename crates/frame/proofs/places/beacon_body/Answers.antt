-- A fault of a body lies in it.
use Rattle.frame.proofs.Within.{heard_within}
use Rattle.frame.proofs.places.beacon_body.Goals as goal

pub in_frame-requires : goal.in_frame-requires
in_frame-requires c = let a = c.args in heard_within a.body.now c.requires a.ibss a.interval a.index c.read.ensures
