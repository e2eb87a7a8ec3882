-- A fault of a body lies in it.
use Rattle.frame.proofs.Within.{located_within}
use Rattle.frame.proofs.places.action_body.Goals as goal

pub in_frame-requires : goal.in_frame-requires
in_frame-requires c = let a = c.args in located_within a.body.now c.requires a.index c.read_at.ensures
