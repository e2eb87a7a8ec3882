-- `Apart::whole` meets its contract: every field is in its place.
use Rattle.std.proofs.Common.{refl}
use Rattle.apart.specs.Apart.{whole_of}
use Rattle.apart.proofs.Apart.whole.Goals as goal

pub returns : goal.returns
unfolding whole_of
returns c = rw c.gather-schedules.ensures refl
