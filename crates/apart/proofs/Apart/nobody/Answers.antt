-- `Apart::nobody` meets its contract: with no schedule in use the columns are not looked at.
use Rattle.std.proofs.Common.{refl}
use Rattle.apart.specs.Apart.{whole_of}
use Rattle.apart.specs.Columns.{schedules_in}
use Rattle.apart.proofs.Apart.nobody.Goals as goal

pub returns : goal.returns
unfolding whole_of schedules_in
returns c = λ columns. rw (c.beside.ensures, c.nobody.ensures) refl
