-- How many octets what may be absent takes. Assumes nothing.
use Rattle.std.specs.Prelude.{Some, None, Option}
use mathlib.Core.Path.{◌≡◌, refl}
use lib.ListN.{length}
use Rattle.beacon.specs.Notices.{held_power}
use Rattle.element.specs.declared.power_constraint.PowerConstraint.{PowerConstraint}

pub power_length : (p : Option PowerConstraint) → length (held_power p) ≡ 2
power_length None = refl
power_length (Some p) = refl
