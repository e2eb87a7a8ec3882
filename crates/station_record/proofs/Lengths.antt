-- How many octets the parts of a record have. Assumes nothing.
use Rattle.std.specs.Prelude.{Some, None, Option}
use mathlib.Core.List.{List}
use mathlib.Core.Path.{◌≡◌, refl}
use Prim.Native.Nat.{ℕ}
use lib.ListN.{length, length-append}
use Rattle.station_record.specs.Records.{settings_octets, held_pending, state_octets}
use Rattle.element.specs.declared.power_constraint.PowerConstraint.{PowerConstraint}
use Rattle.pending.specs.declared.Switch.{Switch}

pub settings_length : (own ap : List ℕ) (interval clock channel : ℕ) → length own ≡ 6 → length ap ≡ 6 → length (settings_octets own ap interval clock channel) ≡ 20
settings_length own ap interval clock channel o a = simp (length-append, o, a)

pub pending_length : (p : Option Switch) → length (held_pending p) ≡ 11
pending_length None = refl
pending_length (Some x) = refl

pub state_length : (power : Option PowerConstraint) (pending : Option Switch) (until count : ℕ) → length (state_octets power pending until count) ≡ 22
state_length None None until count = refl
state_length None (Some x) until count = refl
state_length (Some p) None until count = refl
state_length (Some p) (Some x) until count = refl
