-- What the calls make of an owner fits. Assumes nothing.
use mathlib.Core.Bool.{Bool, true, false}
use mathlib.Core.List.{List}
use mathlib.Core.Path.{refl}
use Prim.Native.Nat.{ℕ, ◌≤◌}
use Rattle.std.specs.Prelude.{Option, Some, None}
use Rattle.answer.specs.Checks.{pick}
use Rattle.header.specs.Headers.{same}
use Rattle.owner.specs.Owners.{new_owner, named, heard_from, OwnerFits, KeptFits}
use Rattle.owner.specs.declared.Owner.{Owner}

pub named_fits : (o : Option Owner) (a : List ℕ) (n : ℕ) → KeptFits o → 1 ≤ n → OwnerFits (named o a n)
named_fits None a n fits h = record { interval = h; fresh = λ e. refl }
named_fits (Some o) a n fits h = by (same a o.address)
  where
    by : (again : Bool)
        → OwnerFits (pick again (record { address = o.address; recovery = n; misses = o.misses; heard = o.heard }) (new_owner a n))
    by true = record { interval = h; fresh = fits.fresh }
    by false = record { interval = h; fresh = λ e. refl }

pub heard_fits : (o : Option Owner) (a : List ℕ) → KeptFits o → KeptFits (heard_from o a)
heard_fits None a fits = tt
heard_fits (Some o) a fits = by (same a o.address)
  where
    by : (from_owner : Bool)
        → OwnerFits (pick from_owner (record { address = o.address; recovery = o.recovery; misses = 0; heard = true }) o)
    by true = record { interval = fits.interval; fresh = λ e. refl }
    by false = fits
