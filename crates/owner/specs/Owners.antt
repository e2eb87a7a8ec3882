-- The DFS owner as a member of an IBSS follows it (02, Five): "At each TBTT with no accepted beacon from the owner since the one before, a miss count rises;
-- there, at or past the recovery interval, the owner is unknown until a beacon names one. A beacon from the owner, or naming another, sets the count to 0; while the
-- owner is unknown it is 0."
use Rattle.std.specs.Prelude.{Bool, true, false, List, ◌≡◌, ℕ, zero, suc, ◌+◌, ◌≤◌, Option, Some, None, leb}
use Rattle.answer.specs.Checks.{pick}
use Rattle.header.specs.Headers.{same}
use Rattle.owner.specs.declared.Owner.{Owner}

-- at start, and where an owner is given up
abbrev pub unknown : Option Owner
unknown = None

-- this address is the owner's
abbrev pub is_owner : Option Owner → List ℕ → Bool
is_owner None a = false
is_owner (Some o) a = same a o.address

-- ---- a beacon

-- an owner that has missed nothing, and has not been heard
abbrev pub new_owner : List ℕ → ℕ → Owner
new_owner a recovery = record { address = a; recovery = recovery; misses = 0; heard = false }

-- element 41 names an owner and an interval: another owner than before is a new one
abbrev pub named : Option Owner → List ℕ → ℕ → Owner
named None a recovery = new_owner a recovery
named (Some o) a recovery =
    pick (same a o.address) (record { address = o.address; recovery = recovery; misses = o.misses; heard = o.heard }) (new_owner a recovery)

-- a beacon from an address
abbrev pub heard_from : Option Owner → List ℕ → Option Owner
heard_from None a = None
heard_from (Some o) a =
    Some (pick (same a o.address) (record { address = o.address; recovery = o.recovery; misses = 0; heard = true }) o)

-- ---- a TBTT

-- an owner that has missed so many beacons, and was not heard since the latest TBTT
abbrev pub missing : Owner → ℕ → Owner
missing o n = record { address = o.address; recovery = o.recovery; misses = n; heard = false }

-- one miss more: there, at or past the recovery interval, the owner is unknown
abbrev pub missed : Owner → Option Owner
missed o = pick (leb o.recovery (o.misses + 1)) unknown (Some (missing o (o.misses + 1)))

abbrev pub at_tbtt : Option Owner → Option Owner
at_tbtt None = None
at_tbtt (Some o) = pick o.heard (Some (missing o o.misses)) (missed o)

-- so many of them, one after the other
unfoldable pub past_tbtts : ℕ → Option Owner → Option Owner
past_tbtts zero o = o
past_tbtts (suc n) o = past_tbtts n (at_tbtt o)

-- ---- what the calls make of an owner

pub record OwnerFits (o : Owner) : Type 0 where
  pub interval : 1 ≤ o.recovery
  pub fresh : o.heard ≡ true → o.misses ≡ 0

-- and of what is kept of one
abbrev pub KeptFits : Option Owner → Type 0
KeptFits None = Unit {0}
KeptFits (Some o) = OwnerFits o
