-- The arguments of `advance` and `ask`: a borrow of a station and a number of TU, as values, as MIR holds them, and the station as the callee takes it.
-- Assumes nothing.
use mathlib.Core.List.{[], ◌∷◌, List}
use Prim.Native.Nat.{ℕ}
use mir.Syntax.{w32}
use mir.Val.{Val, vint, vptr}
use base.Fml.{GName}
use denote.Ref.{MutBor}
use denote.Struct.Laws as LL
use Rattle.station.specs.declared.Station.{Station}
use Rattle.station.specs.contracts.Station as T
use Rattle.station.proofs.Station.TheLaws as T'

abbrev pub spell : Station → List Val
spell = LL.vals T.the_type T'.the_laws

abbrev pub mach : Station → Val
mach = LL.val T.the_type T'.the_laws

abbrev pub given : ℕ → ℕ → GName → Station → ℕ → MutBor Station × (ℕ × Unit {0})
given b o γ h n = (record { ref_ptr = (b, o); ghost_name = γ; now = h }, (n, tt))

abbrev pub given_at : ℕ → ℕ → ℕ → List Val × (List Val × Unit {0})
given_at b o n = (vptr b o ∷ [], (vint w32 n ∷ [], tt))

-- what the callee is given: the station itself, by value
abbrev pub passed : Station → ℕ → Station × (ℕ × Unit {0})
passed h n = (h, (n, tt))

abbrev pub passed_at : Station → ℕ → List Val × (List Val × Unit {0})
passed_at h n = (mach h ∷ [], (vint w32 n ∷ [], tt))
