-- Densities that are all 0 are those that add up to 0. Assumes nothing.
use mathlib.Core.Bool.{Bool, ◌&&◌}
use mathlib.Core.List.{List, [], ◌∷◌}
use mathlib.Core.Path.{◌≡◌, refl, ap, subst, ◌∙◌}
use Prim.Native.Nat.{ℕ, ◌+◌}
use native.Mathlib.Omega.{arith}
use lib.Dec.{eqb}
use lib.ListN.{length, replicate}
use lib.Pointwise.{pointwise}
use Rattle.std.specs.Prelude.{nat_eq}
use Rattle.std.proofs.lemmas.Bool.Decides.{nat_tests}
use Rattle.octets.specs.Sums.{sum_of}

both_none : (x y : ℕ) → (eqb x 0 && eqb y 0) ≡ eqb (x + y) 0
both_none x y = grind (arith, nat_tests)

none : (ds : List ℕ) → pointwise nat_eq ds (replicate (length ds) 0) ≡ eqb (sum_of ds) 0
none [] = refl
none (d ∷ ds) = ap (λ (b : Bool). eqb d 0 && b) (none ds) ∙ both_none d (sum_of ds)

pub none_of_eight : (ds : List ℕ) → length ds ≡ 8 → pointwise nat_eq ds (replicate 8 0) ≡ eqb (sum_of ds) 0
none_of_eight ds eight = subst (λ (n : ℕ). pointwise nat_eq ds (replicate n 0) ≡ eqb (sum_of ds) 0) eight (none ds)
