-- What a test that was passed says. Assumes nothing.
use mathlib.Core.Path.{◌≡◌, sym, ◌∙◌}
use mathlib.Core.Bool.{Bool, true, false, not}
use Prim.Native.Nat.{ℕ, zero, suc, ◌*◌, ◌<◌, ◌≤◌}
use native.Mathlib.Omega.{arith}
use borrow.Author.Tests.{leb-true, not-false}
use lib.Dec.{eqb-suc-zero}
use Rattle.fraction.specs.Fractions.{possible}

bounds : (duration sum : ℕ) → possible duration sum ≡ true → (0 < duration) × (sum ≤ 1024 * duration)
unfolding possible
bounds zero sum e = absurd (let z : ◌≡◌ {A = ℕ} 0 1 = cc in omega arith)
bounds (suc d) sum e = (omega arith, leb-true sum (1024 * suc d) (rw eqb-suc-zero at e))

-- where `is_possible` gave t, and `!t` is false
pub within : (duration sum : ℕ) (t : Bool) → t ≡ possible duration sum → not t ≡ false
    → (0 < duration) × (sum ≤ 1024 * duration)
within duration sum t e p = bounds duration sum (sym e ∙ not-false t p)
