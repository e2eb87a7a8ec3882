-- Signed octets: that they fit their type, and that reading and writing undo each other. Assumes nothing.
use mathlib.Core.Path.{◌≡◌, refl, ap}
use mathlib.Core.Bool.{Bool, true, false}
use mathlib.Core.Logic.{⊎_elim, ◌⊎◌, inl, inr}
use Prim.Native.Nat.{ℕ, ◌-◌, ◌<◌, ◌≤◌}
use native.Mathlib.Omega.{arith}
use borrow.Author.Tests.{lt-ltb, le-ltb, ltb-true, ltb-false}
use lib.Dec.{ltb}
use lib.IntN.{ℤ, pos, negsuc}
use mir.Syntax.{w8}
use mir.Val.{SFits}
use Rattle.octets.specs.Signed.{signed_of, octet_of}

lt_or_ge : (a b : ℕ) → (a < b) ⊎ (b ≤ a)
lt_or_ge a b = go (ltb a b) refl
  where
    go : (t : Bool) → ltb a b ≡ t → (a < b) ⊎ (b ≤ a)
    go true e = inl (ltb-true a b e)
    go false e = inr (ltb-false a b e)

-- ---- an octet read

pub high_fits : (o : ℕ) → 128 ≤ o → o < 256 → SFits w8 (signed_of o)
high_fits o h k = simp (le-ltb o 128 h) (record { sfits = omega arith })

pub signed_fits : (o : ℕ) → o < 256 → SFits w8 (signed_of o)
signed_fits o h =
    ⊎_elim (λ l. simp (lt-ltb o 128 l) (record { sfits = l })) (λ g. high_fits o g h) (lt_or_ge o 128)

-- ---- each undoes the other, for every octet and every number of the type

pub octet_signed : (o : ℕ) → o < 256 → octet_of (signed_of o) ≡ o
octet_signed o h =
    ⊎_elim (λ l. simp (lt-ltb o 128 l)) (λ g. simp (le-ltb o 128 g) (omega arith)) (lt_or_ge o 128)

pub signed_octet : (x : ℤ) → SFits w8 x → signed_of (octet_of x) ≡ x
signed_octet (pos n) f = simp (lt-ltb n 128 f.sfits)
signed_octet (negsuc k) f =
    simp (le-ltb (255 - k) 128 (omega (arith, f.sfits))) (ap negsuc (omega (arith, f.sfits)))
