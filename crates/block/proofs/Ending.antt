-- Where a block ends: past its place, in the file, and whole unless the file ends. Assumes nothing.
use mathlib.Core.Bool.{Bool, true, false}
use mathlib.Core.Path.{◌≡◌, refl}
use Prim.Native.Nat.{ℕ, ◌+◌, ◌<◌, ◌≤◌}
use native.Mathlib.Omega.{arith}
use borrow.Author.Tests.{leb-true}
use lib.Dec.{leb}
use Rattle.answer.specs.Checks.{pick}
use Rattle.block.specs.Blocks.{end_after}

module _ (at size : ℕ) (h : at < size) where
  pub end_inside : (at < end_after at size) × (end_after at size ≤ size)
  end_inside = by_size (leb (at + 512) size) refl
    where
      by_size : (whole : Bool) → leb (at + 512) size ≡ whole → (at < pick whole (at + 512) size) × (pick whole (at + 512) size ≤ size)
      by_size true e = let w = leb-true (at + 512) size e in (omega arith, omega (arith, w))
      by_size false e = (h, omega arith)

  pub end_whole : end_after at size < size → end_after at size ≡ at + 512
  end_whole = by_size (leb (at + 512) size)
    where
      by_size : (whole : Bool) → pick whole (at + 512) size < size → pick whole (at + 512) size ≡ at + 512
      by_size true k = refl
      by_size false k = absurd (omega (arith, k))
