-- Slots of which the first are in use: one more goes into the first free one. Assumes nothing.
use mathlib.Core.Path.{◌≡◌, sym}
use mathlib.Core.List.{List, [], ◌∷◌, ◌++◌, append_assoc}
use Prim.Native.Nat.{ℕ, suc, ◌+◌, ◌-◌, ◌<◌}
use native.Mathlib.Numerals.{add-one}
use native.Mathlib.Omega.{arith}
use lib.ListN.{length, replicate, set, length-append}
use lib.Seq.{set-append_seam}

module _ {A : Type 0} (xs : List A) (x : A) where
  pub one_more : length (xs ++ (x ∷ [])) ≡ length xs + 1
  one_more = simp length-append

  pub next_slot : (n : ℕ) (z : A) → length xs < n
      → set (xs ++ replicate (n - length xs) z) (length xs) x ≡ (xs ++ (x ∷ [])) ++ replicate (n - length (xs ++ (x ∷ []))) z
  next_slot n z h =
      let free : n - length xs ≡ suc (n - (length xs + 1)) = omega (arith, sym (add-one (n - (length xs + 1)))) in
      rw (free, one_more, append_assoc) (set-append_seam xs z (replicate (n - (length xs + 1)) z) x)
