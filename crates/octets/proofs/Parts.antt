-- Parts of lists of octets. Assumes nothing.
use mathlib.Core.List.{List}
use mathlib.Core.Path.{◌≡◌, ap, ◌∙◌}
use Prim.Native.Nat.{ℕ, ◌+◌, ◌≤◌}
use lib.ListN.{length, take, drop}
use lib.Seq.{length-take-le, take-add, drop_at}

-- what stands after the first n octets is cut the same
pub after_cut : (n k : ℕ) (os : List ℕ) → n ≤ length os → drop n (take (n + k) os) ≡ take k (drop n os)
after_cut n k os h = ap (drop n) (take-add n k os) ∙ drop_at (take n os) (take k (drop n os)) n (length-take-le n os h)
