-- What holds of the leaves' numbers, at every width and every number of times. Assumes nothing.
use mathlib.Core.Path.{◌≡◌}
use mathlib.Core.List.{List, map}
use Prim.Native.Nat.{ℕ, ◌+◌, ◌-◌, ◌*◌, ◌<◌, ◌≤◌, ◌^◌}
use lib.IntN.{ℤ}
use lib.ListN.{length}
use mir.Syntax.{w8}
use mir.Val.{SFits}
use Rattle.octets.specs.Sums.{sum_of}
use Rattle.fraction.specs.Fractions.{ceiling, fraction_of}
use Rattle.fraction.proofs.Ceilings.{enough, least}
use Rattle.fraction.proofs.SumBound.{sum_bound}
use Rattle.octets.specs.Numbers.{Octets, join, split}
use Rattle.octets.specs.Signed.{signed_of, octet_of}
use Rattle.octets.proofs.JoinSplit.{join_split, split_join}
use Rattle.octets.proofs.TwosComplement.{octet_signed, signed_octet}

-- a number of k octets, into octets and back, and octets into a number and back
pub number_octets_number : (k x : ℕ) → x < 256 ^ k → join (split k x) ≡ x
number_octets_number = join_split

pub octets_number_octets : (os : List ℕ) → Octets os → split (length os) (join os) ≡ os
octets_number_octets = split_join

-- signed octets, for all 256 and for every signed number of eight bits
pub octet_signed_octet : (o : ℕ) → o < 256 → octet_of (signed_of o) ≡ o
octet_signed_octet = octet_signed

pub signed_octet_signed : (x : ℤ) → SFits w8 x → signed_of (octet_of x) ≡ x
signed_octet_signed = signed_octet

-- the ceiling is enough, and the least number that is
pub ceiling_enough : (n d : ℕ) → 0 < d → n ≤ ceiling n d * d
ceiling_enough n d h = enough n d h

pub ceiling_least : (n d k : ℕ) → 0 < d → n ≤ k * d → ceiling n d ≤ k
ceiling_least n d k h p = least n d h k p

-- the sum of the fractions of any number of times is at most 255 and one less than their number
pub fractions_sum : (duration : ℕ) (times : List ℕ) → 0 < duration → sum_of times ≤ 1024 * duration
    → sum_of (map (fraction_of duration) times) ≤ 255 + (length times - 1)
fractions_sum = sum_bound
