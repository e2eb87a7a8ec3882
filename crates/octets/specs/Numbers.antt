-- Octets in a list, and numbers of any width with the least significant octet first (01, the octet order of the base
-- standard).
use Rattle.std.specs.Prelude.{Bool, List, [], ◌∷◌, ℕ, zero, suc, ◌+◌, ◌*◌, ◌/◌, ◌%◌, ◌<◌, ◌^◌, eqb, get_or}

-- a list of octets
abbrev pub Octets : List ℕ → Type 0
Octets os = (i : ℕ) → get_or os i 0 < 256

-- the number that a run of octets holds
abbrev pub join : List ℕ → ℕ
join [] = 0
join (o ∷ os) = o + 256 * join os

-- the k octets that hold a number
abbrev pub split : ℕ → ℕ → List ℕ
split zero x = []
split (suc k) x = x % 256 ∷ split k (x / 256)

-- the octet at a place; one past the end counts as 0
abbrev pub octet : ℕ → List ℕ → ℕ
octet i os = get_or os i 0

-- k octets from a place on
abbrev pub octets_from : ℕ → ℕ → List ℕ → List ℕ
octets_from zero i os = []
octets_from (suc k) i os = octet i os ∷ octets_from k (i + 1) os

-- the number of k octets from a place on
abbrev pub number : ℕ → ℕ → List ℕ → ℕ
number k i os = join (octets_from k i os)

-- a bit of an octet
abbrev pub bit : ℕ → ℕ → Bool
bit i o = eqb (o / 2 ^ i % 2) 1
