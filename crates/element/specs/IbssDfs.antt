-- Element 41, IBSS DFS (02, Five: "length 7 + 2n: owner address, recovery interval, then n pairs of channel and map, not judged"; 7.3.2.24).
use Rattle.std.specs.Prelude.{Bool, not, ◌&&◌, ◌||◌, List, [], ◌∷◌, ◌++◌, ◌≡◌, ℕ, ◌+◌, ◌*◌, ◌-◌, ◌/◌, ◌%◌, ltb, leb, eqb, length, drop, Ok, Err}
use Rattle.answer.specs.Checks.{Outcome, ◌⇒◌, judged}
use Rattle.answer.specs.declared.Refusal.{Refusal}
use Rattle.octets.specs.Elements.{element}
use Rattle.octets.specs.Numbers.{octet, octets_from, bit}
use Rattle.element.specs.declared.ibss_dfs.ChannelMap.{ChannelMap}
use Rattle.element.specs.declared.ibss_dfs.IbssDfs.{IbssDfs}

-- owner, recovery interval, and the octets of the pairs
pub record Dfs : Type 0 where
  pub owner : List ℕ
  pub recovery : ℕ
  pub pairs : List ℕ

-- how many pairs contents of so many octets have
abbrev pub pairs_in : ℕ → ℕ
pairs_in n = (n - 7) / 2

abbrev pub dfs_in : List ℕ → Dfs
dfs_in c = record { owner = octets_from 6 0 c; recovery = octet 6 c; pairs = drop 7 c }

-- 7 + 2n for some n from 0 on
abbrev pub dfs_length : ℕ → Bool
dfs_length n = leb 7 n && eqb ((n - 7) % 2) 0

-- "9 for interval 0 or an owner with its group bit set"
abbrev pub dfs_forbids : List ℕ → ℕ → Bool
dfs_forbids owner recovery = eqb recovery 0 || bit 0 (octet 0 owner)

unfoldable pub dfs_means : List ℕ → Outcome Dfs
dfs_means c =
    judged
    (not (dfs_length (length c)) ⇒ Refusal.WrongLength ∷ dfs_forbids (octets_from 6 0 c) (octet 6 c) ⇒ Refusal.ForbiddenValue ∷ [])
    (dfs_in c)

-- an element but for its pairs, of which it says how many there are
abbrev pub dfs_fields : Dfs → IbssDfs
dfs_fields d = record { owner = d.owner; recovery = d.recovery; pairs = length d.pairs / 2 }

-- what the reader answers
abbrev pub dfs_laid : Outcome Dfs → Outcome IbssDfs
dfs_laid (Err r) = Err r
dfs_laid (Ok d) = Ok (dfs_fields d)

-- the pair at an index: 16 where there is none
unfoldable pub pair_means : ℕ → List ℕ → Outcome ChannelMap
pair_means i c = judged (not (ltb i (pairs_in (length c))) ⇒ Refusal.Impossible ∷ []) (record { channel = octet (7 + 2 * i) c; map = octet (7 + 2 * i + 1) c })

-- ---- writing

abbrev pub dfs_of : List ℕ → ℕ → List ℕ → Dfs
dfs_of owner recovery pairs = record { owner = owner; recovery = recovery; pairs = pairs }

abbrev pub dfs_contents : Dfs → List ℕ
dfs_contents d = d.owner ++ (d.recovery ∷ d.pairs)

-- what the reader would refuse may not be written, and no more pairs than an element holds
abbrev pub dfs_may_of : List ℕ → ℕ → ℕ → Bool
dfs_may_of owner recovery n = not (dfs_forbids owner recovery) && (eqb (n % 2) 0 && leb n 248)

abbrev pub dfs_may : Dfs → Bool
dfs_may d = dfs_may_of d.owner d.recovery (length d.pairs)

unfoldable pub dfs_octets : Dfs → List ℕ
dfs_octets d = element 41 (dfs_contents d)

-- ---- what demand 2 asks for

-- the owner is an address
abbrev pub DfsFits : Dfs → Type 0
DfsFits d = length d.owner ≡ 6

-- no more pairs than an element holds, and no more contents
abbrev pub few_pairs : Dfs → Bool
few_pairs d = leb (length d.pairs) 248

abbrev pub in_element : List ℕ → Bool
in_element c = leb (length c) 255
