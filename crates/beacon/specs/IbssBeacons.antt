-- Beacon bodies as a station of an IBSS reads them (02, Five): as in 01, and element 41 beside it. "Refusals: 9 for interval 0 or an owner with its group bit
-- set; 10 for a second 41".
use Rattle.std.specs.Prelude.{Bool, true, false, not, List, [], ◌∷◌, ◌⊎◌, ◌≡◌, ℕ, ◌+◌, ◌*◌, ◌/◌, ltb, eqb, length, Ok, Err, Option, Some, None, is_some}
use Rattle.answer.specs.Checks.{Outcome, pick, ◌⇒◌, judged, and_then}
use Rattle.answer.specs.Faults.{Placed}
use Rattle.answer.specs.declared.Refusal.{Refusal}
use Rattle.element.specs.IbssDfs.{Dfs, dfs_means}
use Rattle.element.specs.declared.ibss_dfs.ChannelMap.{ChannelMap}
use Rattle.octets.specs.Numbers.{octet}
use Rattle.walk.specs.Elements.{Elements, end, cut_header, cut_contents, more}
use Rattle.beacon.specs.Beacons.{Told, takes, opening, body_means, beacon_means}

-- what a beacon of an IBSS says: what 01 reads of it, and its element 41 if it has one
pub record ToldInIbss : Type 0 where
  pub told : Told
  pub dfs : Option Dfs

abbrev pub tells_in_ibss : Told → Option Dfs → ToldInIbss
tells_in_ibss t d = record { told = t; dfs = d }

-- ---- one element more

-- element 41: length (8), value (9), a second one (10)
abbrev pub takes_dfs : List ℕ → ToldInIbss → Outcome ToldInIbss
takes_dfs c t = and_then (dfs_means c) (λ d. judged (is_some t.dfs ⇒ Refusal.Repeated ∷ []) (tells_in_ibss t.told (Some d)))

-- one as in 01
abbrev pub takes_too : ℕ → ℕ → List ℕ → ToldInIbss → Outcome ToldInIbss
takes_too b id c t = and_then (takes b id c t.told) (λ next. Ok (tells_in_ibss next t.dfs))

unfoldable pub takes_in_ibss : ℕ → ℕ → List ℕ → ToldInIbss → Outcome ToldInIbss
takes_in_ibss b id c t = pick (eqb id 41) (takes_dfs c t) (takes_too b id c t)

-- ---- a body

unfoldable pub ibss_beacon_means : ℕ → List ℕ → Placed ToldInIbss
ibss_beacon_means b body = body_means (takes_in_ibss b) (tells_in_ibss (opening body) None) b body

-- what 01 reads, with this beside it
abbrev pub besides : Option Dfs → Placed Told → Placed ToldInIbss
besides d o = and_then o (λ t. Ok (tells_in_ibss t d))

-- in an IBSS, or where element 41 is skipped as any other
abbrev pub told_where : Bool → ℕ → List ℕ → Placed ToldInIbss
told_where true b body = ibss_beacon_means b body
told_where false b body = besides None (beacon_means b body)

-- ---- the pairs of element 41 by their index from 0; 16 past the last, and where there is no element 41

abbrev pub pair_in : ℕ → Option Dfs → Outcome ChannelMap
pair_in i None = Err Refusal.Impossible
pair_in i (Some d) =
    judged (not (ltb i (length d.pairs / 2)) ⇒ Refusal.Impossible ∷ []) (record { channel = octet (2 * i) d.pairs; map = octet (2 * i + 1) d.pairs })

-- ---- which elements 41 a run has

-- none
unfoldable pub NoDfs : Elements → Type 0
NoDfs end = Unit {0}
NoDfs (cut_header o) = Unit {0}
NoDfs (cut_contents id) = Unit {0}
NoDfs (more id c es) = (id ≡ 41 → ⊥) × NoDfs es

-- one alone, which says this
unfoldable pub OneDfs : Dfs → Elements → Type 0
OneDfs d end = ⊥
OneDfs d (cut_header o) = ⊥
OneDfs d (cut_contents id) = ⊥
OneDfs d (more id c es) = ((id ≡ 41) × (dfs_means c ≡ Ok d) × NoDfs es) ⊎ ((id ≡ 41 → ⊥) × OneDfs d es)

-- none that is refused, and not two: they come to this
abbrev pub DfsSound : Option Dfs → Elements → Type 0
DfsSound None es = NoDfs es
DfsSound (Some d) es = OneDfs d es
