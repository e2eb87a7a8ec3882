-- What the definitions say of single bodies. Assumes nothing.
use Rattle.std.specs.Prelude.{Ok, Err, Some, None}
use mathlib.Core.Path.{◌≡◌, refl, ap}
use mathlib.Core.Bool.{false}
use mathlib.Core.List.{List, [], ◌∷◌, ◌++◌}
use Prim.Native.Nat.{ℕ, zero, suc}
use native.Mathlib.Omega.{arith}
use lib.ListN.{replicate}
use Rattle.answer.specs.Checks.{checked}
use Rattle.answer.specs.Faults.{fault_at, fault_nowhere, Placed}
use Rattle.answer.specs.declared.Refusal.{Refusal}
use Rattle.octets.specs.Elements.{fixed}
use Rattle.element.specs.IbssDfs.{Dfs, dfs_means}
use Rattle.element.specs.Quiet.{quiet_means, quiet_octets}
use Rattle.element.specs.declared.quiet.Quiet.{Quiet}
use Rattle.walk.specs.Elements.{elements_after, elements_in}
use Rattle.beacon.specs.Beacons.{Told, tells, element_means, takes, says, beacon_means}
use Rattle.beacon.specs.IbssBeacons.{tells_in_ibss, takes_in_ibss, ibss_beacon_means, besides, told_where, pair_in}
use Rattle.beacon.specs.Laid.{no_quiet, laid}
use Rattle.beacon.specs.Notices.{elementless}
use Rattle.beacon.specs.declared.Heard.{Heard}

-- a body with timestamp 0, interval 100 and a capability of one octet, and what it says
abbrev body : ℕ → List ℕ → List ℕ
body capability elements = replicate 8 0 ++ (100 ∷ 0 ∷ capability ∷ 0 ∷ elements)

abbrev quietly : List Quiet → Told
quietly qs = tells (elementless 0 1) qs

-- a Quiet element by its count, n of them with the counts n to 1, and their octets
abbrev quiet_in : ℕ → Quiet
quiet_in n = record { count = n; period = 0; duration = 10; offset = 20 }

abbrev several : ℕ → List Quiet
several zero = []
several (suc n) = quiet_in (suc n) ∷ several n

abbrev octets_of : List Quiet → List ℕ
octets_of [] = []
octets_of (q ∷ qs) = quiet_octets q ++ octets_of qs

-- 12 octets and no element: accepted, and nothing is said
pub bare : beacon_means 100 (body 1 []) ≡ Ok (quietly [])
unfolding beacon_means checked says elements_in elements_after
bare = refl

-- 11 octets: too short
pub short : beacon_means 100 (replicate 11 0) ≡ Err (fault_nowhere Refusal.TooShort)
unfolding beacon_means checked
short = refl

-- another interval
pub other : beacon_means 101 (body 1 []) ≡ Err (fault_at 8 Refusal.OtherInterval)
unfolding beacon_means checked
other = refl

-- two different Quiet elements: both are kept, in their order
pub two_quiets : beacon_means 100 (body 1 (octets_of (quiet_in 3 ∷ quiet_in 5 ∷ []))) ≡ Ok (quietly (quiet_in 3 ∷ quiet_in 5 ∷ []))
unfolding beacon_means checked says takes element_means elements_in elements_after quiet_means fixed quiet_octets
two_quiets = refl

-- as the reader hands them out
pub two_slots : laid 0 (told_where false 100 (body 1 (octets_of (quiet_in 3 ∷ quiet_in 5 ∷ []))))
    ≡ Ok (record { notice = elementless 0 1; quiets = quiet_in 3 ∷ quiet_in 5 ∷ replicate 6 no_quiet; count = 2; dfs = None })
two_slots = ap (λ (o : Placed Told). laid 0 (besides None o)) two_quiets

-- eight are kept
pub eight_quiets : beacon_means 100 (body 1 (octets_of (several 8))) ≡ Ok (quietly (several 8))
unfolding beacon_means checked says takes element_means elements_in elements_after quiet_means fixed quiet_octets
eight_quiets = refl

-- a ninth is refused, at its ID octet: 12 octets and eight elements of 8 stand before it
pub nine_quiets : beacon_means 100 (body 1 (octets_of (several 9))) ≡ Err (fault_at 76 Refusal.TooManyQuiets)
unfolding beacon_means checked says takes element_means elements_in elements_after quiet_means fixed quiet_octets
nine_quiets = refl

-- bodies that differ in one octet of the capability are told apart
abbrev capability : Placed Heard → ℕ
capability (Err x) = 0
capability (Ok h) = h.notice.capability

pub capability_counts : laid 0 (told_where false 100 (body 0 [])) ≡ laid 0 (told_where false 100 (body 1 [])) → ⊥
unfolding beacon_means checked says elements_in elements_after
capability_counts e =
    let z : ◌≡◌ {A = ℕ} 0 1 = ap capability e in
    omega arith

-- ---- in an IBSS

-- element 41 with an owner, a recovery interval and one pair, and what it says
abbrev naming : ℕ → List ℕ
naming recovery = 41 ∷ 9 ∷ 2 ∷ 0 ∷ 0 ∷ 0 ∷ 0 ∷ 1 ∷ recovery ∷ 36 ∷ 5 ∷ []

abbrev dfs : Dfs
dfs = record { owner = 2 ∷ 0 ∷ 0 ∷ 0 ∷ 0 ∷ 1 ∷ []; recovery = 3; pairs = 36 ∷ 5 ∷ [] }

pub an_owner : ibss_beacon_means 100 (body 1 (naming 3 ++ quiet_octets (quiet_in 3))) ≡ Ok (tells_in_ibss (quietly (quiet_in 3 ∷ [])) (Some dfs))
unfolding ibss_beacon_means checked says takes_in_ibss takes element_means elements_in elements_after dfs_means quiet_means fixed quiet_octets
an_owner = refl

pub its_pair : pair_in 0 (Some dfs) ≡ Ok (record { channel = 36; map = 5 })
unfolding checked
its_pair = refl

pub no_pair_more : pair_in 1 (Some dfs) ≡ Err Refusal.Impossible
unfolding checked
no_pair_more = refl

-- a second element 41 is refused at its ID octet, and interval 0 before it is a second; 01 skips both
pub two_owners : ibss_beacon_means 100 (body 1 (naming 3 ++ naming 3)) ≡ Err (fault_at 23 Refusal.Repeated)
unfolding ibss_beacon_means checked says takes_in_ibss elements_in elements_after dfs_means
two_owners = refl

pub no_interval : ibss_beacon_means 100 (body 1 (naming 3 ++ naming 0)) ≡ Err (fault_at 23 Refusal.ForbiddenValue)
unfolding ibss_beacon_means checked says takes_in_ibss elements_in elements_after dfs_means
no_interval = refl

pub owners_skipped : beacon_means 100 (body 1 (naming 3 ++ naming 0)) ≡ Ok (quietly [])
unfolding beacon_means checked says takes element_means elements_in elements_after
owners_skipped = refl
