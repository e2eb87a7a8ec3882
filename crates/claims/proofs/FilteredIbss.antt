-- A beacon of an IBSS over the plain list of its elements: it is accepted as what they say, and only so. Assumes nothing.
use Rattle.std.specs.Prelude.{Ok, Some, None, Option}
use mathlib.Core.Bool.{Bool, true, false}
use mathlib.Core.List.{List, [], ◌∷◌, map}
use mathlib.Core.Logic.{◌↔◌, inl, inr}
use mathlib.Core.Path.{◌≡◌, refl, sym, ap, ap₂, subst, ◌∙◌}
use Prim.Native.Nat.{ℕ}
use native.Mathlib.Omega.{arith}
use borrow.Author.Tests.{eq-eqb, ne_eqb, eqb-true, eqb-false}
use lib.Dec.{eqb}
use lib.ListN.{drop}
use Rattle.answer.specs.Checks.{Outcome}
use Rattle.beacon.proofs.InIbss.{sound_read, accepted_sound, accepted_in_01}
use Rattle.beacon.specs.Beacons.{fixed_length}
use Rattle.beacon.specs.IbssBeacons.{ToldInIbss, ibss_beacon_means, besides, NoDfs, OneDfs, DfsSound}
use Rattle.element.specs.IbssDfs.{Dfs, dfs_means}
use Rattle.walk.specs.Elements.{end}
use Rattle.claims.specs.FilteredIbss.{any_dfs, IbssNoticeOf}
use Rattle.claims.specs.Filters.{Item, of_id, ReadAs, walked_as}
use Rattle.claims.proofs.BeaconItems.{beacon_filtered}
use Rattle.claims.proofs.RunItems.{walk_whole}

-- ---- which elements 41 there are, and those of ID 41

none_of : (xs : List Item) → NoDfs (walked_as xs end) → of_id 41 xs ≡ []
unfolding NoDfs walked_as of_id
none_of [] h = refl
none_of (x ∷ xs) h = simp (ne_eqb x.id 41 h.0) (none_of xs h.1)

one_of : (d : Dfs) (xs : List Item) → OneDfs d (walked_as xs end) → ReadAs dfs_means (of_id 41 xs) (d ∷ [])
unfolding OneDfs walked_as of_id
one_of d [] h = elim h [ ]
one_of d (x ∷ xs) (inl h) =
    simp (eq-eqb x.id 41 h.0)
    (ap₂ (λ (o : Outcome Dfs) (os : List (Outcome Dfs)). o ∷ os) h.1 (ap (map (λ (x : Item). dfs_means x.contents)) (none_of xs h.2)))
one_of d (x ∷ xs) (inr h) = simp (ne_eqb x.id 41 h.0) (one_of d xs h.1)

none_in : (xs : List Item) → ReadAs dfs_means (of_id 41 xs) [] → NoDfs (walked_as xs end)
unfolding NoDfs walked_as of_id
none_in [] h = tt
none_in (x ∷ xs) h = by (eqb x.id 41) refl h (none_in xs)
  where
    by : (k : Bool) → eqb x.id 41 ≡ k → ReadAs dfs_means (of_id 41 (x ∷ xs)) [] → (ReadAs dfs_means (of_id 41 xs) [] → NoDfs (walked_as xs end))
        → (x.id ≡ 41 → ⊥) × NoDfs (walked_as xs end)
    by true k h on = absurd (let e = simp k at h in let z : ◌≡◌ {A = ℕ} 0 1 = cc in omega arith)
    by false k h on = (eqb-false x.id 41 k, on (simp k at h))

one_in : (d : Dfs) (xs : List Item) → ReadAs dfs_means (of_id 41 xs) (d ∷ []) → OneDfs d (walked_as xs end)
unfolding OneDfs walked_as of_id
one_in d [] h = absurd (let z : ◌≡◌ {A = ℕ} 0 1 = cc in omega arith)
one_in d (x ∷ xs) h = by (eqb x.id 41) refl h (one_in d xs)
  where
    by : (k : Bool) → eqb x.id 41 ≡ k → ReadAs dfs_means (of_id 41 (x ∷ xs)) (d ∷ []) → (ReadAs dfs_means (of_id 41 xs) (d ∷ []) → OneDfs d (walked_as xs end))
        → OneDfs d (walked_as (x ∷ xs) end)
    by true k h on =
        let e = simp k at h in
        let first : dfs_means x.contents ≡ Ok d = cc in
        inl (eqb-true x.id 41 k, first, none_in xs (cc))
    by false k h on = inr (eqb-false x.id 41 k, on (simp k at h))

sound_of : (m : Option Dfs) (xs : List Item) → DfsSound m (walked_as xs end) → ReadAs dfs_means (of_id 41 xs) (any_dfs m)
sound_of None xs h = ap (map (λ (x : Item). dfs_means x.contents)) (none_of xs h)
sound_of (Some d) xs h = one_of d xs h

sound_in : (m : Option Dfs) (xs : List Item) → ReadAs dfs_means (of_id 41 xs) (any_dfs m) → DfsSound m (walked_as xs end)
sound_in None xs h = none_in xs h
sound_in (Some d) xs h = one_in d xs h

-- ---- a body

module _ (b : ℕ) (body : List ℕ) (t : ToldInIbss) where
  accepted_notice : ibss_beacon_means b body ≡ Ok t → IbssNoticeOf b body t
  accepted_notice e =
      let n = (beacon_filtered b body t.told).0 (accepted_in_01 b body t e) in
      record {
        notice_is = n;
        dfs_is = sound_of t.dfs n.items (subst (DfsSound t.dfs) ((walk_whole (drop fixed_length body) n.items).1 n.octets) (accepted_sound b body t e));
      }

  notice_accepted : IbssNoticeOf b body t → ibss_beacon_means b body ≡ Ok t
  notice_accepted n =
      let m = n.notice_is in
      let sound = subst (DfsSound t.dfs) (sym ((walk_whole (drop fixed_length body) m.items).1 m.octets)) (sound_in t.dfs m.items n.dfs_is) in
      sound_read b body t.dfs sound ∙ ap (besides t.dfs) ((beacon_filtered b body t.told).1 m)

  pub ibss_beacon_filtered : (ibss_beacon_means b body ≡ Ok t) ↔ IbssNoticeOf b body t
  ibss_beacon_filtered = (accepted_notice, notice_accepted)
