-- Exactly who owns: whom the latest accepted beacon with element 41 named, if it was not given up since; and exactly from when its misses are counted (02, Five). Assumes nothing.
use Rattle.std.specs.Prelude.{Ok, Err, Some, None, Option}
use mathlib.Core.Bool.{Bool, true, false}
use mathlib.Core.List.{List, [], ◌∷◌}
use mathlib.Core.Logic.{◌⊎◌, inl, inr, ⊎_elim, ◌↔◌}
use mathlib.Core.Path.{◌≡◌, refl, sym, ap, ap₂, ◌∙◌, subst}
use Prim.Native.Nat.{ℕ, zero, suc, ◌+◌}
use Rattle.answer.proofs.Booleans.{clash}
use Rattle.answer.specs.Checks.{pick}
use Rattle.answer.specs.Faults.{Placed}
use Rattle.beacon.specs.Beacons.{Told}
use Rattle.capture_record.specs.declared.entry.Settings.{Settings}
use Rattle.element.specs.IbssDfs.{Dfs}
use Rattle.frame.specs.Frames.{Kind, beacon, probe_response, action}
use Rattle.frame.specs.IbssFrames.{SentInIbss}
use Rattle.header.proofs.Addresses.{same_is}
use Rattle.header.specs.Headers.{same}
use Rattle.claims.specs.Histories.{frame, advance, ask, History, too_far, clock_after, Latest}
use Rattle.claims.specs.Naming.{Names, LastNamed, GivesUp, Owned, Restarts, FromOwner, NamesAnother, LastRestarted, Counted}
use Rattle.claims.specs.Reigns.{reign_of, Reigning, nobody, reigns, OwnerOf, MarkOf, at_unit, over_units, owns, naming_at, heard_at, foreign_to, after_kind, after_frame, read_as, reigning}
use Rattle.claims.proofs.CountsRestarted.{last_restarted}
use Rattle.claims.proofs.OwnersNamed.{last_named}
use Rattle.claims.proofs.TbttsPassed.{over_units_lem, not_given_up}

over_nobody : (b t n : ℕ) → over_units b t n nobody ≡ nobody
unfolding over_units
over_nobody b t zero = refl
over_nobody b t (suc n) = ap (at_unit b (t + suc n)) (over_nobody b t n)

-- a reading of whoever reigns, which nobody has none of
module _ {P : Type 0} (Of : Reigning → P → Type 0) (none : (p : P) → Of nobody p → ⊥) (s : Settings) (n : ℕ) (h : History) (p : P) where
  -- over an accepted advance: whoever still reigns was not given up, and whoever was not still reigns
  module _ (near : too_far (clock_after h) n ≡ false) where
    kept_over : (w : Reigning) → reigning s h ≡ w → Of (over_units s.interval (clock_after h) n w) p → GivesUp s (advance n) h → ⊥
    kept_over w e o (near', (r, g, given)) =
        ⊎_elim
        (λ (gone, x). none p (subst (λ (z : Reigning). Of z p) (ap (over_units s.interval (clock_after h) n) (sym e ∙ g) ∙ gone) o))
        (λ on. not_given_up s.interval (clock_after h) r n on given)
        (over_units_lem s.interval (clock_after h) r n)

    still_over : (w : Reigning) → reigning s h ≡ w → Of w p → (GivesUp s (advance n) h → ⊥) → Of (over_units s.interval (clock_after h) n w) p
    still_over nobody e o calm = absurd (none p o)
    still_over (reigns r) e o calm =
        ⊎_elim
        (λ (gone, x). absurd (calm (near, (r, e, x))))
        (λ on. subst (λ (z : Reigning). Of z p) (sym on) o)
        (over_units_lem s.interval (clock_after h) r n)

    was_over : (w : Reigning) → Of (over_units s.interval (clock_after h) n w) p → Of w p
    was_over nobody o = absurd (none p (subst (λ (z : Reigning). Of z p) (over_nobody s.interval (clock_after h) n) o))
    was_over (reigns r) o =
        ⊎_elim
        (λ (gone, x). absurd (none p (subst (λ (z : Reigning). Of z p) gone o)))
        (λ on. subst (λ (z : Reigning). Of z p) on o)
        (over_units_lem s.interval (clock_after h) r n)

  -- an advance leaves whoever it does not give up
  over_exactly : Of (reigning s (advance n ∷ h)) p ↔ (Of (reigning s h) p × (GivesUp s (advance n) h → ⊥))
  unfolding reigning
  over_exactly = by (too_far (clock_after h) n) refl
    where
      by : (far : Bool) → too_far (clock_after h) n ≡ far
          → Of (pick far (reigning s h) (over_units s.interval (clock_after h) n (reigning s h))) p ↔ (Of (reigning s h) p × (GivesUp s (advance n) h → ⊥))
      by true e = (λ o. (o, λ g. clash (sym e ∙ g.0)), λ o. o.0)
      by false e =
          (λ o. (was_over e (reigning s h) o, kept_over e (reigning s h) refl o), λ o. still_over e (reigning s h) refl o.0 o.1)

no_owner : (p : List ℕ × ℕ) → OwnerOf nobody p → ⊥
no_owner p o = o

no_mark : (p : List ℕ × ℕ × Bool) → MarkOf nobody p → ⊥
no_mark p o = o

-- ---- frames

module _ (s : Settings) (f : List ℕ) (h : History) where
  abbrev t : ℕ
  t = clock_after h

  abbrev w : Reigning
  w = reigning s h

  read_leaves : (o : Placed SentInIbss) → read_as s f ≡ o → reigning s (frame f ∷ h) ≡ after_frame t o w
  unfolding reigning
  read_leaves o e = ap (λ (z : Placed SentInIbss). after_frame t z w) e

  module _ (x : SentInIbss) (e : read_as s f ≡ Ok x) where
    pub accepted_leaves : foreign_to t w x ≡ false → reigning s (frame f ∷ h) ≡ after_kind t x x.sent.kind w
    accepted_leaves ours = read_leaves (Ok x) e ∙ ap (λ (b : Bool). pick b w (after_kind t x x.sent.kind w)) ours

    beacon_leaves : foreign_to t w x ≡ false → (told : Told) → x.sent.kind ≡ beacon told → reigning s (frame f ∷ h) ≡ heard_at t x.sender (naming_at t x.dfs w)
    beacon_leaves ours told y = accepted_leaves ours ∙ ap (λ (k : Kind). after_kind t x k w) y

  -- what a frame leaves: whoever reigned, or what an accepted beacon makes of it
  Leaves : Type 0
  Leaves =
      (reigning s (frame f ∷ h) ≡ w)
      ⊎ ((x : SentInIbss) × (told : Told) × (read_as s f ≡ Ok x) × (foreign_to t w x ≡ false) × (x.sent.kind ≡ beacon told))

  leaves : Leaves
  unfolding Leaves
  leaves = by_outcome (read_as s f) refl
    where
      by_kind : (x : SentInIbss) → read_as s f ≡ Ok x → foreign_to t w x ≡ false → (k : Kind) → x.sent.kind ≡ k
          → (reigning s (frame f ∷ h) ≡ w) ⊎ ((y : SentInIbss) × (told : Told) × (read_as s f ≡ Ok y) × (foreign_to t w y ≡ false) × (y.sent.kind ≡ beacon told))
      by_kind x e ours (beacon told) y = inr (x, told, e, ours, y)
      by_kind x e ours (probe_response told) y = inl (accepted_leaves x e ours ∙ ap (λ (k : Kind). after_kind t x k w) y)
      by_kind x e ours (action body) y = inl (accepted_leaves x e ours ∙ ap (λ (k : Kind). after_kind t x k w) y)

      by_test_lem : (x : SentInIbss) → read_as s f ≡ Ok x → (b : Bool) → foreign_to t w x ≡ b
          → (reigning s (frame f ∷ h) ≡ w) ⊎ ((y : SentInIbss) × (told : Told) × (read_as s f ≡ Ok y) × (foreign_to t w y ≡ false) × (y.sent.kind ≡ beacon told))
      by_test_lem x e true y = inl (read_leaves (Ok x) e ∙ ap (λ (b : Bool). pick b w (after_kind t x x.sent.kind w)) y)
      by_test_lem x e false y = by_kind x e y x.sent.kind refl

      by_outcome : (o : Placed SentInIbss) → read_as s f ≡ o
          → (reigning s (frame f ∷ h) ≡ w) ⊎ ((y : SentInIbss) × (told : Told) × (read_as s f ≡ Ok y) × (foreign_to t w y ≡ false) × (y.sent.kind ≡ beacon told))
      by_outcome (Err q) e = inl (read_leaves (Err q) e)
      by_outcome (Ok x) e = by_test_lem x e (foreign_to t w x) refl

  -- ---- the owner

  -- a beacon from an address leaves it
  heard_same : (a : List ℕ) (v : Reigning) (p : List ℕ × ℕ) → OwnerOf (heard_at t a v) p ↔ OwnerOf v p
  heard_same a nobody p = (λ o. o, λ o. o)
  heard_same a (reigns r) p = by (same a r.owner)
    where
      by : (b : Bool) → OwnerOf (reigns (pick b (reign_of r.owner r.recovery t true) r)) p ↔ OwnerOf (reigns r) p
      by true = (λ o. o, λ o. o)
      by false = (λ o. o, λ o. o)

  named_owner : (d : Dfs) (v : Reigning) → OwnerOf (naming_at t (Some d) v) (d.owner, d.recovery)
  named_owner d nobody = (refl, refl)
  named_owner d (reigns r) = by (same d.owner r.owner) refl
    where
      by : (b : Bool) → same d.owner r.owner ≡ b
          → OwnerOf (reigns (pick b (reign_of r.owner d.recovery r.since r.by_owner) (reign_of d.owner d.recovery t false))) (d.owner, d.recovery)
      by true k = (sym (same_is d.owner r.owner k), refl)
      by false k = (refl, refl)

  names_own : (a : List ℕ) (n : ℕ) → Names s (frame f) h a n → OwnerOf (reigning s (frame f ∷ h)) (a, n)
  names_own a n z =
      subst (λ (q : List ℕ × ℕ). OwnerOf (reigning s (frame f ∷ h)) q) (ap₂ (λ (y : List ℕ) (m : ℕ). (y, m)) z.owner z.interval)
      (subst (λ (v : Reigning). OwnerOf v (z.dfs.owner, z.dfs.recovery))
      (sym (beacon_leaves z.sent z.accepts.0 z.accepts.1 z.told z.in_beacon ∙ ap (λ (d : Option Dfs). heard_at t z.sent.sender (naming_at t d w)) z.has_dfs_lem))
      ((heard_same z.sent.sender (naming_at t (Some z.dfs) w) (z.dfs.owner, z.dfs.recovery)).1 (named_owner z.dfs w)))

  unnamed_same : ((a : List ℕ) (n : ℕ) → Names s (frame f) h a n → ⊥) → (p : List ℕ × ℕ) → OwnerOf (reigning s (frame f ∷ h)) p ↔ OwnerOf w p
  unfolding Leaves
  unnamed_same none p = by leaves
    where
      by_dfs : (x : SentInIbss) (told : Told) → read_as s f ≡ Ok x → foreign_to t w x ≡ false → x.sent.kind ≡ beacon told → (d : Option Dfs) → x.dfs ≡ d
          → OwnerOf (heard_at t x.sender (naming_at t d w)) p ↔ OwnerOf w p
      by_dfs x told e ours y None g = heard_same x.sender w p
      by_dfs x told e ours y (Some d) g =
          absurd
          (none d.owner d.recovery (record { sent = x; accepts = (e, ours); told = told; in_beacon = y; dfs = d; has_dfs_lem = g; owner = refl; interval = refl }))

      by : (reigning s (frame f ∷ h) ≡ w) ⊎ ((x : SentInIbss) × (told : Told) × (read_as s f ≡ Ok x) × (foreign_to t w x ≡ false) × (x.sent.kind ≡ beacon told))
          → OwnerOf (reigning s (frame f ∷ h)) p ↔ OwnerOf w p
      by (inl e) = (subst (λ (v : Reigning). OwnerOf v p) e, subst (λ (v : Reigning). OwnerOf v p) (sym e))
      by (inr (x, told, e, ours, y)) =
          subst (λ (v : Reigning). OwnerOf v p ↔ OwnerOf w p) (sym (beacon_leaves x e ours told y)) (by_dfs x told e ours y x.dfs refl)

  -- ---- from when its misses are counted

  -- a beacon from another address changes nothing of whoever reigns
  unheard : (a : List ℕ) (v : Reigning) → owns v a ≡ false → heard_at t a v ≡ v
  unheard a nobody e = refl
  unheard a (reigns r) e = ap (λ (b : Bool). reigns (pick b (reign_of r.owner r.recovery t true) r)) e

  -- one from the owner begins the count anew
  heard_mark : (a : List ℕ) (v : Reigning) → owns v a ≡ true → MarkOf (heard_at t a v) (a, t, true)
  heard_mark a nobody e = clash (sym e)
  heard_mark a (reigns r) e =
      subst (λ (b : Bool). MarkOf (reigns (pick b (reign_of r.owner r.recovery t true) r)) (a, t, true)) (sym e) (sym (same_is a r.owner e), refl, refl)

  -- and so does the name of another
  another_mark : (d : Dfs) (v : Reigning) → owns v d.owner ≡ false → MarkOf (naming_at t (Some d) v) (d.owner, t, false)
  another_mark d nobody e = (refl, refl, refl)
  another_mark d (reigns r) e =
      subst (λ (b : Bool). MarkOf (reigns (pick b (reign_of r.owner d.recovery r.since r.by_owner) (reign_of d.owner d.recovery t false))) (d.owner, t, false)) (sym e) (refl, refl, refl)

  -- that of the same owner does not
  same_mark : (d : Dfs) (v : Reigning) → owns v d.owner ≡ true → (p : List ℕ × ℕ × Bool) → MarkOf (naming_at t (Some d) v) p ↔ MarkOf v p
  same_mark d nobody e p = clash (sym e)
  same_mark d (reigns r) e p =
      subst (λ (b : Bool). MarkOf (reigns (pick b (reign_of r.owner d.recovery r.since r.by_owner) (reign_of d.owner d.recovery t false))) p ↔ MarkOf (reigns r) p) (sym e)
      (λ o. o, λ o. o)

  -- of whom another was named, no one else is the owner
  another_owns : (d : Dfs) (v : Reigning) (a : List ℕ) → owns v d.owner ≡ false → owns (naming_at t (Some d) v) a ≡ same a d.owner
  another_owns d nobody a e = refl
  another_owns d (reigns r) a e =
      ap (λ (b : Bool). same a (pick b (reign_of r.owner d.recovery r.since r.by_owner) (reign_of d.owner d.recovery t false)).owner) e

  restarts_mark : (a : List ℕ) (b : Bool) → Restarts s (frame f) h a b → MarkOf (reigning s (frame f ∷ h)) (a, t, b)
  restarts_mark a b z =
      subst (λ (v : Reigning). MarkOf v (a, t, b)) (sym (beacon_leaves z.sent z.accepts.0 z.accepts.1 z.told z.in_beacon)) (by z.how)
    where
      by : FromOwner s h z.sent a b ⊎ NamesAnother s h z.sent a b → MarkOf (heard_at t z.sent.sender (naming_at t z.sent.dfs w)) (a, t, b)
      by (inl (own, sender, stands)) =
          subst (λ (q : List ℕ × Bool). MarkOf (heard_at t z.sent.sender (naming_at t z.sent.dfs w)) (q.0, t, q.1))
          (ap₂ (λ (y : List ℕ) (c : Bool). (y, c)) sender (sym own))
          (heard_mark z.sent.sender (naming_at t z.sent.dfs w) (ap (owns (naming_at t z.sent.dfs w)) sender ∙ stands))
      by (inr (own, (d, has, owner), other, sender)) =
          let other' : owns w d.owner ≡ false = ap (owns w) owner ∙ other in
          let away : owns (naming_at t (Some d) w) z.sent.sender ≡ false = another_owns d w z.sent.sender other' ∙ ap (same z.sent.sender) owner ∙ sender in
          subst (λ (q : List ℕ × Bool). MarkOf (heard_at t z.sent.sender (naming_at t z.sent.dfs w)) (q.0, t, q.1))
          (ap₂ (λ (y : List ℕ) (c : Bool). (y, c)) owner (sym own))
          (subst (λ (v : Reigning). MarkOf v (d.owner, t, false))
          (sym (ap (λ (y : Option Dfs). heard_at t z.sent.sender (naming_at t y w)) has ∙ unheard z.sent.sender (naming_at t (Some d) w) away))
          (another_mark d w other'))

  calm_same : ((a : List ℕ) (y : Bool) → Restarts s (frame f) h a y → ⊥) → (p : List ℕ × ℕ × Bool) → MarkOf (reigning s (frame f ∷ h)) p ↔ MarkOf w p
  unfolding Leaves
  calm_same none p = by leaves
    where
      away : (x : SentInIbss) (told : Told) → read_as s f ≡ Ok x → foreign_to t w x ≡ false → x.sent.kind ≡ beacon told
          → (b : Bool) → owns (naming_at t x.dfs w) x.sender ≡ b → b ≡ false
      away x told e ours y true g =
          absurd (none x.sender true (record { sent = x; accepts = (e, ours); told = told; in_beacon = y; how = inl (refl, refl, g) }))
      away x told e ours y false g = refl

      known : (x : SentInIbss) (told : Told) → read_as s f ≡ Ok x → foreign_to t w x ≡ false → x.sent.kind ≡ beacon told → (d : Dfs) → x.dfs ≡ Some d
          → owns (naming_at t x.dfs w) x.sender ≡ false → (b : Bool) → owns w d.owner ≡ b → b ≡ true
      known x told e ours y d has off true g = refl
      known x told e ours y d has off false g =
          absurd
          (none d.owner false
          (record {
            sent = x;
            accepts = (e, ours);
            told = told;
            in_beacon = y;
            how = inr (refl, (d, has, refl), g, sym (another_owns d w x.sender g) ∙ sym (ap (λ (z : Option Dfs). owns (naming_at t z w) x.sender) has) ∙ off);
          }))

      by_dfs : (x : SentInIbss) (told : Told) → read_as s f ≡ Ok x → foreign_to t w x ≡ false → x.sent.kind ≡ beacon told
          → owns (naming_at t x.dfs w) x.sender ≡ false → (d : Option Dfs) → x.dfs ≡ d → MarkOf (naming_at t d w) p ↔ MarkOf w p
      by_dfs x told e ours y off None g = (λ o. o, λ o. o)
      by_dfs x told e ours y off (Some d) g = same_mark d w (let k = known x told e ours y d g off (owns w d.owner) refl in k) p

      by : (reigning s (frame f ∷ h) ≡ w) ⊎ ((x : SentInIbss) × (told : Told) × (read_as s f ≡ Ok x) × (foreign_to t w x ≡ false) × (x.sent.kind ≡ beacon told))
          → MarkOf (reigning s (frame f ∷ h)) p ↔ MarkOf w p
      by (inl e) = (subst (λ (v : Reigning). MarkOf v p) e, subst (λ (v : Reigning). MarkOf v p) (sym e))
      by (inr (x, told, e, ours, y)) =
          let off = away x told e ours y (owns (naming_at t x.dfs w) x.sender) refl in
          subst (λ (v : Reigning). MarkOf v p ↔ MarkOf w p) (sym (beacon_leaves x e ours told y ∙ unheard x.sender (naming_at t x.dfs w) off))
          (by_dfs x told e ours y off x.dfs refl)

-- ---- whatever the calls

module _ (s : Settings) where
  asked : (n : ℕ) (h : History) → reigning s (ask n ∷ h) ≡ reigning s h
  unfolding reigning
  asked n h = refl

  -- the owner, with its interval, is exactly whom the latest accepted beacon with element 41 named, if it was not given up since
  owned : (h : History) (p : List ℕ × ℕ) → OwnerOf (reigning s h) p → Owned s h p.0 p.1
  unfolding Latest
  owned [] p o = absurd (last_named s [] p o)
  owned (frame f ∷ h) p o = by (last_named s (frame f ∷ h) p o) (λ none. owned h p ((unnamed_same s f h none p).0 o))
    where
      by : LastNamed s (frame f ∷ h) p.0 p.1 → (((a : List ℕ) (n : ℕ) → Names s (frame f) h a n → ⊥) → Owned s h p.0 p.1) → Owned s (frame f ∷ h) p.0 p.1
      by (inl z) rest = inl z
      by (inr (none, last)) rest = inr ((none, λ g. g), rest none)
  owned (advance n ∷ h) p o = let w = (over_exactly OwnerOf no_owner s n h p).0 o in inr ((λ a m z. z.accepts, w.1), owned h p w.0)
  owned (ask n ∷ h) p o = inr ((λ a m z. z.accepts, λ g. g), owned h p (subst (λ (v : Reigning). OwnerOf v p) (asked n h) o))

  owns_so : (h : History) (p : List ℕ × ℕ) → Owned s h p.0 p.1 → OwnerOf (reigning s h) p
  unfolding Latest
  owns_so [] p x = absurd x
  owns_so (frame f ∷ h) p (inl z) = names_own s f h p.0 p.1 z
  owns_so (frame f ∷ h) p (inr (calm, rest)) = (unnamed_same s f h calm.0 p).1 (owns_so h p rest)
  owns_so (advance n ∷ h) p (inl z) = absurd z.accepts
  owns_so (advance n ∷ h) p (inr (calm, rest)) = (over_exactly OwnerOf no_owner s n h p).1 (owns_so h p rest, calm.1)
  owns_so (ask n ∷ h) p (inl z) = absurd z.accepts
  owns_so (ask n ∷ h) p (inr (calm, rest)) = subst (λ (v : Reigning). OwnerOf v p) (sym (asked n h)) (owns_so h p rest)

  pub owner_exactly : (h : History) (a : List ℕ) (n : ℕ) → OwnerOf (reigning s h) (a, n) ↔ Owned s h a n
  owner_exactly h a n = (owned h (a, n), owns_so h (a, n))

  -- and its misses are counted exactly from the latest beacon that came from it or named it after another, if it was not given up since
  counts : (h : History) (p : List ℕ × ℕ × Bool) → MarkOf (reigning s h) p → Counted s h p.0 p.1 p.2
  unfolding Latest
  counts [] p o = absurd (last_restarted s [] p o)
  counts (frame f ∷ h) p o = by (last_restarted s (frame f ∷ h) p o) (λ none. counts h p ((calm_same s f h none p).0 o))
    where
      by : LastRestarted s (frame f ∷ h) p.0 p.1 p.2 → (((a : List ℕ) (y : Bool) → Restarts s (frame f) h a y → ⊥) → Counted s h p.0 p.1 p.2)
          → Counted s (frame f ∷ h) p.0 p.1 p.2
      by (inl z) rest = inl z
      by (inr (none, last)) rest = inr ((none, λ g. g), rest none)
  counts (advance n ∷ h) p o = let w = (over_exactly MarkOf no_mark s n h p).0 o in inr ((λ a y z. z.accepts, w.1), counts h p w.0)
  counts (ask n ∷ h) p o = inr ((λ a y z. z.accepts, λ g. g), counts h p (subst (λ (v : Reigning). MarkOf v p) (asked n h) o))

  marked_so : (h : History) (p : List ℕ × ℕ × Bool) → Counted s h p.0 p.1 p.2 → MarkOf (reigning s h) p
  unfolding Latest
  marked_so [] p x = absurd x
  marked_so (frame f ∷ h) p (inl (z, e)) = subst (λ (n : ℕ). MarkOf (reigning s (frame f ∷ h)) (p.0, n, p.2)) e (restarts_mark s f h p.0 p.2 z)
  marked_so (frame f ∷ h) p (inr (calm, rest)) = (calm_same s f h calm.0 p).1 (marked_so h p rest)
  marked_so (advance n ∷ h) p (inl (z, e)) = absurd z.accepts
  marked_so (advance n ∷ h) p (inr (calm, rest)) = (over_exactly MarkOf no_mark s n h p).1 (marked_so h p rest, calm.1)
  marked_so (ask n ∷ h) p (inl (z, e)) = absurd z.accepts
  marked_so (ask n ∷ h) p (inr (calm, rest)) = subst (λ (v : Reigning). MarkOf v p) (sym (asked n h)) (marked_so h p rest)

  pub counted_exactly : (h : History) (a : List ℕ) (t : ℕ) (by_owner : Bool) → MarkOf (reigning s h) (a, t, by_owner) ↔ Counted s h a t by_owner
  counted_exactly h a t by_owner = (counts h (a, t, by_owner), marked_so h (a, t, by_owner))
