-- Who reigns was named by the latest accepted beacon with element 41, and where none is ever heard nobody does, so that no announcement is obeyed (02, Five). Assumes
-- nothing.
use Rattle.std.specs.Prelude.{Ok, Err, Some, None, Option, is_some}
use mathlib.Core.Bool.{Bool, true, false, not, ◌&&◌}
use mathlib.Core.List.{List, [], ◌∷◌}
use mathlib.Core.Logic.{◌⊎◌, inl, inr}
use mathlib.Core.Path.{◌≡◌, refl, sym, ap, ap₂, ◌∙◌, subst}
use Prim.Native.Nat.{ℕ, zero, suc, ◌+◌, ◌≤◌}
use native.Mathlib.Omega.{arith}
use lib.Dec.{leb}
use Rattle.answer.proofs.Booleans.{clash}
use Rattle.answer.proofs.Judged.{never}
use Rattle.answer.specs.Checks.{pick}
use Rattle.answer.specs.Faults.{Placed}
use Rattle.answer.specs.declared.Fault.{Fault}
use Rattle.beacon.specs.Beacons.{Told}
use Rattle.capture_record.specs.declared.entry.Settings.{Settings}
use Rattle.element.specs.IbssDfs.{Dfs}
use Rattle.element.specs.declared.channel_switch.ChannelSwitch.{ChannelSwitch}
use Rattle.frame.proofs.IbssNames.{sent_names}
use Rattle.frame.specs.Announcements.{announcement_in}
use Rattle.frame.specs.Frames.{Kind, beacon, probe_response, action}
use Rattle.frame.specs.IbssFrames.{SentInIbss}
use Rattle.header.proofs.Addresses.{same_is}
use Rattle.header.specs.Headers.{same}
use Rattle.owner.specs.Tbtts.{is_tbtt}
use Rattle.claims.specs.Histories.{Call, frame, advance, ask, History, too_far, clock_after, Latest, Throughout, Announces}
use Rattle.claims.specs.Naming.{Names, LastNamed, NeverNamed}
use Rattle.claims.specs.Reigns.{OwnerOf, reign_of, Reigning, nobody, reigns, missed_by, at_unit, over_units, owns, naming_at, heard_at, foreign_to, after_kind, after_frame, read_as, reigning, ibss_listener}
use Rattle.claims.proofs.Same.{accepted_once}

module _ (s : Settings) where
  -- ---- the clock names nobody

  unit_owner : (b u : ℕ) (w : Reigning) (p : List ℕ × ℕ) → OwnerOf (at_unit b u w) p → OwnerOf w p
  unit_owner b u nobody p o = o
  unit_owner b u (reigns r) p o = by (is_tbtt b u && leb r.recovery (missed_by b r u)) o
    where
      by : (ends : Bool) → OwnerOf (pick ends nobody (reigns r)) p → OwnerOf (reigns r) p
      by true x = absurd x
      by false x = x

  units_owner : (b t n : ℕ) (w : Reigning) (p : List ℕ × ℕ) → OwnerOf (over_units b t n w) p → OwnerOf w p
  unfolding over_units
  units_owner b t zero w p o = o
  units_owner b t (suc n) w p o = units_owner b t n w p (unit_owner b (t + suc n) (over_units b t n w) p o)

  -- nor does whom a beacon is heard from
  heard_owner : (t : ℕ) (a : List ℕ) (w : Reigning) (p : List ℕ × ℕ) → OwnerOf (heard_at t a w) p → OwnerOf w p
  heard_owner t a nobody p o = o
  heard_owner t a (reigns r) p o = by (same a r.owner) o
    where
      by : (from_owner : Bool) → OwnerOf (reigns (pick from_owner (reign_of r.owner r.recovery t true) r)) p → OwnerOf (reigns r) p
      by true x = x
      by false x = x

  -- element 41 does
  naming_owner : (t : ℕ) (d : Dfs) (w : Reigning) (p : List ℕ × ℕ) → OwnerOf (naming_at t (Some d) w) p → (d.owner ≡ p.0) × (d.recovery ≡ p.1)
  naming_owner t d nobody p o = o
  naming_owner t d (reigns r) p o = by (same d.owner r.owner) refl o
    where
      by : (as_before_lem : Bool) → same d.owner r.owner ≡ as_before_lem
          → OwnerOf (reigns (pick as_before_lem (reign_of r.owner d.recovery r.since r.by_owner) (reign_of d.owner d.recovery t false))) p
          → (d.owner ≡ p.0) × (d.recovery ≡ p.1)
      by true e x = (same_is d.owner r.owner e ∙ x.0, x.1)
      by false e x = x

  -- ---- what a frame was read as

  module _ (f : List ℕ) (h : History) where
    one_reading : (x y : SentInIbss) → read_as s f ≡ Ok x → read_as s f ≡ Ok y → x ≡ y
    one_reading x y e g = accepted_once (sym e ∙ g)

    -- a frame that was refused names nobody
    refused_nameless : (q : Fault) → read_as s f ≡ Err q → (a : List ℕ) (n : ℕ) → Names s (frame f) h a n → ⊥
    refused_nameless q e a n x = never (sym e ∙ x.accepts.0)

    -- nor one that was read as something else than a beacon with element 41, or refused for its announcement
    module _ (x : SentInIbss) (e : read_as s f ≡ Ok x) where
      foreign_nameless : foreign_to (clock_after h) (reigning s h) x ≡ true → (a : List ℕ) (n : ℕ) → Names s (frame f) h a n → ⊥
      foreign_nameless y a n z =
          clash (sym y ∙ ap (foreign_to (clock_after h) (reigning s h)) (one_reading x z.sent e z.accepts.0) ∙ z.accepts.1)

      absent_nameless : x.dfs ≡ None → (a : List ℕ) (n : ℕ) → Names s (frame f) h a n → ⊥
      absent_nameless y a n z = not_both (sym y ∙ ap (λ (v : SentInIbss). v.dfs) (one_reading x z.sent e z.accepts.0) ∙ z.has_dfs_lem)
        where
          not_both : None ≡ Some z.dfs → ⊥
          not_both c = let w : ◌≡◌ {A = ℕ} 0 1 = cc in omega arith

      no_beacon_nameless : (k : Kind) → x.sent.kind ≡ k → ((told : Told) → k ≡ beacon told → ⊥) → (a : List ℕ) (n : ℕ) → Names s (frame f) h a n → ⊥
      no_beacon_nameless k y none a n z =
          none z.told (sym y ∙ ap (λ (v : SentInIbss). v.sent.kind) (one_reading x z.sent e z.accepts.0) ∙ z.in_beacon)

    -- ---- the latest that named one, after this frame

    module _ (p : List ℕ × ℕ) (before : OwnerOf (reigning s h) p → LastNamed s h p.0 p.1) where
      passes : ((a : List ℕ) (n : ℕ) → Names s (frame f) h a n → ⊥) → OwnerOf (reigning s h) p → LastNamed s (frame f ∷ h) p.0 p.1
      unfolding Latest
      passes none o = inr (none, before o)

      module _ (x : SentInIbss) (e : read_as s f ≡ Ok x) where
        by_dfs : (told : Told) → x.sent.kind ≡ beacon told → foreign_to (clock_after h) (reigning s h) x ≡ false → (d : Option Dfs) → x.dfs ≡ d
            → OwnerOf (naming_at (clock_after h) d (reigning s h)) p → LastNamed s (frame f ∷ h) p.0 p.1
        unfolding Latest
        by_dfs told is-beacon ours None y o = passes (absent_nameless x e y) o
        by_dfs told is-beacon ours (Some d) y o =
            let named = naming_owner (clock_after h) d (reigning s h) p o in
            inl (record { sent = x; accepts = (e, ours); told = told; in_beacon = is-beacon; dfs = d; has_dfs_lem = y; owner = named.0; interval = named.1 })

        by_kind : (k : Kind) → x.sent.kind ≡ k → foreign_to (clock_after h) (reigning s h) x ≡ false
            → OwnerOf (after_kind (clock_after h) x k (reigning s h)) p → LastNamed s (frame f ∷ h) p.0 p.1
        by_kind (beacon told) y ours o =
            by_dfs told y ours x.dfs refl (heard_owner (clock_after h) x.sender (naming_at (clock_after h) x.dfs (reigning s h)) p o)
        by_kind (probe_response told) y ours o = passes (no_beacon_nameless x e (probe_response told) y (λ t z. let w : ◌≡◌ {A = ℕ} 0 1 = cc in omega arith)) o
        by_kind (action body) y ours o = passes (no_beacon_nameless x e (action body) y (λ t z. let w : ◌≡◌ {A = ℕ} 0 1 = cc in omega arith)) o

        by_test_lem : (foreign : Bool) → foreign_to (clock_after h) (reigning s h) x ≡ foreign
            → OwnerOf (pick foreign (reigning s h) (after_kind (clock_after h) x x.sent.kind (reigning s h))) p → LastNamed s (frame f ∷ h) p.0 p.1
        by_test_lem true y o = passes (foreign_nameless x e y) o
        by_test_lem false y o = by_kind x.sent.kind refl y o

      by_outcome : (o : Placed SentInIbss) → read_as s f ≡ o → OwnerOf (after_frame (clock_after h) o (reigning s h)) p → LastNamed s (frame f ∷ h) p.0 p.1
      by_outcome (Err q) e o = passes (refused_nameless q e) o
      by_outcome (Ok x) e o = by_test_lem x e (foreign_to (clock_after h) (reigning s h) x) refl o

  -- ---- whatever the calls

  -- the owner, with its interval, is the one that the latest accepted beacon with element 41 named
  pub last_named : (h : History) (p : List ℕ × ℕ) → OwnerOf (reigning s h) p → LastNamed s h p.0 p.1
  unfolding reigning Latest
  last_named [] p o = absurd o
  last_named (frame f ∷ h) p o = by_outcome f h p (last_named h p) (read_as s f) refl o
  last_named (advance n ∷ h) p o = inr (λ a m z. z.accepts, last_named h p (by (too_far (clock_after h) n) o))
    where
      by : (far : Bool) → OwnerOf (pick far (reigning s h) (over_units s.interval (clock_after h) n (reigning s h))) p → OwnerOf (reigning s h) p
      by true x = x
      by false x = units_owner s.interval (clock_after h) n (reigning s h) p x
  last_named (ask n ∷ h) p o = inr (λ a m z. z.accepts, last_named h p o)

  -- ---- where element 41 is never heard

  never_named : (h : History) (a : List ℕ) (n : ℕ) → NeverNamed s h → LastNamed s h a n → ⊥
  unfolding Latest Throughout
  never_named [] a n none x = x
  never_named (c ∷ h) a n none (inl z) = none.0 a n z
  never_named (c ∷ h) a n none (inr (z, last)) = never_named h a n none.1 last

  pub nobody_reigns : (h : History) → NeverNamed s h → reigning s h ≡ nobody
  nobody_reigns h none = by (reigning s h) refl
    where
      by : (w : Reigning) → reigning s h ≡ w → w ≡ nobody
      by nobody e = refl
      by (reigns r) e =
          absurd (never_named h r.owner r.recovery none (last_named h (r.owner, r.recovery) (subst (λ (v : Reigning). OwnerOf v (r.owner, r.recovery)) (sym e) (refl, refl))))

  -- no announcement is heard, whoever sends it and however
  pub none_obeyed : (c : Call) (h : History) (w : ChannelSwitch) → NeverNamed s (c ∷ h) → Announces (ibss_listener s) c h w → ⊥
  unfolding Throughout
  none_obeyed (advance n) h w none (k, (x, a, e), y) = a
  none_obeyed (ask n) h w none (k, (x, a, e), y) = a
  none_obeyed (frame f) h w none (k, (x, (read, ours), e), y) = by (sent_names s.own s.ap s.interval f x read)
    where
      announces : is_some (announcement_in x.sent.kind) ≡ true
      announces = ap is_some (ap announcement_in e ∙ y)

      by : (x.dfs ≡ None) ⊎ ((told : Told) × (d : Dfs) × (x.sent.kind ≡ beacon told) × (x.dfs ≡ Some d) × (1 ≤ d.recovery)) → ⊥
      by (inl z) =
          clash
          (sym
          (ap₂ (λ (t : Bool) (v : Reigning). t && not (owns v x.sender)) announces (ap (λ (d : Option Dfs). naming_at (clock_after h) d (reigning s h)) z ∙ nobody_reigns h none.1))
          ∙ ours)
      by (inr (told, d, in_beacon, has, some)) =
          none.0 d.owner d.recovery
          (record { sent = x; accepts = (read, ours); told = told; in_beacon = in_beacon; dfs = d; has_dfs_lem = has; owner = refl; interval = refl })
