-- Misses are counted from the latest beacon that came from the owner or named another (02, Five). Assumes nothing.
use Rattle.std.specs.Prelude.{Ok, Err, Some, None, Option}
use mathlib.Core.Bool.{Bool, true, false, ◌&&◌}
use mathlib.Core.List.{List, [], ◌∷◌}
use mathlib.Core.Logic.{◌⊎◌, inl, inr}
use mathlib.Core.Path.{◌≡◌, refl, sym, ap, ap₂, ◌∙◌, subst}
use Prim.Native.Nat.{ℕ, zero, suc, ◌+◌}
use native.Mathlib.Omega.{arith}
use lib.Dec.{leb}
use Rattle.answer.proofs.Booleans.{clash}
use Rattle.answer.proofs.Judged.{never}
use Rattle.answer.specs.Checks.{pick}
use Rattle.answer.specs.Faults.{Placed}
use Rattle.answer.specs.declared.Fault.{Fault}
use Rattle.beacon.specs.Beacons.{Told}
use Rattle.capture_record.specs.declared.entry.Settings.{Settings}
use Rattle.element.specs.IbssDfs.{Dfs}
use Rattle.frame.specs.Frames.{Kind, beacon, probe_response, action}
use Rattle.frame.specs.IbssFrames.{SentInIbss}
use Rattle.header.proofs.Addresses.{same_is}
use Rattle.header.specs.Headers.{same}
use Rattle.owner.specs.Tbtts.{is_tbtt}
use Rattle.claims.specs.Histories.{frame, advance, ask, History, too_far, clock_after, Latest}
use Rattle.claims.specs.Naming.{Restarts, FromOwner, NamesAnother, LastRestarted}
use Rattle.claims.specs.Reigns.{MarkOf, reign_of, Reigning, nobody, reigns, missed_by, at_unit, over_units, owns, naming_at, heard_at, foreign_to, after_kind, after_frame, read_as, reigning}
use Rattle.claims.proofs.Same.{accepted_once}

-- an owner by who it is, when the count was last set to 0, and whether by a beacon of its own
abbrev Mark : Type 0
Mark = List ℕ × ℕ × Bool

one_dfs : (d d' : Dfs) → Some d ≡ Some d' → d.owner ≡ d'.owner
one_dfs d d' e = cc

-- ---- the clock sets no count to 0

unit_mark : (b u : ℕ) (w : Reigning) (p : Mark) → MarkOf (at_unit b u w) p → MarkOf w p
unit_mark b u nobody p o = o
unit_mark b u (reigns r) p o = by (is_tbtt b u && leb r.recovery (missed_by b r u)) o
  where
    by : (ends : Bool) → MarkOf (pick ends nobody (reigns r)) p → MarkOf (reigns r) p
    by true x = absurd x
    by false x = x

units_mark : (b t n : ℕ) (w : Reigning) (p : Mark) → MarkOf (over_units b t n w) p → MarkOf w p
unfolding over_units
units_mark b t zero w p o = o
units_mark b t (suc n) w p o = units_mark b t n w p (unit_mark b (t + suc n) (over_units b t n w) p o)

module _ (s : Settings) where
  module _ (f : List ℕ) (h : History) where
    abbrev t : ℕ
    t = clock_after h

    abbrev w : Reigning
    w = reigning s h

    -- ---- frames that set no count to 0

    refused_calm : (q : Fault) → read_as s f ≡ Err q → (a : List ℕ) (y : Bool) → Restarts s (frame f) h a y → ⊥
    refused_calm q e a y z = never (sym e ∙ z.accepts.0)

    module _ (x : SentInIbss) (e : read_as s f ≡ Ok x) where
      foreign_calm : foreign_to t w x ≡ true → (a : List ℕ) (y : Bool) → Restarts s (frame f) h a y → ⊥
      foreign_calm g a y z = clash (sym g ∙ ap (foreign_to t w) (accepted_once (sym e ∙ z.accepts.0)) ∙ z.accepts.1)

      no_beacon_calm : (k : Kind) → x.sent.kind ≡ k → ((told : Told) → k ≡ beacon told → ⊥) → (a : List ℕ) (y : Bool) → Restarts s (frame f) h a y → ⊥
      no_beacon_calm k g none a y z =
          none z.told (sym g ∙ ap (λ (v : SentInIbss). v.sent.kind) (accepted_once (sym e ∙ z.accepts.0)) ∙ z.in_beacon)

      -- a beacon neither from the owner nor naming another
      beacon_calm : owns (naming_at t x.dfs w) x.sender ≡ false → ((d : Dfs) → x.dfs ≡ Some d → owns w d.owner ≡ true)
          → (a : List ℕ) (y : Bool) → Restarts s (frame f) h a y → ⊥
      beacon_calm elsewhere as_before_lem a y z = by z.how
        where
          same_sent : z.sent ≡ x
          same_sent = sym (accepted_once (sym e ∙ z.accepts.0))

          by : FromOwner s h z.sent a y ⊎ NamesAnother s h z.sent a y → ⊥
          by (inl (own, sender, stands)) =
              clash
              (sym stands
              ∙ ap₂ (λ (v : SentInIbss) (b : List ℕ). owns (naming_at t v.dfs w) b) same_sent (sym sender ∙ ap (λ (v : SentInIbss). v.sender) same_sent)
              ∙ elsewhere)
          by (inr (own, (d, has, owner), other, sender)) =
              clash (sym (as_before_lem d (ap (λ (v : SentInIbss). v.dfs) (sym same_sent) ∙ has)) ∙ ap (owns w) owner ∙ other)

    -- ---- the latest that did, after this frame

    module _ (p : Mark) (before : MarkOf w p → LastRestarted s h p.0 p.1 p.2) where
      abbrev Goal : Type 0
      Goal = LastRestarted s (frame f ∷ h) p.0 p.1 p.2

      passes : ((a : List ℕ) (y : Bool) → Restarts s (frame f) h a y → ⊥) → MarkOf w p → Goal
      unfolding Latest
      passes none o = inr (none, before o)

      module _ (x : SentInIbss) (e : read_as s f ≡ Ok x) (told : Told) (in_beacon : x.sent.kind ≡ beacon told) (ours : foreign_to t w x ≡ false) where
        restarting : FromOwner s h x p.0 p.2 ⊎ NamesAnother s h x p.0 p.2 → t ≡ p.1 → Goal
        unfolding Latest
        restarting how g = inl (record { sent = x; accepts = (e, ours); told = told; in_beacon = in_beacon; how = how }, g)

        -- a beacon from the owner that stands
        from_owner : (v : Reigning) → naming_at t x.dfs w ≡ v → owns v x.sender ≡ true → MarkOf (heard_at t x.sender v) p → Goal
        from_owner nobody g y o = clash (sym y)
        from_owner (reigns r) g y o =
            let m : MarkOf (reigns (reign_of r.owner r.recovery t true)) p =
            subst (λ (b : Bool). MarkOf (reigns (pick b (reign_of r.owner r.recovery t true) r)) p) y o in
            let sender = same_is x.sender r.owner y ∙ m.0 in
            restarting
            (inl (sym m.2, sender, ap (λ (z : Reigning). owns z p.0) g ∙ ap (λ (a : List ℕ). same a r.owner) (sym sender) ∙ y))
            m.1

        -- one from elsewhere, by what its element 41 says
        from_elsewhere : (d : Option Dfs) → x.dfs ≡ d → (v : Reigning) → w ≡ v → owns (naming_at t d v) x.sender ≡ false → MarkOf (naming_at t d v) p → Goal
        from_elsewhere None g v u y o =
            passes
            (beacon_calm x e (ap₂ (λ (d : Option Dfs) (z : Reigning). owns (naming_at t d z) x.sender) g u ∙ y)
            (λ d has. absurd (let c : None ≡ Some d = sym g ∙ has in let q : ◌≡◌ {A = ℕ} 0 1 = cc in omega arith)))
            (subst (λ (z : Reigning). MarkOf z p) (sym u) o)
        from_elsewhere (Some d) g nobody u y o =
            restarting
            (inr (sym o.2, (d, g, o.0), ap (λ (z : Reigning). owns z p.0) u, ap (same x.sender) (sym o.0) ∙ y))
            o.1
        from_elsewhere (Some d) g (reigns r) u y o = by (same d.owner r.owner) refl o
          where
            by : (b : Bool) → same d.owner r.owner ≡ b
                → MarkOf (reigns (pick b (reign_of r.owner d.recovery r.since r.by_owner) (reign_of d.owner d.recovery t false))) p → Goal
            by true k m =
                passes
                (beacon_calm x e (ap₂ (λ (z : Option Dfs) (q : Reigning). owns (naming_at t z q) x.sender) g u ∙ y)
                (λ d' has. ap (λ (q : Reigning). owns q d'.owner) u ∙ ap (λ (a : List ℕ). same a r.owner) (sym (one_dfs d d' (sym g ∙ has))) ∙ k))
                (subst (λ (z : Reigning). MarkOf z p) (sym u) m)
            by false k m =
                restarting
                (inr (
                  sym m.2,
                  (d, g, m.0),
                  ap (λ (z : Reigning). owns z p.0) u ∙ ap (λ (a : List ℕ). same a r.owner) (sym m.0) ∙ k,
                  ap (same x.sender) (sym m.0) ∙ subst (λ (b : Bool). same x.sender (pick b (reign_of r.owner d.recovery r.since r.by_owner) (reign_of d.owner d.recovery t false)).owner ≡ false) k y,
                ))
                m.1

        by_sender : (b : Bool) → owns (naming_at t x.dfs w) x.sender ≡ b → MarkOf (heard_at t x.sender (naming_at t x.dfs w)) p → Goal
        by_sender true y o = from_owner (naming_at t x.dfs w) refl y o
        by_sender false y o = from_elsewhere x.dfs refl w refl y (unheard (naming_at t x.dfs w) y o)
          where
            unheard : (v : Reigning) → owns v x.sender ≡ false → MarkOf (heard_at t x.sender v) p → MarkOf v p
            unheard nobody k m = m
            unheard (reigns r) k m = subst (λ (b : Bool). MarkOf (reigns (pick b (reign_of r.owner r.recovery t true) r)) p) k m

      module _ (x : SentInIbss) (e : read_as s f ≡ Ok x) where
        by_kind : (k : Kind) → x.sent.kind ≡ k → foreign_to t w x ≡ false → MarkOf (after_kind t x k w) p → Goal
        by_kind (beacon told) y ours o = by_sender x e told y ours (owns (naming_at t x.dfs w) x.sender) refl o
        by_kind (probe_response told) y ours o = passes (no_beacon_calm x e (probe_response told) y (λ u z. let q : ◌≡◌ {A = ℕ} 0 1 = cc in omega arith)) o
        by_kind (action body) y ours o = passes (no_beacon_calm x e (action body) y (λ u z. let q : ◌≡◌ {A = ℕ} 0 1 = cc in omega arith)) o

        by_test_lem : (foreign : Bool) → foreign_to t w x ≡ foreign → MarkOf (pick foreign w (after_kind t x x.sent.kind w)) p → Goal
        by_test_lem true y o = passes (foreign_calm x e y) o
        by_test_lem false y o = by_kind x.sent.kind refl y o

      by_outcome : (o : Placed SentInIbss) → read_as s f ≡ o → MarkOf (after_frame t o w) p → Goal
      by_outcome (Err q) e o = passes (refused_calm q e) o
      by_outcome (Ok x) e o = by_test_lem x e (foreign_to t w x) refl o

  -- ---- whatever the calls

  -- the count is counted from the latest beacon that came from the owner or named another, and a TBTT is spared where it came from the owner
  pub last_restarted : (h : History) (p : Mark) → MarkOf (reigning s h) p → LastRestarted s h p.0 p.1 p.2
  unfolding reigning Latest
  last_restarted [] p o = absurd o
  last_restarted (frame f ∷ h) p o = by_outcome f h p (last_restarted h p) (read_as s f) refl o
  last_restarted (advance n ∷ h) p o = inr (λ a y z. z.accepts, last_restarted h p (by (too_far (clock_after h) n) o))
    where
      by : (far : Bool) → MarkOf (pick far (reigning s h) (over_units s.interval (clock_after h) n (reigning s h))) p → MarkOf (reigning s h) p
      by true x = x
      by false x = units_mark s.interval (clock_after h) n (reigning s h) p x
  last_restarted (ask n ∷ h) p o = inr (λ a y z. z.accepts, last_restarted h p o)
