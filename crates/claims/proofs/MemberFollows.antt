-- A station of an IBSS hears what its reader accepts, but for announcements by any but the owner; its record follows what it hears, and its owner what the history
-- tells (02, Five). Assumes nothing.
use Rattle.std.specs.Prelude.{Ok, Err, Some, None, Option, is_some}
use mathlib.Core.Bool.{Bool, true, false, not, ◌&&◌}
use mathlib.Core.List.{List, [], ◌∷◌}
use mathlib.Core.Logic.{◌⊎◌, inl, inr}
use mathlib.Core.Path.{◌≡◌, refl, sym, ap, ap₂, ◌∙◌, subst}
use Prim.Native.Nat.{ℕ, ◌+◌}
use native.Mathlib.Omega.{arith}
use lib.Dec.{ltb}
use Rattle.answer.proofs.Booleans.{clash}
use Rattle.answer.proofs.Judged.{never}
use Rattle.answer.specs.Checks.{Outcome, pick, ◌⇒◌, checked, and_then}
use Rattle.answer.specs.Faults.{Placed, fault_nowhere}
use Rattle.answer.specs.declared.Refusal.{Refusal}
use Rattle.beacon.specs.Beacons.{Told}
use Rattle.capture_record.specs.declared.entry.Settings.{Settings}
use Rattle.frame.specs.Announcements.{announcement_in}
use Rattle.frame.specs.Allowed.{KindAllowed}
use Rattle.frame.specs.Frames.{Kind, beacon, probe_response, action}
use Rattle.frame.specs.IbssFrames.{SentInIbss, ibss_frame_means}
use Rattle.member.specs.Members.{member_of, named_by, heard_by, foreign_announcement, follows, member_takes, taken, take_of, stepped, owner_past, member_advances, advance_of}
use Rattle.member.specs.declared.Member.{Member}
use Rattle.owner.specs.Owners.{heard_from, past_tbtts}
use Rattle.owner.specs.Tbtts.{tbtts_in}
use Rattle.owner.specs.declared.Owner.{Owner}
use Rattle.station.specs.Clock as Clock
use Rattle.station.specs.Clock.{reached, clock_advance, advanced_to, advance_means}
use Rattle.station.specs.Taking.{heard}
use Rattle.station.specs.declared.Station.{Station}
use Rattle.station.specs.declared.clock.Advanced.{Advanced}
use Rattle.claims.specs.Histories.{Call, frame, advance, ask, History, too_far, clock_from, clock_after}
use Rattle.claims.specs.MemberRecords.{owner_told, verdict_told, member_after}
use Rattle.claims.specs.Reigns.{Reigning, over_units, naming_at, foreign_to, after_kind, after_frame, read_as, reigning, Accepts, ibss_listener}
use Rattle.claims.proofs.Following.{Sound, Follows}
use Rattle.claims.proofs.IbssReadings.{read_allowed, recovery_some, beacons_only}
use Rattle.station.proofs.KeptThroughout.{KeptThroughout, kept_by, heard_keeps, heard_clock, advance_keeps}
use Rattle.claims.proofs.OwnersTold.{Lasting, units_last, units_told, owns_told, naming_told, heard_told, naming_lasts, hearing_lasts}
use Rattle.claims.proofs.Same.{accepted_once}
use Rattle.pending.specs.declared.Switch.{Switch}
use Rattle.element.specs.IbssDfs.{Dfs}

-- ---- what it hears

module _ (s : Settings) where
  hears_one : (c : Call) (h : History) (x y : SentInIbss) → Accepts s c h x → Accepts s c h y → x ≡ y
  hears_one (frame f) h x y a b = accepted_once (sym a.0 ∙ b.0)
  hears_one (advance n) h x y a b = absurd a
  hears_one (ask n) h x y a b = absurd a

  abbrev Heard : Call → History → Kind → Type 0
  Heard c h k = (x : SentInIbss) × Accepts s c h x × (x.sent.kind ≡ k)

  hears_or_not : (c : Call) (h : History) → ((k : Kind) × Heard c h k) ⊎ ((k : Kind) → Heard c h k → ⊥)
  hears_or_not (frame f) h = by_outcome (read_as s f) refl
    where
      by_test_lem : (x : SentInIbss) → read_as s f ≡ Ok x → (foreign : Bool) → foreign_to (clock_after h) (reigning s h) x ≡ foreign
          → ((k : Kind) × Heard (frame f) h k) ⊎ ((k : Kind) → Heard (frame f) h k → ⊥)
      by_test_lem x e true y = inr (λ k z. clash (sym y ∙ ap (foreign_to (clock_after h) (reigning s h)) (accepted_once (sym e ∙ z.1.0)) ∙ z.1.1))
      by_test_lem x e false y = inl (x.sent.kind, (x, (e, y), refl))

      by_outcome : (o : Placed SentInIbss) → read_as s f ≡ o → ((k : Kind) × Heard (frame f) h k) ⊎ ((k : Kind) → Heard (frame f) h k → ⊥)
      by_outcome (Err q) e = inr (λ k z. never (sym e ∙ z.1.0))
      by_outcome (Ok x) e = by_test_lem x e (foreign_to (clock_after h) (reigning s h) x) refl
  hears_or_not (advance n) h = inr (λ k z. z.1)
  hears_or_not (ask n) h = inr (λ k z. z.1)

  hears_allowed : (c : Call) (h : History) (k : Kind) → Heard c h k → KindAllowed s.interval k
  hears_allowed (frame f) h k (x, a, e) = subst (KindAllowed s.interval) e (read_allowed s f x a.0)
  hears_allowed (advance n) h k (x, a, e) = absurd a
  hears_allowed (ask n) h k (x, a, e) = absurd a

  pub sound : Sound (ibss_listener s)
  sound =
      record {
        advance_unheard = λ n h k z. z.1;
        ask_unheard = λ n h k z. z.1;
        one_kind = λ c h k k' y z. sym y.2 ∙ ap (λ (x : SentInIbss). x.sent.kind) (hears_one c h y.0 z.0 y.1 z.1) ∙ z.2;
        decided = hears_or_not;
        allowed = hears_allowed;
      }

-- ---- what each call makes of it

-- an advance: the station's own, and the TBTTs among the units that the clock goes on by
module _ (m : Member) (n : ℕ) where
  abbrev r : Station
  r = m.station

  abbrev AdvancesBy : Bool → Outcome Station → Type 0
  AdvancesBy far o =
      ((stepped m (and_then o (λ next. Ok (member_of next (owner_past m n))))).member
      ≡ member_of (Clock.stepped r o).station (pick far m.owner (owner_past m n)))
      × ((Clock.stepped r o).station.clock ≡ pick far r.clock (r.clock + n))
      × ((stepped m (and_then o (λ next. Ok (member_of next (owner_past m n))))).answer ≡ pick far (Err Refusal.PastClock) (Ok tt))

  advance_parts :
      ((advance_of m n).member ≡ member_of (Clock.advance_of r n).station (pick (too_far r.clock n) m.owner (owner_past m n)))
      × ((Clock.advance_of r n).station.clock ≡ pick (too_far r.clock n) r.clock (r.clock + n))
      × ((advance_of m n).answer ≡ pick (too_far r.clock n) (Err Refusal.PastClock) (Ok tt))
  unfolding member_advances advance_means clock_advance checked
  advance_parts = by_test_lem (too_far r.clock n)
    where
      by_switch : (coming : Bool) (channel : ℕ) → AdvancesBy false (Ok (advanced_to r (pick coming (Advanced.Goes (r.clock + n)) (Advanced.Switches (r.clock + n) channel))))
      by_switch true channel = (refl, refl, refl)
      by_switch false channel = (refl, refl, refl)

      by_pending : (p : Option Switch) → AdvancesBy false (Ok (advanced_to r (reached (r.clock + n) p)))
      by_pending None = (refl, refl, refl)
      by_pending (Some q) = by_switch (ltb (r.clock + n) q.at) q.channel

      by_test_lem : (far : Bool) → AdvancesBy far (and_then (pick far (Err Refusal.PastClock) (Ok (reached (r.clock + n) r.pending))) (λ a. Ok (advanced_to r a)))
      by_test_lem true = (refl, refl, refl)
      by_test_lem false = by_pending r.pending

-- what the outcome of reading a frame makes of it
abbrev leaves : Member → Placed SentInIbss → Member
leaves m o = (taken m (and_then o (follows m))).member

-- and a frame that is read: 23, or it is heard
abbrev hearing : Member → SentInIbss → Bool → Member
hearing m x foreign =
    pick foreign m (member_of (heard m.station x.sent.kind) (heard_by (named_by m.owner x.dfs) x.sender x.sent.kind))

leaves_read : (m : Member) (x : SentInIbss) → leaves m (Ok x) ≡ hearing m x (foreign_announcement (named_by m.owner x.dfs) x)
unfolding checked
leaves_read m x = by (foreign_announcement (named_by m.owner x.dfs) x)
  where
    next : Member
    next = member_of (heard m.station x.sent.kind) (heard_by (named_by m.owner x.dfs) x.sender x.sent.kind)

    by : (foreign : Bool) → (taken m (checked (foreign ⇒ fault_nowhere Refusal.ForeignAnnouncement ∷ []) (Ok next))).member ≡ pick foreign m next
    by true = refl
    by false = refl

-- the verdict on it
verdict_read : (m : Member) (x : SentInIbss)
    → (taken m (and_then (Ok x) (follows m))).verdict
    ≡ pick (foreign_announcement (named_by m.owner x.dfs) x) (Err (fault_nowhere Refusal.ForeignAnnouncement)) (Ok tt)
unfolding checked
verdict_read m x = by (foreign_announcement (named_by m.owner x.dfs) x)
  where
    next : Member
    next = member_of (heard m.station x.sent.kind) (heard_by (named_by m.owner x.dfs) x.sender x.sent.kind)

    by : (foreign : Bool)
        → (taken m (checked (foreign ⇒ fault_nowhere Refusal.ForeignAnnouncement ∷ []) (Ok next))).verdict
        ≡ pick foreign (Err (fault_nowhere Refusal.ForeignAnnouncement)) (Ok tt)
    by true = refl
    by false = refl

-- ---- whatever the calls

module _ (s : Settings) where
  -- the settings stay, the clock is the history's, and the owner is the one that the history tells of
  pub record Tells (h : History) : Type 0 where
    pub settings : kept_by (member_after s h).station ≡ (s.own, s.ap, s.interval)
    pub clock : (member_after s h).station.clock ≡ clock_after h
    pub lasting : Lasting (reigning s h) (clock_after h)
    pub owner : (member_after s h).owner ≡ owner_told s.interval (clock_after h) (reigning s h)

  at_start : Tells []
  unfolding member_after reigning clock_from
  at_start = record { settings = refl; clock = refl; lasting = tt; owner = refl }

  -- ---- a frame

  module _ (f : List ℕ) (h : History) (t : Tells h) where
    abbrev m : Member
    m = member_after s h

    abbrev w : Reigning
    w = reigning s h

    taken_as_lem : (o : Placed SentInIbss) → read_as s f ≡ o → member_after s (frame f ∷ h) ≡ leaves m o
    unfolding member_after member_takes
    taken_as_lem o e = ap (leaves m) (ap (λ (z : KeptThroughout). ibss_frame_means z.0 z.1 z.2 f) t.settings ∙ e)

    reigns_as : (o : Placed SentInIbss) → read_as s f ≡ o → reigning s (frame f ∷ h) ≡ after_frame (clock_after h) o w
    unfolding reigning
    reigns_as o e = ap (λ (z : Placed SentInIbss). after_frame (clock_after h) z w) e

    same_clock : clock_after (frame f ∷ h) ≡ clock_after h
    unfolding clock_from
    same_clock = refl

    -- the frame leaves this record and this owner
    leaving : (next : Member) (v : Reigning) → member_after s (frame f ∷ h) ≡ next → reigning s (frame f ∷ h) ≡ v → kept_by next.station ≡ kept_by m.station
        → next.station.clock ≡ m.station.clock → Lasting v (clock_after h) → next.owner ≡ owner_told s.interval (clock_after h) v → Tells (frame f ∷ h)
    leaving next v e g kept clock lasting owner =
        record {
          settings = ap (λ (x : Member). kept_by x.station) e ∙ kept ∙ t.settings;
          clock = ap (λ (x : Member). x.station.clock) e ∙ clock ∙ t.clock ∙ sym same_clock;
          lasting = subst (λ (z : Reigning × ℕ). Lasting z.0 z.1) (ap₂ (λ (a : Reigning) (b : ℕ). (a, b)) (sym g) (sym same_clock)) lasting;
          owner =
              ap (λ (x : Member). x.owner) e ∙ owner
              ∙ ap₂ (λ (a : Reigning) (b : ℕ). owner_told s.interval b a) (sym g) (sym same_clock);
        }

    -- a refused one leaves both as they were
    unheard : member_after s (frame f ∷ h) ≡ m → reigning s (frame f ∷ h) ≡ w → Tells (frame f ∷ h)
    unheard e g = leaving m w e g refl refl t.lasting t.owner

    module _ (x : SentInIbss) (e : read_as s f ≡ Ok x) where
      -- the owner by which the announcement is judged, and whether it is foreign
      named_as : named_by m.owner x.dfs ≡ owner_told s.interval (clock_after h) (naming_at (clock_after h) x.dfs w)
      named_as = ap (λ (o : Option Owner). named_by o x.dfs) t.owner ∙ sym (naming_told s.interval (clock_after h) w x.dfs)

      same_test : foreign_announcement (named_by m.owner x.dfs) x ≡ foreign_to (clock_after h) w x
      same_test =
          ap (λ (o : Option Owner). foreign_announcement o x) named_as
          ∙ ap (λ (b : Bool). is_some (announcement_in x.sent.kind) && not b) (sym (owns_told s.interval (clock_after h) (naming_at (clock_after h) x.dfs w) x.sender))

      heard_as : (foreign : Bool) → foreign_to (clock_after h) w x ≡ foreign → member_after s (frame f ∷ h) ≡ hearing m x foreign
      heard_as foreign y = taken_as_lem (Ok x) e ∙ leaves_read m x ∙ ap (hearing m x) (same_test ∙ y)

      reigning_as : (foreign : Bool) → foreign_to (clock_after h) w x ≡ foreign → reigning s (frame f ∷ h) ≡ pick foreign w (after_kind (clock_after h) x x.sent.kind w)
      reigning_as foreign y = reigns_as (Ok x) e ∙ ap (λ (b : Bool). pick b w (after_kind (clock_after h) x x.sent.kind w)) y

      naming_lasting : (d : Option Dfs) → x.dfs ≡ d → Lasting (naming_at (clock_after h) d w) (clock_after h)
      naming_lasting None y = t.lasting
      naming_lasting (Some d) y = naming_lasts s.interval (clock_after h) w d (recovery_some s f x e d y) t.lasting

      kind_lasting : (k : Kind) → Lasting (after_kind (clock_after h) x k w) (clock_after h)
      kind_lasting (beacon told) = hearing_lasts s.interval (clock_after h) (naming_at (clock_after h) x.dfs w) x.sender (naming_lasting x.dfs refl)
      kind_lasting (probe_response told) = t.lasting
      kind_lasting (action body) = t.lasting

      -- only a beacon has an element 41 that is read
      module _ (beacons_only : (k : Kind) → x.sent.kind ≡ k → ((told : Told) → k ≡ beacon told → ⊥) → x.dfs ≡ None) where
        kind_owner : (k : Kind) → x.sent.kind ≡ k
            → heard_by (named_by m.owner x.dfs) x.sender k ≡ owner_told s.interval (clock_after h) (after_kind (clock_after h) x k w)
        kind_owner (beacon told) y =
            ap (λ (o : Option Owner). heard_from o x.sender) named_as
            ∙ sym (heard_told s.interval (clock_after h) (naming_at (clock_after h) x.dfs w) x.sender)
        kind_owner (probe_response told) y =
            ap (named_by m.owner) (beacons_only (probe_response told) y (λ u z. let q : ◌≡◌ {A = ℕ} 0 1 = cc in omega arith)) ∙ t.owner
        kind_owner (action body) y = ap (named_by m.owner) (beacons_only (action body) y (λ u z. let q : ◌≡◌ {A = ℕ} 0 1 = cc in omega arith)) ∙ t.owner

        by_test_lem : (foreign : Bool) → foreign_to (clock_after h) w x ≡ foreign → Tells (frame f ∷ h)
        by_test_lem true y = unheard (heard_as true y) (reigning_as true y)
        by_test_lem false y =
            leaving _ _ (heard_as false y) (reigning_as false y) (heard_keeps m.station x.sent.kind) (heard_clock m.station x.sent.kind)
            (kind_lasting x.sent.kind) (kind_owner x.sent.kind refl)

    by_outcome : (o : Placed SentInIbss) → read_as s f ≡ o → Tells (frame f ∷ h)
    by_outcome (Err q) e = unheard (taken_as_lem (Err q) e) (reigns_as (Err q) e)
    by_outcome (Ok x) e = by_test_lem x e (beacons_only s f x e) (foreign_to (clock_after h) w x) refl

  -- ---- an advance

  module _ (n : ℕ) (h : History) (t : Tells h) where
    abbrev m' : Member
    m' = member_after s h

    far_as : too_far m'.station.clock n ≡ too_far (clock_after h) n
    far_as = ap (λ (u : ℕ). too_far u n) t.clock

    interval_as : m'.station.interval ≡ s.interval
    interval_as = ap (λ (z : KeptThroughout). z.2) t.settings

    past_as : owner_past m' n ≡ owner_told s.interval (clock_after h + n) (over_units s.interval (clock_after h) n (reigning s h))
    past_as =
        ap₂ (λ (b u : ℕ). past_tbtts (tbtts_in b u n) m'.owner) interval_as t.clock
        ∙ ap (past_tbtts (tbtts_in s.interval (clock_after h) n)) t.owner
        ∙ sym (units_told s.interval (reigning s h) (clock_after h) n t.lasting)

    advancing : Tells (advance n ∷ h)
    unfolding member_after reigning clock_from
    advancing =
        let p = advance_parts m' n in
        record {
          settings = ap (λ (x : Member). kept_by x.station) p.0 ∙ advance_keeps m'.station n ∙ t.settings;
          clock =
              ap (λ (x : Member). x.station.clock) p.0 ∙ p.1 ∙ ap₂ (λ (b : Bool) (u : ℕ). pick b u (u + n)) far_as t.clock;
          lasting = by_lasting (too_far (clock_after h) n);
          owner = ap (λ (x : Member). x.owner) p.0 ∙ ap (λ (b : Bool). pick b m'.owner (owner_past m' n)) far_as ∙ by_owner (too_far (clock_after h) n);
        }
      where
        by_lasting : (far : Bool)
            → Lasting (pick far (reigning s h) (over_units s.interval (clock_after h) n (reigning s h))) (pick far (clock_after h) (clock_after h + n))
        by_lasting true = t.lasting
        by_lasting false = units_last s.interval (reigning s h) (clock_after h) n t.lasting

        by_owner : (far : Bool)
            → pick far m'.owner (owner_past m' n)
            ≡ owner_told s.interval (pick far (clock_after h) (clock_after h + n)) (pick far (reigning s h) (over_units s.interval (clock_after h) n (reigning s h)))
        by_owner true = t.owner
        by_owner false = past_as

  asking : (n : ℕ) (h : History) → Tells h → Tells (ask n ∷ h)
  unfolding member_after reigning clock_from
  asking n h t = record { settings = t.settings; clock = t.clock; lasting = t.lasting; owner = t.owner }

  pub tells : (h : History) → Tells h
  tells [] = at_start
  tells (frame f ∷ h) = by_outcome f h (tells h) (read_as s f) refl
  tells (advance n ∷ h) = advancing n h (tells h)
  tells (ask n ∷ h) = asking n h (tells h)

  -- ---- an advance is refused exactly where it goes too far

  pub step_as : (n : ℕ) (h : History) → (advance_of (member_after s h) n).answer ≡ pick (too_far (clock_after h) n) (Err Refusal.PastClock) (Ok tt)
  step_as n h =
      (advance_parts (member_after s h) n).2
      ∙ ap (λ (u : ℕ). pick (too_far u n) (Err Refusal.PastClock) (Ok tt)) (tells h).clock

  -- ---- the verdict on a frame is the one that the history tells of

  pub verdict_as : (f : List ℕ) (h : History) → (take_of (member_after s h) f).verdict ≡ verdict_told (clock_after h) (reigning s h) (read_as s f)
  unfolding member_takes
  verdict_as f h =
      ap (λ (z : KeptThroughout). (taken (member_after s h) (and_then (ibss_frame_means z.0 z.1 z.2 f) (follows (member_after s h)))).verdict) (tells h).settings
      ∙ by (read_as s f) refl
    where
      by : (o : Placed SentInIbss) → read_as s f ≡ o → (taken (member_after s h) (and_then o (follows (member_after s h)))).verdict ≡ verdict_told (clock_after h) (reigning s h) o
      by (Err q) e = refl
      by (Ok x) e =
          verdict_read (member_after s h) x
          ∙ ap (λ (b : Bool). pick b (Err (fault_nowhere Refusal.ForeignAnnouncement)) (Ok tt)) (same_test f h (tells h) x e)

  -- ---- the record follows what is heard

  ignored : (f : List ℕ) (h : History) → ((k : Kind) → Heard s (frame f) h k → ⊥) → (member_after s (frame f ∷ h)).station ≡ (member_after s h).station
  ignored f h none = by_outcome' (read_as s f) refl
    where
      by_test' : (x : SentInIbss) → read_as s f ≡ Ok x → (foreign : Bool) → foreign_to (clock_after h) (reigning s h) x ≡ foreign
          → (member_after s (frame f ∷ h)).station ≡ (member_after s h).station
      by_test' x e true y = ap (λ (m : Member). m.station) (heard_as f h (tells h) x e true y)
      by_test' x e false y = absurd (none x.sent.kind (x, (e, y), refl))

      by_outcome' : (o : Placed SentInIbss) → read_as s f ≡ o → (member_after s (frame f ∷ h)).station ≡ (member_after s h).station
      by_outcome' (Err q) e = ap (λ (m : Member). m.station) (taken_as_lem f h (tells h) (Err q) e)
      by_outcome' (Ok x) e = by_test' x e (foreign_to (clock_after h) (reigning s h) x) refl

  taking : (f : List ℕ) (h : History) (k : Kind) → Heard s (frame f) h k → (member_after s (frame f ∷ h)).station ≡ heard (member_after s h).station k
  taking f h k (x, (e, y), is_kind) =
      ap (λ (m : Member). m.station) (heard_as f h (tells h) x e false y) ∙ ap (heard (member_after s h).station) is_kind

  pub member_follows : Follows (ibss_listener s) (λ h. (member_after s h).station)
  unfolding member_after
  member_follows =
      record {
        sound = sound s;
        starts = (s.own, s.ap, refl);
        takes = taking;
        ignores = ignored;
        advances = λ n h. ap (λ (m : Member). m.station) (advance_parts (member_after s h) n).0;
        asks = λ n h. refl;
      }
