-- Where all frames come from one address and each announcement stands in a beacon that names it as the owner, a station of an IBSS answers as document 01's station does,
-- given the same bodies (02, Five). Assumes nothing.
use Rattle.std.specs.Prelude.{Ok, Err, Some, Option, is_some}
use mathlib.Core.Bool.{Bool, true, false, not, ◌&&◌}
use mathlib.Core.List.{List, [], ◌∷◌}
use mathlib.Core.Path.{◌≡◌, refl, sym, ap, ap₂, ◌∙◌, subst}
use Prim.Native.Nat.{ℕ}
use lib.ListN.{length}
use Rattle.answer.proofs.Judged.{never}
use Rattle.answer.specs.Checks.{Outcome, pick, and_then, Answer}
use Rattle.answer.specs.Faults.{Placed, fault_nowhere, Verdict}
use Rattle.answer.specs.declared.Refusal.{Refusal}
use Rattle.capture_record.specs.declared.entry.Settings.{Settings}
use Rattle.element.specs.IbssDfs.{Dfs}
use Rattle.frame.proofs.FromAp.{sound_from_ap}
use Rattle.frame.specs.Announcements.{announcement_in}
use Rattle.frame.specs.Frames.{Sent, frame_means}
use Rattle.frame.specs.IbssFrames.{SentInIbss}
use Rattle.header.proofs.Addresses.{same_self}
use Rattle.header.specs.Headers.{same, sa, from_ap}
use Rattle.octets.specs.Numbers.{bit, octet}
use Rattle.member.specs.Members as Members
use Rattle.member.specs.Members.{member_advances}
use Rattle.member.specs.declared.Member.{Member}
use Rattle.station.specs.Asking.{permission_of}
use Rattle.station.specs.Clock.{stepped, advance_means, advance_of}
use Rattle.station.specs.Taking.{taken, heard, take_means, take_of}
use Rattle.station.specs.declared.Station.{Station}
use Rattle.station.specs.declared.asking.Permission.{Permission}
use Rattle.claims.specs.Histories.{Call, frame, advance, ask, History, Throughout, clock_after}
use Rattle.claims.specs.MemberRecords.{member_after, verdict_told}
use Rattle.claims.specs.MemberRuns.{MemberTakes, MemberAdvances, MemberAsks, member}
use Rattle.claims.specs.OneAddress.{FromOne, CallFromOne, AllFromOne, all_from_ap}
use Rattle.claims.specs.Records.{record_from, record_after}
use Rattle.claims.specs.Reigns.{Reigning, nobody, reigns, reign_of, owns, naming_at, foreign_to, read_as, reigning}
use Rattle.claims.specs.Runs.{Made, calls_of, Ran}
use Rattle.claims.specs.StationRuns.{Said, Takes, Advances, Asks, station}
use Rattle.claims.proofs.Demand3 as Demand3
use Rattle.station.proofs.KeptThroughout.{KeptThroughout}
use Rattle.claims.proofs.MemberDemand3 as MemberDemand3
use Rattle.claims.proofs.MemberFollows.{member_follows, verdict_as}
use Rattle.claims.proofs.MemberMeans as MemberMeans
use Rattle.claims.proofs.StationFollows.{follows, kept}
use Rattle.claims.proofs.StationMeans as StationMeans

-- whom element 41 names is the owner then
named_owns : (t : ℕ) (d : Dfs) (w : Reigning) → owns (naming_at t (Some d) w) d.owner ≡ true
named_owns t d nobody = same_self d.owner
named_owns t d (reigns r) = by (same d.owner r.owner) refl
  where
    by : (b : Bool) → same d.owner r.owner ≡ b
        → same d.owner (pick b (reign_of r.owner d.recovery r.since r.by_owner) (reign_of d.owner d.recovery t false)).owner ≡ true
    by true e = e
    by false e = same_self d.owner

-- an advance is answered as the station answers it
step_answer : (m : Member) (n : ℕ) → (Members.advance_of m n).answer ≡ (advance_of m.station n).answer
unfolding member_advances
step_answer m n = by (advance_means m.station n)
  where
    by : (o : Outcome Station) → (Members.stepped m (and_then o (λ x. Ok (Members.member_of x (Members.owner_past m n))))).answer ≡ (stepped m.station o).answer
    by (Err r) = refl
    by (Ok x) = refl

module _ (s : Settings) where
  started : (member_after s []).station ≡ record_after s []
  unfolding member_after record_from
  started = refl

  -- ---- document 01's verdict on a frame

  abbrev by_ap : List ℕ → Placed Sent
  by_ap f = frame_means s.own s.ap s.interval (from_ap s.ap f)

  abbrev verdict_of : Placed Sent → Verdict
  verdict_of (Err q) = Err q
  verdict_of (Ok x) = Ok tt

  station_verdict : (h : History) (f : List ℕ) → (take_of (record_after s h) f).verdict ≡ verdict_of (frame_means s.own s.ap s.interval f)
  unfolding take_means
  station_verdict h f =
      ap (λ (z : KeptThroughout). (taken (record_after s h) (and_then (frame_means z.0 z.1 z.2 f) (λ x. Ok (heard (record_after s h) x.kind)))).verdict) (kept 0 s h)
      ∙ by (frame_means s.own s.ap s.interval f)
    where
      by : (o : Placed Sent) → (taken (record_after s h) (and_then o (λ x. Ok (heard (record_after s h) x.kind)))).verdict ≡ verdict_of o
      by (Err q) = refl
      by (Ok x) = refl

  module _ (a : List ℕ) (single : bit 0 (octet 0 a) ≡ false) (six : length s.ap ≡ 6) where
    -- ---- a frame from the address

    module _ (f : List ℕ) (one : FromOne s a f) where
      abbrev sent_by : Sent → SentInIbss
      sent_by x = record { sender = sa f; sent = x; dfs = one.dfs }

      read_alike : read_as s f ≡ and_then (by_ap f) (λ x. Ok (sent_by x))
      read_alike = sound_from_ap s.own s.ap six s.interval f one.dfs (subst (λ (z : List ℕ). bit 0 (octet 0 z) ≡ false) (sym one.from) single) one.sound

      -- it is never foreign
      ours : (t : ℕ) (w : Reigning) (x : Sent) → by_ap f ≡ Ok x → foreign_to t w (sent_by x) ≡ false
      ours t w x e = by (is_some (announcement_in x.kind)) refl
        where
          by : (b : Bool) → is_some (announcement_in x.kind) ≡ b → (b && not (owns (naming_at t one.dfs w) (sa f))) ≡ false
          by false g = refl
          by true g =
              let n = one.names_itself x e g in
              ap not
              (ap₂ (λ (d : Option Dfs) (z : List ℕ). owns (naming_at t d w) z) n.1 (one.from ∙ sym n.2) ∙ named_owns t n.0 w)

      -- after any calls the verdicts are the same
      verdict_alike : (h g : History) → (take_of (record_after s g) (from_ap s.ap f)).verdict ≡ (Members.take_of (member_after s h) f).verdict
      verdict_alike h g = station_verdict g (from_ap s.ap f) ∙ by (by_ap f) refl ∙ sym (verdict_as s f h)
        where
          by : (o : Placed Sent) → by_ap f ≡ o → verdict_of o ≡ verdict_told (clock_after h) (reigning s h) (read_as s f)
          by (Err q) e =
              ap (verdict_told (clock_after h) (reigning s h)) (sym (read_alike ∙ ap (λ (o : Placed Sent). and_then o (λ x. Ok (sent_by x))) e))
          by (Ok x) e =
              ap (λ (b : Bool). pick b (Err (fault_nowhere Refusal.ForeignAnnouncement)) (Ok tt)) (sym (ours (clock_after h) (reigning s h) x e))
              ∙ ap (verdict_told (clock_after h) (reigning s h)) (sym (read_alike ∙ ap (λ (o : Placed Sent). and_then o (λ x. Ok (sent_by x))) e))

      -- and so is what they leave
      left_alike : (h g : History) → (member_after s h).station ≡ record_after s g
          → (member_after s (frame f ∷ h)).station ≡ record_after s (frame (from_ap s.ap f) ∷ g)
      left_alike h g same = by (by_ap f) refl
        where
          by : (o : Placed Sent) → by_ap f ≡ o → (member_after s (frame f ∷ h)).station ≡ record_after s (frame (from_ap s.ap f) ∷ g)
          by (Err q) e =
              let unread : read_as s f ≡ Err q = read_alike ∙ ap (λ (o : Placed Sent). and_then o (λ x. Ok (sent_by x))) e in
              (member_follows s).ignores f h (λ k z. never (sym unread ∙ z.1.0)) ∙ same ∙ sym ((follows 0 s).ignores (from_ap s.ap f) g (λ k z. never (sym e ∙ z.1)))
          by (Ok x) e =
              let read : read_as s f ≡ Ok (sent_by x) = read_alike ∙ ap (λ (o : Placed Sent). and_then o (λ y. Ok (sent_by y))) e in
              (member_follows s).takes f h x.kind (sent_by x, (read, ours (clock_after h) (reigning s h) x e), refl)
              ∙ ap (λ (r : Station). heard r x.kind) same ∙ sym ((follows 0 s).takes (from_ap s.ap f) g x.kind (x.to_all, e))

    -- ---- whatever the calls

    pub stations_alike : (h : History) → Throughout (CallFromOne s a) h → (member_after s h).station ≡ record_after s (all_from_ap s h)
    unfolding Throughout
    stations_alike [] all = started
    stations_alike (frame f ∷ h) all = left_alike f all.0 h (all_from_ap s h) (stations_alike h all.1)
    stations_alike (advance n ∷ h) all =
        (member_follows s).advances n h ∙ ap (λ (r : Station). (advance_of r n).station) (stations_alike h all.1) ∙ sym ((follows 0 s).advances n (all_from_ap s h))
    stations_alike (ask n ∷ h) all = (member_follows s).asks n h ∙ stations_alike h all.1 ∙ sym ((follows 0 s).asks n (all_from_ap s h))

  -- ---- of the code's own runs

  module _
      (a : List ℕ)
      (ms ns : List (Made Call Said))
      (m : Member)
      (r : Station)
      (all : AllFromOne s a (calls_of ms))
      (ran : Ran member s ms m)
      (beside : Ran station s ns r)
      (same-bodies : calls_of ns ≡ all_from_ap s (calls_of ms))
    where
      -- document 01's station has the record of the same bodies from its AP
      from_ap_lem : r ≡ record_after s (all_from_ap s (calls_of ms))
      from_ap_lem = (Demand3.arrives s ns r beside).0 ∙ ap (record_after s) same-bodies

      -- the station inside is document 01's
      pub same_record : m.station ≡ r
      same_record =
          ap (λ (y : Member). y.station) (MemberDemand3.arrives s ms m ran).0
          ∙ stations_alike a all.individual all.bssid_length (calls_of ms) all.each
          ∙ sym from_ap_lem

      -- and so is every answer
      pub same_verdict : (f : List ℕ) → FromOne s a f → (v w : Verdict) (next : Member) (left : Station) → MemberTakes m f v next → Takes r (from_ap s.ap f) w left → v ≡ w
      same_verdict f one v w next left x y =
          (MemberMeans.takes_means x).0
          ∙ ap (λ (z : Member). (Members.take_of z f).verdict) (MemberDemand3.arrives s ms m ran).0
          ∙ sym (verdict_alike a all.individual all.bssid_length f one (calls_of ms) (all_from_ap s (calls_of ms)))
          ∙ ap (λ (z : Station). (take_of z (from_ap s.ap f)).verdict) (sym from_ap_lem)
          ∙ sym (StationMeans.takes_means y).0

      pub same_permission : (n : ℕ) (p q : Permission) → MemberAsks m n p → Asks r n q → p ≡ q
      same_permission n p q x y = MemberMeans.asks_means x ∙ ap (λ (z : Station). permission_of z n) same_record ∙ sym (StationMeans.asks_means y)

      pub same_step : (n : ℕ) (v w : Answer) (next : Member) (left : Station) → MemberAdvances m n v next → Advances r n w left → v ≡ w
      same_step n v w next left x y =
          (MemberMeans.advances_means x).0 ∙ step_answer m n ∙ ap (λ (z : Station). (advance_of z n).answer) same_record ∙ sym (StationMeans.advances_means y).0
