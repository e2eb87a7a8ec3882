-- Demand 3 for a station of an IBSS, of the code: whatever calls were made after an accepted start, refused ones among them, the record is the one that the history
-- speaks of, owner, interval, count and flag included, and each frame and each question is answered as the history says (02, Five). Assumes nothing.
use Rattle.std.specs.Prelude.{Ok, Err, Some, None, Option}
use mathlib.Core.List.{List, [], ◌∷◌}
use mathlib.Core.Logic.{inl, inr, ◌↔◌}
use mathlib.Core.Path.{◌≡◌, refl, sym, ap, ap₂, ◌∙◌, subst}
use Prim.Native.Nat.{ℕ, ◌≤◌}
use native.Mathlib.Omega.{arith}
use Rattle.answer.specs.Checks.{pick, Answer}
use Rattle.answer.specs.Faults.{Placed, Verdict}
use Rattle.answer.specs.declared.Fault.{Fault}
use Rattle.answer.specs.declared.Refusal.{Refusal}
use Rattle.capture_record.specs.declared.entry.Settings.{Settings}
use Rattle.element.specs.declared.channel_switch.ChannelSwitch.{ChannelSwitch}
use Rattle.member.specs.Members.{member_of, member_takes, taken, take_of, advance_of}
use Rattle.member.specs.Validity.{ValidMember}
use Rattle.member.specs.declared.Member.{Member}
use Rattle.station.specs.Asking.{permission_number}
use Rattle.station.specs.declared.asking.Permission.{Permission}
use Rattle.claims.specs.Histories.{Call, History, too_far, clock_after, Latest, Throughout}
use Rattle.claims.specs.MemberRecords.{verdict_told, member_after, MemberAgrees}
use Rattle.claims.specs.MemberRuns.{MemberTakes, MemberAdvances, MemberAsks, member}
use Rattle.claims.specs.Naming.{NeverNamed}
use Rattle.claims.specs.OpenUnits.{AllOpen, Applies}
use Rattle.claims.specs.Reigns.{read_as, reigning, ibss_listener}
use Rattle.claims.specs.Runs.{Made, calls_of, Ran}
use Rattle.claims.specs.Standing.{LastAnnounced, Switches, at_once_lem, reached, NoSwitch, ChannelIs, PendingIs}
use Rattle.claims.specs.StationRuns.{Said}
use Rattle.claims.proofs.Agreement.{agreeing}
use Rattle.claims.proofs.Asked.{answered, granted_open}
use Rattle.station.proofs.KeptThroughout.{KeptThroughout}
use Rattle.claims.proofs.MemberFollows.{tells, step_as, verdict_as, member_follows, sound}
use Rattle.claims.proofs.MemberMeans.{recorded, takes_means, advances_means, asks_means, member_meets}
use Rattle.claims.proofs.OneRecord.{alike, same_station}
use Rattle.claims.proofs.OwnersNamed.{none_obeyed}
use Rattle.claims.proofs.RunsMeant.{as_meant}
use Rattle.pending.specs.declared.Switch.{Switch}

module _ (s : Settings) where
  module _ (ms : List (Made Call Said)) (m : Member) (ran : Ran member s ms m) where
    abbrev h : History
    h = calls_of ms

    -- the functions, run call by call, arrive at the record that the history speaks of, and it is valid
    pub arrives : (m ≡ member_after s h) × ValidMember m
    arrives = let w = (as_meant (member_meets s) ran).stands in (w.0 ∙ recorded s h, w.1)

    -- an accepted start has an interval
    interval_positive : 1 ≤ s.interval
    interval_positive =
        omega
        (arith, ap (λ (z : Member). z.station.interval) arrives.0, ap (λ (z : KeptThroughout). z.2) (tells s h).settings, arrives.1.station_valid.interval_positive)

    pub valid : ValidMember m
    valid = arrives.1

    -- every field is what the history says
    pub agreed : MemberAgrees s h m
    agreed =
        subst (MemberAgrees s h) (sym arrives.0)
        (record {
          same_own = ap (λ (z : KeptThroughout). z.0) (tells s h).settings;
          same_bssid = ap (λ (z : KeptThroughout). z.1) (tells s h).settings;
          as_heard = agreeing (ibss_listener s) (λ g. (member_after s g).station) (member_follows s) interval_positive h;
          owner_told_lem = (tells s h).owner;
        })

    -- each answer to a question is given exactly where the history says so
    pub asked : (n : ℕ) (p q : Permission) → MemberAsks m n p → (p ≡ q) ↔ Applies (ibss_listener s) h n q
    asked n p q x =
        let w = answered (ibss_listener s) (sound s) interval_positive h m.station agreed.as_heard n q in
        (λ e. w.0 (sym (asks_means x) ∙ e), λ y. asks_means x ∙ w.1 y)

    -- a question to send for 1 to 65,535 TU is granted exactly if each unit that it would cover is open
    pub granted : (n : ℕ) → 1 ≤ n → n ≤ 65535 → (p : Permission) → MemberAsks m n p → (permission_number p ≡ 0) ↔ AllOpen (ibss_listener s) h n
    granted n lo hi p x =
        subst (λ (q : Permission). (permission_number q ≡ 0) ↔ AllOpen (ibss_listener s) h n) (sym (asks_means x))
        (granted_open (ibss_listener s) (sound s) interval_positive h m.station agreed.as_heard n lo hi)

    -- each verdict on a frame is the one that the history says
    pub judged : (f : List ℕ) (v : Verdict) (next : Member) → MemberTakes m f v next → v ≡ verdict_told (clock_after h) (reigning s h) (read_as s f)
    judged f v next x = (takes_means x).0 ∙ ap (λ (y : Member). (take_of y f).verdict) arrives.0 ∙ verdict_as s f h

    -- each advance is answered as the history says: 14 where it goes too far, else 0
    pub stepped : (n : ℕ) (r : Answer) (next : Member) → MemberAdvances m n r next → r ≡ pick (too_far (clock_after h) n) (Err Refusal.PastClock) (Ok tt)
    stepped n r next x = (advances_means x).0 ∙ ap (λ (y : Member). (advance_of y n).answer) arrives.0 ∙ step_as s n h

    -- a frame that is refused, with whatever number, changes nothing
    pub refused_same : (f : List ℕ) (q : Fault) (next : Member) → MemberTakes m f (Err q) next → next ≡ m
    refused_same f q next x = let w = takes_means x in w.1 ∙ by (member_takes m f) (sym w.0)
      where
        by : (o : Placed Member) → (taken m o).verdict ≡ Err q → (taken m o).member ≡ m
        by (Err y) e = refl
        by (Ok y) e = absurd (let z : ◌≡◌ {A = ℕ} 0 1 = cc in omega arith)

  -- one history has one record
  pub one_member : 1 ≤ s.interval → (h : History) (m m' : Member) → ValidMember m → ValidMember m' → MemberAgrees s h m → MemberAgrees s h m' → m ≡ m'
  one_member pos h m m' v v' a a' =
      ap₂ member_of
      (same_station m.station m'.station (a.same_own ∙ sym a'.same_own) (a.same_bssid ∙ sym a'.same_bssid)
      (alike (ibss_listener s) (sound s) pos h m.station m'.station v.station_valid v'.station_valid a.as_heard a'.as_heard))
      (a.owner_told_lem ∙ sym a'.owner_told_lem)

  -- ---- where element 41 is never heard, no announcement is obeyed

  never_announced : (h : History) (at : ℕ) (w : ChannelSwitch) → NeverNamed s h → LastAnnounced (ibss_listener s) h at w → ⊥
  unfolding Latest Throughout
  never_announced [] at w none x = x
  never_announced (c ∷ h) at w none (inl x) = none_obeyed s c h w none x.0
  never_announced (c ∷ h) at w none (inr x) = never_announced h at w none.1 x.1

  never_switches : (c : Call) (h : History) (w : ChannelSwitch) → NeverNamed s (c ∷ h) → Switches (ibss_listener s) c h w → ⊥
  unfolding Throughout
  never_switches c h w none (at_once_lem a e) = none_obeyed s c h w none a
  never_switches c h w none (reached at x le) = never_announced h at w none.1 x.0

  never_switched : (h : History) (n : ℕ) → NeverNamed s h
      → Latest (NoSwitch (ibss_listener s)) (λ c g. (w : ChannelSwitch) × Switches (ibss_listener s) c g w × (n ≡ w.channel)) h → ⊥
  unfolding Latest Throughout
  never_switched [] n none x = x
  never_switched (c ∷ h) n none (inl (w, x, e)) = never_switches c h w none x
  never_switched (c ∷ h) n none (inr x) = never_switched h n none.1 x.1

  pub never_obeys : (ms : List (Made Call Said)) (m : Member) → Ran member s ms m → NeverNamed s (calls_of ms) → (m.station.channel ≡ s.channel) × (m.station.pending ≡ None)
  never_obeys ms m ran none =
      let a = (agreed ms m ran).as_heard in
      (by_channel a.channel_told, by_pending m.station.pending a.pending_told)
    where
      by_channel : ChannelIs (ibss_listener s) (calls_of ms) m.station.channel → m.station.channel ≡ s.channel
      by_channel (inl x) = x.1
      by_channel (inr x) = absurd (never_switched (calls_of ms) m.station.channel none x)

      by_pending : (p : Option Switch) → PendingIs (ibss_listener s) (calls_of ms) p → p ≡ None
      by_pending None x = refl
      by_pending (Some q) (w, x, mode, channel) = absurd (never_announced (calls_of ms) q.at w none x.0)
