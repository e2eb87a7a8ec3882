-- From what `frame::read_in_ibss` hands out to what the frame means to a station of an IBSS. Assumes nothing.
use Rattle.std.specs.Prelude.{is_some, Ok, Err, Some, None, Option, option_map}
use mathlib.Core.Bool.{Bool, true, false, not, ◌&&◌}
use mathlib.Core.List.{List}
use mathlib.Core.Logic.{◌⊎◌, inl, inr}
use mathlib.Core.Path.{◌≡◌, refl, sym, ap, ap₂, ◌∙◌, subst}
use Prim.Native.Nat.{ℕ, ◌≤◌}
use native.Mathlib.Omega.{arith}
use Rattle.answer.proofs.Booleans.{clash}
use Rattle.answer.proofs.Judged.{never}
use Rattle.answer.specs.Checks.{pick, checked, and_then}
use Rattle.answer.specs.Faults.{Placed, fault_nowhere, Verdict}
use Rattle.answer.specs.declared.Refusal.{Refusal}
use Rattle.beacon.specs.Beacons.{Told}
use Rattle.element.specs.IbssDfs.{Dfs, dfs_fields}
use Rattle.element.specs.declared.quiet.Quiet.{Quiet}
use Rattle.frame.specs.Actions.{requests, reports, tpc_request, tpc_report, switch}
use Rattle.frame.specs.Announcements.{announcement_in}
use Rattle.frame.proofs.Allowing.{received_allowed}
use Rattle.frame.proofs.FromAp.{ibss_allowed}
use Rattle.frame.proofs.IbssNames.{sent_names}
use Rattle.frame.specs.Allowed.{KindAllowed, ReceivedAllowed}
use Rattle.frame.specs.Frames.{Kind, beacon, probe_response, action, Sent}
use Rattle.frame.specs.IbssFrames.{SentInIbss, ibss_frame_means}
use Rattle.frame.specs.IbssLaid.{ibss_laid}
use Rattle.frame.specs.Laid.{received, frame_of, quiets_of, frame_laid}
use Rattle.frame.specs.declared.Received.{Received}
use Rattle.frame.specs.declared.ibss.ReceivedInIbss.{ReceivedInIbss}
use Rattle.owner.proofs.KeptFit.{named_fits, heard_fits}
use Rattle.owner.specs.Owners.{is_owner, heard_from, KeptFits}
use Rattle.owner.specs.declared.Owner.{Owner}
use Rattle.station.proofs.Received.{laid_means}
use Rattle.station.specs.Taking as StationTaking
use Rattle.station.specs.Taking.{heard, heard_of}
use Rattle.station.specs.declared.Station.{Station}
use Rattle.member.specs.CodeTerms.Readings.{announces, is_beacon, owner_named}
use Rattle.member.specs.Members.{member_of, named_by, heard_by, foreign_announcement, follows, taken}
use Rattle.member.specs.declared.Member.{Member}
use Rattle.member.specs.declared.taking.Taken.{Taken}

-- ---- what was read of each kind

module _ (to_all : Bool) (qs : List Quiet) where
  abbrev read_as : Kind → Placed Received
  read_as k = Ok (received (frame_of k) to_all qs)

  announces_as : (k : Kind) → announces (read_as k) ≡ is_some (announcement_in k)
  announces_as (beacon t) = refl
  announces_as (probe_response t) = refl
  announces_as (action (requests token rs)) = refl
  announces_as (action (reports token rs)) = refl
  announces_as (action (tpc_request token)) = refl
  announces_as (action (tpc_report token t)) = refl
  announces_as (action (switch w)) = refl

  heard_as : (o : Option Owner) (a : List ℕ) (k : Kind) → pick (is_beacon (read_as k)) (heard_from o a) o ≡ heard_by o a k
  heard_as o a (beacon t) = refl
  heard_as o a (probe_response t) = refl
  heard_as o a (action (requests token rs)) = refl
  heard_as o a (action (reports token rs)) = refl
  heard_as o a (action (tpc_request token)) = refl
  heard_as o a (action (tpc_report token t)) = refl
  heard_as o a (action (switch w)) = refl

is_sent : {x y : Sent} → ◌≡◌ {A = Placed Sent} (Ok x) (Ok y) → x ≡ y
is_sent e = cc

same_recovery : {d d' : Dfs} → Some d ≡ Some d' → d.recovery ≡ d'.recovery
same_recovery e = cc

module _ (m : Member) where
  -- ---- what the code asks and makes of it

  abbrev pub foreign_in : ReceivedInIbss → Bool
  foreign_in v = announces v.received && not (is_owner (owner_named m.owner v.dfs) v.sender)

  abbrev pub owner_after : ReceivedInIbss → Option Owner
  owner_after v = pick (is_beacon v.received) (heard_from (owner_named m.owner v.dfs) v.sender) (owner_named m.owner v.dfs)

  abbrev taken_as : Verdict → Member → Taken
  taken_as verdict next = record { verdict = verdict; member = next }

  named_as : (d : Option Dfs) → owner_named m.owner (option_map dfs_fields d) ≡ named_by m.owner d
  named_as None = refl
  named_as (Some d) = refl

  module _ (x : SentInIbss) where
    foreign_as : foreign_in (ibss_laid (Ok x)) ≡ foreign_announcement (named_by m.owner x.dfs) x
    foreign_as = ap₂ (λ (t : Bool) (o : Option Owner). t && not (is_owner o x.sender)) (announces_as x.sent.to_all (quiets_of x.sent.kind) x.sent.kind) (named_as x.dfs)

    owner_as_lem : owner_after (ibss_laid (Ok x)) ≡ heard_by (named_by m.owner x.dfs) x.sender x.sent.kind
    owner_as_lem =
        ap (λ (o : Option Owner). pick (is_beacon (frame_laid (Ok x.sent))) (heard_from o x.sender) o) (named_as x.dfs)
        ∙ heard_as x.sent.to_all (quiets_of x.sent.kind) (named_by m.owner x.dfs) x.sender x.sent.kind

    by_test_lem : (foreign : Bool) → foreign_announcement (named_by m.owner x.dfs) x ≡ foreign
        → taken m (and_then (Ok x) (follows m))
        ≡ pick foreign (taken_as (Err (fault_nowhere Refusal.ForeignAnnouncement)) m)
        (taken_as (Ok tt) (member_of (heard m.station x.sent.kind) (heard_by (named_by m.owner x.dfs) x.sender x.sent.kind)))
    unfolding checked
    by_test_lem true e = simp e
    by_test_lem false e = simp e

  -- ---- 23

  pub refused_as : (o : Placed SentInIbss) → foreign_in (ibss_laid o) ≡ true
      → taken_as (Err (fault_nowhere Refusal.ForeignAnnouncement)) m ≡ taken m (and_then o (follows m))
  refused_as (Err q) e = clash (sym e)
  refused_as (Ok x) e = sym (by_test_lem x true (sym (foreign_as x) ∙ e))

  -- ---- any other frame

  pub taken_as_lem : (o : Placed SentInIbss) → foreign_in (ibss_laid o) ≡ false
      → let t = heard_of m.station (ibss_laid o).received in
      taken_as t.verdict (member_of t.station (owner_after (ibss_laid o))) ≡ taken m (and_then o (follows m))
  taken_as_lem (Err q) e =
      ap (λ (y : Placed Station). let t = StationTaking.taken m.station y in taken_as t.verdict (member_of t.station m.owner)) (laid_means m.station (Err q))
  taken_as_lem (Ok x) e =
      ap₂ (λ (y : Placed Station) (o : Option Owner). let t = StationTaking.taken m.station y in taken_as t.verdict (member_of t.station o))
      (laid_means m.station (Ok x.sent)) (owner_as_lem x)
      ∙ sym (by_test_lem x false (sym (foreign_as x) ∙ e))

  -- ---- the owner still fits

  pub owner_fits_after : KeptFits m.owner → (o : Placed SentInIbss) → ((x : SentInIbss) → o ≡ Ok x → (d : Dfs) → x.dfs ≡ Some d → 1 ≤ d.recovery)
      → KeptFits (owner_after (ibss_laid o))
  owner_fits_after fits (Err q) some = fits
  owner_fits_after fits (Ok x) some =
      by (is_beacon (frame_laid (Ok x.sent))) (by_dfs x.dfs refl)
    where
      by_dfs : (d : Option Dfs) → x.dfs ≡ d → KeptFits (owner_named m.owner (option_map dfs_fields d))
      by_dfs None e = fits
      by_dfs (Some d) e = named_fits m.owner d.owner d.recovery fits (some x refl d e)

      by : (is-beacon : Bool) → KeptFits (owner_named m.owner (ibss_laid (Ok x)).dfs)
          → KeptFits (pick is-beacon (heard_from (owner_named m.owner (ibss_laid (Ok x)).dfs) x.sender) (owner_named m.owner (ibss_laid (Ok x)).dfs))
      by true f = heard_fits (owner_named m.owner (ibss_laid (Ok x)).dfs) x.sender f
      by false f = f

-- ---- what the reader hands out is allowed

module _ (own bss : List ℕ) (b : ℕ) (f : List ℕ) where
  pub laid_allowed : ReceivedAllowed b (ibss_laid (ibss_frame_means own bss b f)).received
  laid_allowed = by (ibss_frame_means own bss b f) refl
    where
      by : (o : Placed SentInIbss) → ibss_frame_means own bss b f ≡ o → ReceivedAllowed b (ibss_laid o).received
      by (Err q) e = received_allowed b (Err q) (λ x g. absurd (never g))
      by (Ok x) e = received_allowed b (Ok x.sent) (λ y g. subst (λ (z : Sent). KindAllowed b z.kind) (is_sent g) (ibss_allowed own bss b f x e))

  pub named_recovery : (x : SentInIbss) → ibss_frame_means own bss b f ≡ Ok x → (d : Dfs) → x.dfs ≡ Some d → 1 ≤ d.recovery
  named_recovery x e d y = by (sent_names own bss b f x e)
    where
      by : (x.dfs ≡ None) ⊎ ((told : Told) × (d' : Dfs) × (x.sent.kind ≡ beacon told) × (x.dfs ≡ Some d') × (1 ≤ d'.recovery)) → 1 ≤ d.recovery
      by (inl z) = absurd (let c : None ≡ Some d = sym z ∙ y in let q : ◌≡◌ {A = ℕ} 0 1 = cc in omega arith)
      by (inr (told, d', k, z, some)) = subst (λ (n : ℕ). 1 ≤ n) (same_recovery (sym z ∙ y)) some

-- the two ways out of a frame
pub ruleset ways = (refused_as, taken_as_lem)
