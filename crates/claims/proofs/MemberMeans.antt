-- What a call of a station of an IBSS answers and leaves, by its meaning, and so any calls of a run (02, Five). Assumes nothing.
use Rattle.std.specs.Prelude.{Ok, Err, Some, None, Option}
use mathlib.Core.Bool.{Bool, true, false}
use mathlib.Core.List.{List, [], ◌∷◌}
use mathlib.Core.Path.{◌≡◌, refl, sym, ap, ◌∙◌, subst}
use Prim.Native.Nat.{ℕ, zero, suc, ◌+◌}
use lib.Dec.{leb}
use Rattle.answer.proofs.Booleans.{clash}
use Rattle.answer.proofs.Judged.{never}
use Rattle.answer.specs.Checks.{Outcome, pick, and_then, Answer}
use Rattle.answer.specs.Faults.{Placed, Verdict}
use Rattle.capture_record.specs.declared.entry.Settings.{Settings}
use Rattle.frame.specs.IbssFrames.{SentInIbss, ibss_frame_means}
use Rattle.frame.specs.IbssLaid.{ibss_laid}
use Rattle.member.proofs.Following.{foreign_in, refused_as, taken_as_lem, owner_fits_after, laid_allowed, named_recovery}
use Rattle.member.specs.Members.{member_of, follows, member_takes, taken, take_of, stepped, owner_past, member_advances, advance_of, start_of}
use Rattle.member.specs.Validity.{ValidMember}
use Rattle.member.specs.declared.Member.{Member}
use Rattle.member.specs.declared.clock.Stepped.{Stepped}
use Rattle.member.specs.declared.taking.Taken.{Taken}
use Rattle.owner.specs.Owners.{missing, at_tbtt, past_tbtts, KeptFits}
use Rattle.owner.specs.Tbtts.{tbtts_in}
use Rattle.owner.specs.declared.Owner.{Owner}
use Rattle.station.proofs.Received.{valid_heard}
use Rattle.station.specs.Asking.{permission_of}
use Rattle.station.specs.Clock.{advance_means, stepped as station_stepped}
use Rattle.station.specs.Starting.{start_means}
use Rattle.station.specs.Validity.{Valid}
use Rattle.station.specs.declared.Station.{Station}
use Rattle.station.specs.declared.asking.Permission.{Permission}
use Rattle.claims.specs.Histories.{Call, frame, advance, ask, History}
use Rattle.claims.specs.MemberRecords.{member_after}
use Rattle.claims.specs.MemberRuns.{MemberStarts, MemberTakes, MemberAdvances, MemberAsks, MemberDoes, member}
use Rattle.claims.specs.Records.{record_from}
use Rattle.claims.specs.StationRuns.{Said, answered, judged, asked}
use Rattle.claims.proofs.RunsMeant.{Meaning, kept_after, Meant, Exactly, Meets, meets_exactly}
use Rattle.claims.proofs.Same.{accepted_once}
use Rattle.claims.proofs.StationMeans.{valid_advance as station_advance, is_fresh}

-- ---- what each call means

abbrev said_by : Member → Call → Said
said_by m (frame f) = judged (take_of m f).verdict
said_by m (advance n) = answered (advance_of m n).answer
said_by m (ask n) = asked (Ok (permission_of m.station n))

abbrev left_by : Member → Call → Member
left_by m (frame f) = (take_of m f).member
left_by m (advance n) = (advance_of m n).member
left_by m (ask n) = m

abbrev pub member_means : Meaning Member Call Said
member_means = record { answers = said_by; leaves = left_by }

-- the record of a history is what its calls leave of the one at its beginning
pub recorded : (s : Settings) (h : History) → kept_after member_means (member_after s []) h ≡ member_after s h
unfolding kept_after member_after
recorded s [] = refl
recorded s (frame f ∷ h) = ap (λ (m : Member). (take_of m f).member) (recorded s h)
recorded s (advance n ∷ h) = ap (λ (m : Member). (advance_of m n).member) (recorded s h)
recorded s (ask n ∷ h) = recorded s h

-- ---- what leaves it valid

tbtt_fits : (o : Option Owner) → KeptFits o → KeptFits (at_tbtt o)
tbtt_fits None f = tt
tbtt_fits (Some o) f = by o.heard (leb o.recovery (o.misses + 1))
  where
    by : (heard late : Bool)
        → KeptFits (pick heard (Some (missing o o.misses)) (pick late None (Some (missing o (o.misses + 1)))))
    by true late = record { interval = f.interval; fresh = λ z. clash (sym z) }
    by false true = tt
    by false false = record { interval = f.interval; fresh = λ z. clash (sym z) }

past_fits : (n : ℕ) (o : Option Owner) → KeptFits o → KeptFits (past_tbtts n o)
unfolding past_tbtts
past_fits zero o f = f
past_fits (suc n) o f = past_fits n (at_tbtt o) (tbtt_fits o f)

module _ (m : Member) (v : ValidMember m) where
  pub valid_advance : (n : ℕ) → ValidMember (advance_of m n).member
  unfolding member_advances
  valid_advance n = by (advance_means m.station n) (station_advance m.station v.station_valid n)
    where
      by : (o : Outcome Station) → Valid (station_stepped m.station o).station → ValidMember (stepped m (and_then o (λ s. Ok (member_of s (owner_past m n))))).member
      by (Err q) w = v
      by (Ok t) w = record { station_valid = w; owner_fits = past_fits (tbtts_in m.station.interval m.station.clock n) m.owner v.owner_fits }

  pub valid_take : (f : List ℕ) → ValidMember (take_of m f).member
  unfolding member_takes
  valid_take f = by (foreign_in m (ibss_laid o)) refl
    where
      o : Placed SentInIbss
      o = ibss_frame_means m.station.own m.station.ap m.station.interval f

      by : (foreign : Bool) → foreign_in m (ibss_laid o) ≡ foreign → ValidMember (taken m (and_then o (follows m))).member
      by true e = subst (λ (t : Taken). ValidMember t.member) (refused_as m o e) v
      by false e =
          subst (λ (t : Taken). ValidMember t.member) (taken_as_lem m o e)
          (record {
            station_valid = valid_heard m.station v.station_valid (ibss_laid o).received (laid_allowed m.station.own m.station.ap m.station.interval f);
            owner_fits = owner_fits_after m v.owner_fits o (named_recovery m.station.own m.station.ap m.station.interval f);
          })

-- ---- what each promise allows

pub valid_start : (s : Settings) (r : Station) → start_means s.own s.ap s.interval s.channel ≡ Ok r → ValidMember (member_of r None)
valid_start s r e = record { station_valid = (is_fresh s r e).1; owner_fits = tt }

pub starts_means : (s : Settings) (m : Member) → MemberStarts s m → Exactly ValidMember m (member_after s [])
unfolding member_after record_from
starts_means s m (κs, a, x, e, promise, (own, bssid, interval, channel, accepts)) =
    let same : x ≡ start_of s.own s.ap s.interval s.channel = rw (← own, ← bssid, ← interval, ← channel) promise.0 in
    by (start_means s.own s.ap s.interval s.channel) refl (sym same ∙ accepts)
  where
    by : (o : Outcome Station) → start_means s.own s.ap s.interval s.channel ≡ o → and_then o (λ t. Ok (member_of t None)) ≡ Ok m → Exactly ValidMember m (member_after s [])
    by (Err q) given says = absurd (never says)
    by (Ok t) given says =
        let same = accepted_once (sym says) in
        (same ∙ ap (λ (r : Station). member_of r None) (is_fresh s t given).0, subst ValidMember (sym same) (valid_start s t given))

pub takes_means : {before m : Member} {f : List ℕ} {v : Verdict} → MemberTakes before f v m → (v ≡ (take_of before f).verdict) × (m ≡ (take_of before f).member) × ValidMember m
takes_means {before} {m} {f} (κs, a, x, e, promise, (self, octets, verdict, result)) =
    let same : x ≡ take_of before f = rw (← self, ← octets) promise.0 in
    (sym verdict ∙ ap (λ (y : Taken). y.verdict) same, sym result ∙ ap (λ (y : Taken). y.member) same, subst ValidMember result promise.1)

pub advances_means : {before m : Member} {n : ℕ} {r : Answer} → MemberAdvances before n r m → (r ≡ (advance_of before n).answer) × (m ≡ (advance_of before n).member) × ValidMember m
advances_means {before} {m} {n} (κs, a, x, e, promise, (self, units, answer, result)) =
    let same : x ≡ advance_of before n = rw (← self, ← units) promise.0 in
    (sym answer ∙ ap (λ (y : Stepped). y.answer) same, sym result ∙ ap (λ (y : Stepped). y.member) same, subst ValidMember result promise.1)

pub asks_means : {m : Member} {n : ℕ} {p : Permission} → MemberAsks m n p → p ≡ permission_of m.station n
asks_means (κs, a, x, e, promise, (self, units, result)) = sym result ∙ rw (← self, ← units) promise

pub does_means : (m : Member) (c : Call) (x : Said) (next : Member) → ValidMember m → MemberDoes m c x next → Meant member_means ValidMember m c x next
does_means m c x next v (MemberDoes.takes y) = let w = takes_means y in record { answers = ap judged w.0; leaves = w.1; valid = w.2 }
does_means m c x next v (MemberDoes.advances y) = let w = advances_means y in record { answers = ap answered w.0; leaves = w.1; valid = w.2 }
does_means m c x next v (MemberDoes.asks y) = record { answers = ap (λ (p : Permission). asked (Ok p)) (asks_means y); leaves = refl; valid = v }

pub member_meets : (s : Settings) → Meets member member_means (Exactly ValidMember) s (member_after s [])
member_meets s = meets_exactly member member_means ValidMember does_means s (member_after s []) (starts_means s)
