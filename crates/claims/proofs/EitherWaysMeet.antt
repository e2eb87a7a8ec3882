-- Calls made in either way meet the meanings of the calls by value (02, Eight: "both give the same station and answer"), and octets in which a station was started hold one after any
-- calls. Assumes nothing.
use Rattle.std.specs.Prelude.{Ok, Err}
use mathlib.Core.List.{List, []}
use mathlib.Core.Logic.{∥∥₁_elim, ∥∥₁_map}
use mathlib.Core.Path.{◌≡◌, refl, sym, ap, ap₂, ◌∙◌, subst}
use Prim.Native.Nat.{ℕ, ◌≤◌}
use native.Mathlib.Omega.{arith}
use seplogic.Ra.Ura.{Ura}
use base.Logic.{SProp, ent, emp, via, emp∗, mono∗}
use base.Fml.{Lft, GName}
use base.Stored.{Coded-set, coded_unit}
use Rattle.std.specs.Coded.{coded_result}
use borrow.Author.Tests.{ltb-false}
use prog.Memory.{Memory}
use prog.Routine.{Routine}
use types.Logic.{Logic}
use contract.Monad.{Fun, fact_i}
use denote.Triple.Clauses.{at_exit}
use lib.ListN.{length, drop, length-append, length-drop}
use Rattle.answer.proofs.Judged.{passed, kept, followed}
use Rattle.answer.specs.contracts.Refusal as RefusalRow
use Rattle.answer.specs.Checks.{Outcome, and_then, answer_of, Answer}
use Rattle.answer.specs.Faults.{Placed, nowhere, verdict_of}
use Rattle.capture_record.specs.declared.entry.Settings.{Settings}
use Rattle.lent.proofs.Lending.{given}
use Rattle.lent.specs.contracts.advance as LentAdvance
use Rattle.lent.specs.contracts.ask as LentAsk
use Rattle.octets.specs.Numbers.{Octets}
use Rattle.octets.specs.Writing.{filled}
use Rattle.station.specs.contracts.Station as StationRow
use Rattle.station.specs.contracts.asking.Permission as PermissionRow
use Rattle.station.specs.Asking.{permission_of}
use Rattle.station.specs.Clock.{stepped, advance_means, advance_of}
use Rattle.station.specs.Starting.{start_means}
use Rattle.station.specs.Taking.{taken, take_means, take_of}
use Rattle.station.specs.Validity.{Valid}
use Rattle.station.specs.declared.Station.{Station}
use Rattle.station.specs.declared.asking.Permission.{Permission}
use Rattle.station.specs.declared.clock.Stepped.{Stepped}
use Rattle.station_record.proofs.Holding.{held_room}
use Rattle.station_record.proofs.Layouts.{held_valid, laid_reads}
use Rattle.station_record.specs.Calls.{relaid, started_in, taken_in, advanced_in, asked_in}
use Rattle.station_record.specs.Fits.{Fits}
use Rattle.station_record.specs.Held.{station_at, held_in}
use Rattle.station_record.specs.Records.{size, record_of}
use Rattle.claims.specs.EitherWays.{WasKept, LentAdvances, LentAsks, EitherDoes, either_way, SettingsFit, RecordStarts, RecordDoes, in_octets}
use Rattle.claims.specs.Histories.{Call}
use Rattle.claims.specs.Records.{record_after}
use Rattle.claims.specs.Runs.{Made, calls_of, Ran}
use Rattle.claims.specs.StationRuns.{Said, answered, judged, asked}
use Rattle.claims.proofs.OneOutcomeLent.{lent_advance, lent_ask}
use Rattle.claims.proofs.RunsMeant.{made_after, Meant, Meets, as_meant, said_alike, Exactly, meets_exactly}
use Rattle.claims.proofs.StationMeans.{station_means, recorded, valid_advance, valid_take, is_fresh, starts_means, does_means}
use Rattle.claims.proofs.StaysFit.{started_fits, advanced_fits, taken_fits}

-- ---- octets that hold a station, after a call on them

-- a station is valid that is held
held_is_valid : (os : List ℕ) (r : Station) → held_in os ≡ Ok r → Valid r
unfolding held_in
held_is_valid os r e = let p = passed _ _ _ e in subst Valid (kept (station_at os) p.1) (held_valid os p.0)

-- the record of a station that is laid in front is held there
laid_is_held : (os : List ℕ) (t : Station) → size ≤ length os → Valid t → Fits t → held_in (filled (record_of t) os) ≡ Ok t
laid_is_held os t room v f =
    laid_reads t v f (drop (length (record_of t)) os) (omega (arith, room, length-append (record_of t) (drop (length (record_of t)) os), length-drop (length (record_of t)) os))

-- octets hold this station, which fits them
pub record Holds (os : List ℕ) (r : Station) : Type 0 where
  pub held : held_in os ≡ Ok r
  pub fits : Fits r

module _ (os : List ℕ) (r : Station) (h : Holds os r) where
  -- an advance
  after_advance : (n : ℕ) → Holds (relaid os (advance_means r n)) (advance_of r n).station
  after_advance n = by (advance_means r n) refl (valid_advance r (held_is_valid os r h.held) n)
    where
      by : (o : Outcome Station) → advance_means r n ≡ o → Valid (stepped r o).station → Holds (relaid os o) (stepped r o).station
      by (Err q) e v = h
      by (Ok t) e v = let f = advanced_fits r n t h.fits e in record { held = laid_is_held os t (held_room os r h.held) v f; fits = f }

  -- a frame of octets
  after_take : (f : List ℕ) → Octets f → Holds (relaid os (take_means r f)) (take_of r f).station
  after_take f octets = by (take_means r f) refl (valid_take r (held_is_valid os r h.held) f)
    where
      by : (o : Placed Station) → take_means r f ≡ o → Valid (taken r o).station → Holds (relaid os o) (taken r o).station
      by (Err q) e v = h
      by (Ok t) e v = let g = taken_fits r f t h.fits octets e in record { held = laid_is_held os t (held_room os r h.held) v g; fits = g }

-- what an advance and a frame are answered
pub advance_said : (r : Station) (n : ℕ) → answer_of (advance_means r n) ≡ (advance_of r n).answer
advance_said r n = by (advance_means r n)
  where
    by : (o : Outcome Station) → answer_of o ≡ (stepped r o).answer
    by (Err q) = refl
    by (Ok t) = refl

pub take_said : (r : Station) (f : List ℕ) → verdict_of (take_means r f) ≡ (take_of r f).verdict
take_said r f = by (take_means r f)
  where
    by : (o : Placed Station) → verdict_of o ≡ (taken r o).verdict
    by (Err q) = refl
    by (Ok t) = refl

-- ---- any calls

-- an accepted start into octets
begins : (own ap' : List ℕ) (b channel : ℕ) (os : List ℕ) (t : Station) → started_in own ap' b channel os ≡ Ok t → (start_means own ap' b channel ≡ Ok t) × (size ≤ length os)
unfolding started_in
begins own ap' b channel os t e =
    let w = followed (start_means own ap' b channel) _ t e in
    let p = passed _ _ _ w.2 in
    (w.1 ∙ ap Ok (kept w.0 p.1), ltb-false (length os) size p.0)

-- each call on octets that hold a station is answered as it means, and leaves octets that hold what it means
record_does : (before : List ℕ) (c : Call) (x : Said) (os : List ℕ) → RecordDoes before c x os → (r : Station) → Holds before r
    → (x ≡ station_means.answers r c) × Holds os (station_means.leaves r c)
record_does before c x os (RecordDoes.takes {f = g} octets (κs, a, y, e, promise, (at_entry_lem, heard, told, left))) r h =
    let comes : taken_in a.1.0.now a.0.now ≡ take_means r g = ap₂ (λ (x y : List ℕ). taken_in x y) heard at_entry_lem ∙ ap (λ (o : Outcome Station). and_then (nowhere o) (λ z. take_means z g)) h.held in (
      ap judged (sym told ∙ promise.0 ∙ ap verdict_of comes ∙ take_said r g),
      subst (λ (b : List ℕ). Holds b (take_of r g).station) (sym (sym left ∙ promise.1 ∙ ap₂ (λ (b : List ℕ) (o : Placed Station). relaid b o) at_entry_lem comes)) (after_take before r h g octets),
    )
record_does before c x os (RecordDoes.advances {n = n} (κs, a, y, e, promise, (at_entry_lem, units, told, left))) r h =
    let comes : advanced_in a.1.0 a.0.now ≡ advance_means r n = ap₂ (λ (k : ℕ) (b : List ℕ). advanced_in k b) units at_entry_lem ∙ ap (λ (o : Outcome Station). and_then o (λ z. advance_means z n)) h.held in (
      ap answered (sym told ∙ promise.0 ∙ ap answer_of comes ∙ advance_said r n),
      subst (λ (b : List ℕ). Holds b (advance_of r n).station) (sym (sym left ∙ promise.1 ∙ ap₂ (λ (b : List ℕ) (o : Outcome Station). relaid b o) at_entry_lem comes)) (after_advance before r h n),
    )
record_does before c x os (RecordDoes.asks {n = n} (κs, a, y, e, promise, (at_entry_lem, units, told))) r h =
    let comes : asked_in a.1.0 a.0.now ≡ Ok (permission_of r n) = ap₂ (λ (k : ℕ) (b : List ℕ). asked_in k b) units at_entry_lem ∙ ap (λ (o : Outcome Station). and_then o (λ z. Ok (permission_of z n))) h.held in
    (ap asked (sym told ∙ promise ∙ comes), h)

module _ (s : Settings) (f : SettingsFit s) where
  record_starts : (os : List ℕ) → RecordStarts s os → Holds os (record_after s [])
  record_starts os (κs, a, x, e, promise, (own, ap', interval, channel, said, left)) =
      by (started_in s.own s.ap s.interval s.channel a.1.1.1.1.0.now) refl
      (sym said ∙ rw (← own, ← ap', ← interval, ← channel) promise.0) (sym left ∙ rw (← own, ← ap', ← interval, ← channel) promise.1)
    where
      entry : List ℕ
      entry = a.1.1.1.1.0.now

      by : (o : Outcome Station) → started_in s.own s.ap s.interval s.channel entry ≡ o → Ok tt ≡ answer_of o → os ≡ relaid entry o → Holds os (record_after s [])
      by (Err q) d said exit = absurd (let z : ◌≡◌ {A = ℕ} 0 1 = cc in omega arith)
      by (Ok t) d said exit =
          let w = begins s.own s.ap s.interval s.channel entry t d in
          let new = is_fresh s t w.0 in
          let g = started_fits s.own s.ap s.interval s.channel t f.own_six f.own_octets f.ap_six f.ap_octets f.interval_fits w.0 in
          record {
            held = ap held_in exit ∙ laid_is_held entry t w.1 new.1 g ∙ ap Ok new.0;
            fits = subst Fits new.0 g;
          }

  pub octets_meet : Meets in_octets station_means Holds s (record_after s [])
  octets_meet = record { starts = record_starts; does = record_does }

  -- octets that were started with these settings hold the record that the calls since mean, which fits them, and the calls were answered as they mean
  pub record_meets : {ms : List (Made Call Said)} {os : List ℕ} → Ran in_octets s ms os
      → Holds os (record_after s (calls_of ms)) × (ms ≡ made_after station_means (record_after s []) (calls_of ms))
  record_meets {ms} {os} ran =
      let w = as_meant octets_meet ran in
      (subst (Holds os) (recorded 0 s (calls_of ms)) w.stands, w.said)

-- ---- by value, or on a station that is lent

-- two proofs that two stations are the same are the same, and so for answers: so it is enough that there is one
stations_set : IsSet Station
stations_set = Coded-set (StationRow.the_row).coded

answers_set : IsSet Answer
answers_set = Coded-set (coded_result coded_unit (RefusalRow.the_row).coded)

permissions_set : IsSet Permission
permissions_set = Coded-set (PermissionRow.the_row).coded

-- a promise that follows from nothing is kept, so that calls on a station that is lent can be made
pub kept_where_it_follows : {M : Type 1} {𝓤 : Ura M} (𝓛 : Logic 𝓤) (at_mem : Memory → SProp 𝓤) (run : Routine → Fun 𝓤) (promise : SProp 𝓤)
    → ent 𝓤 (emp 𝓤) promise → WasKept 𝓛 at_mem run promise
kept_where_it_follows {𝓤 = 𝓤} 𝓛 at_mem run promise e P h = ∥∥₁_map ((via 𝓤 promise e h).apply 𝓤.one tt) (λ t. t.0)

module _ {M : Type 1} {𝓤 : Ura M} (𝓛 : Logic 𝓤) (at_mem : Memory → SProp 𝓤) (run : Routine → Fun 𝓤) where
  -- what each call on a station that is lent answers and leaves there
  lent_advances : {before r : Station} {n : ℕ} {answer : Answer} → LentAdvances 𝓛 at_mem run before n answer r → (answer ≡ (advance_of before n).answer) × (r ≡ (advance_of before n).station)
  lent_advances (κs, a, x, e, promise, lent, units, answer, left) =
      let w = promise _ (lent_advance 𝓛 at_mem run κs a x e) in
      let same = ap₂ advance_of lent units in (
        sym answer ∙ ∥∥₁_elim w (answers_set _ _) (λ z. z.0) ∙ ap (λ (y : Stepped). y.answer) same,
        sym left ∙ ∥∥₁_elim w (stations_set _ _) (λ z. z.1) ∙ ap (λ (y : Stepped). y.station) same,
      )

  lent_asks : {before r : Station} {n : ℕ} {p : Permission} → LentAsks 𝓛 at_mem run before n p r → (p ≡ permission_of before n) × (r ≡ before)
  lent_asks (κs, a, x, e, promise, lent, units, answer, left) =
      let w = promise _ (lent_ask 𝓛 at_mem run κs a x e) in
      (sym answer ∙ ∥∥₁_elim w (permissions_set _ _) (λ z. z.0) ∙ ap₂ permission_of lent units, sym left ∙ ∥∥₁_elim w (stations_set _ _) (λ z. z.1) ∙ lent)

  either_does : (r : Station) (c : Call) (x : Said) (next : Station) → Valid r → EitherDoes 𝓛 at_mem run r c x next → Meant station_means Valid r c x next
  either_does r c x next v (EitherDoes.by_value y) = does_means r c x next v y
  either_does r c x next v (EitherDoes.advances_lent {n = n} y) =
      let w = lent_advances y in
      record { answers = ap answered w.0; leaves = w.1; valid = subst Valid (sym w.1) (valid_advance r v n) }
  either_does r c x next v (EitherDoes.asks_lent y) =
      let w = lent_asks y in
      record { answers = ap (λ (p : Permission). asked (Ok p)) w.0; leaves = w.1; valid = subst Valid (sym w.1) v }

  -- such calls can be made on any valid station: what the calls by value give is allowed
  module _ (κ : Lft) (b o : ℕ) (γ : GName) (before : Station) (n : ℕ) (v : Valid before) where
    pub lent_advance_can : LentAdvances 𝓛 at_mem run before n (advance_of before n).answer (advance_of before n).station
    lent_advance_can =
        let a = given b o γ before n in
        let x = advance_of before n in (
          (κ, tt),
          a,
          x.answer,
          at_exit LentAdvance.ended (κ, tt) a (x.station, (tt, tt)),
          kept_where_it_follows 𝓛 at_mem run _
              (via 𝓤 _ (emp∗ 𝓤 (emp 𝓤)) (mono∗ 𝓤 (fact_i 𝓤 _ (emp 𝓤) (refl, refl)) (fact_i 𝓤 (Valid x.station) (emp 𝓤) (valid_advance before v n)))),
          refl,
          refl,
          refl,
          refl,
        )

    pub lent_ask_can : LentAsks 𝓛 at_mem run before n (permission_of before n) before
    lent_ask_can =
        let a = given b o γ before n in (
          (κ, tt),
          a,
          permission_of before n,
          at_exit LentAsk.ended (κ, tt) a (before, (tt, tt)),
          kept_where_it_follows 𝓛 at_mem run _ (fact_i 𝓤 _ (emp 𝓤) (refl, refl)),
          refl,
          refl,
          refl,
          refl,
        )

  module _ (s : Settings) where
    pub either_way_meets : Meets (either_way 𝓛 at_mem run) station_means (Exactly Valid) s (record_after s [])
    either_way_meets = meets_exactly (either_way 𝓛 at_mem run) station_means Valid either_does s (record_after s []) (starts_means s)

    -- the record is the one that the calls mean, and the calls were answered as they mean
    pub either_meets : {ms : List (Made Call Said)} {r : Station} → Ran (either_way 𝓛 at_mem run) s ms r
        → (r ≡ record_after s (calls_of ms)) × (ms ≡ made_after station_means (record_after s []) (calls_of ms))
    either_meets {ms} ran =
        let w = as_meant either_way_meets ran in
        (w.stands.0 ∙ recorded 0 s (calls_of ms), w.said)

    -- ---- "both give the same station and answer"

    -- two runs of the same calls, each call made in either way
    pub same_either_way : {ms ns : List (Made Call Said)} {r q : Station} → Ran (either_way 𝓛 at_mem run) s ms r → Ran (either_way 𝓛 at_mem run) s ns q
        → calls_of ms ≡ calls_of ns → (r ≡ q) × (ms ≡ ns)
    same_either_way x y same =
        let w = said_alike either_way_meets either_way_meets x y same in
        (w.1.0 ∙ sym w.2.0, w.3)

    -- a run on octets beside one of the same calls in either way: the octets hold the station, and the answers are the same
    pub same_in_octets : SettingsFit s → {ms ns : List (Made Call Said)} {os : List ℕ} {r : Station} → Ran in_octets s ms os → Ran (either_way 𝓛 at_mem run) s ns r
        → calls_of ms ≡ calls_of ns → (held_in os ≡ Ok r) × (ms ≡ ns)
    same_in_octets f x y same =
        let w = said_alike (octets_meet s f) either_way_meets x y same in
        (w.1.held ∙ ap Ok (sym w.2.0), w.3)
