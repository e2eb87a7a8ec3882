-- Each relation of runs has runs: after a start that is not forbidden any calls can be made, on a station by value, lent and on octets. Assumes nothing.
use Rattle.std.specs.Prelude.{Ok, Err, IfOk}
use mathlib.Core.Bool.{Bool, false}
use mathlib.Core.List.{List, [], ◌∷◌}
use mathlib.Core.Path.{◌≡◌, refl, sym, ap, ◌∙◌, subst}
use Prim.Native.Nat.{ℕ, ◌≤◌}
use seplogic.Ra.Ura.{Ura}
use base.Logic.{SProp}
use prog.Memory.{Memory}
use prog.Routine.{Routine}
use types.Logic.{Logic}
use contract.Monad.{Fun}
use borrow.Author.Tests.{le-ltb}
use borrow.Fn.Kinds.{ended_of}
use denote.Ref.{Bor, MutBor}
use denote.Triple.Clauses.{at_exit}
use lib.Dec.{ltb}
use lib.ListN.{length}
use Rattle.answer.specs.Checks.{Outcome, pick, checked, and_then, answer_of}
use Rattle.answer.specs.Faults.{nowhere, verdict_of}
use Rattle.answer.specs.declared.Refusal.{Refusal}
use Rattle.capture_record.specs.declared.entry.Settings.{Settings}
use Rattle.station.proofs.Station.advance as Advance
use Rattle.station.proofs.Station.ask as Ask
use Rattle.station.proofs.Station.start as Start
use Rattle.station.proofs.Station.take as Take
use Rattle.station.specs.Asking.{permission_of}
use Rattle.station.specs.Clock.{advance_means, advance_of}
use Rattle.station.specs.Starting.{start_forbids, start_means}
use Rattle.station.specs.Taking.{take_means, take_of}
use Rattle.station.specs.Validity.{Valid}
use Rattle.station.specs.declared.Station.{Station}
use Rattle.station_record.proofs.advance as RecordAdvance
use Rattle.station_record.proofs.ask as RecordAsk
use Rattle.station_record.proofs.start as RecordStart
use Rattle.station_record.proofs.take as RecordTake
use Rattle.station_record.specs.Calls.{relaid, started_in, taken_in, advanced_in}
use Rattle.station_record.specs.Records.{size}
use Rattle.claims.specs.EitherWays.{EitherDoes, either_way, SettingsFit, RecordStarts, OctetsIn, RecordDoes, in_octets}
use Rattle.claims.specs.Histories.{Call, frame, advance, ask, History}
use Rattle.claims.specs.Records.{record_from, record_after}
use Rattle.claims.specs.Runs.{Engine, calls_of, GoesOn, no_calls, called, Each, CanRun}
use Rattle.claims.specs.StationRuns.{Starts, Takes, Advances, Asks, StationDoes, station}
use Rattle.claims.proofs.EitherWaysMeet.{Holds, advance_said, take_said, lent_advance_can, lent_ask_can, octets_meet, either_way_meets}
use Rattle.claims.proofs.RunsMeant.{Meaning, kept_after, made_of, made_after, Meets, Exactly}
use Rattle.claims.proofs.StationMeans.{station_means, valid_advance, valid_take, is_fresh, station_meets}

-- ---- any engine

-- where it can do what a call means, any such calls can be made
module _ {ℓ} {Settings Kept Had Call Said : Type 0} {engine : Engine {ℓ} Settings Kept Call Said} {means : Meaning Had Call Said} {StandsFor : Kept → Had → Type 0}
    {s : Settings} {begins : Had} (meets : Meets engine means StandsFor s begins) (Such : Call → Type 0)
    (can : (k : Kept) (had : Had) → StandsFor k had → (c : Call) → Such c → (next : Kept) × engine.Does k c (means.answers had c) next)
  where
    can_go_on : (first : Kept) → StandsFor first begins → (cs : List Call) → Each Such cs
        → (last : Kept) × GoesOn engine first (made_after means begins cs) last × StandsFor last (kept_after means begins cs)
    unfolding kept_after made_after Each
    can_go_on first f [] all = (first, no_calls, f)
    can_go_on first f (c ∷ cs) all =
        let w = can_go_on first f cs all.1 in
        let d = can w.0 (kept_after means begins cs) w.2 c all.0 in
        (d.0, called (made_of means (kept_after means begins cs) c) w.1 d.1, (meets.does w.0 c _ d.0 d.1 _ w.2).1)

    its_calls : (cs : List Call) → calls_of (made_after means begins cs) ≡ cs
    unfolding made_after
    its_calls [] = refl
    its_calls (c ∷ cs) = ap (λ (ds : List Call). c ∷ ds) (its_calls cs)

    can_run : (first : Kept) → engine.Starts s first → (cs : List Call) → Each Such cs → CanRun engine s cs
    can_run first starts cs all =
        let w = can_go_on first (meets.starts first starts) cs all in
        record { made = made_after means begins cs; last = w.0; ran = (first, starts, w.1); its_calls = its_calls cs }

-- the same of one that keeps what the meaning has: whatever the calls
module _ {ℓ} {Settings Kept Call Said : Type 0} {engine : Engine {ℓ} Settings Kept Call Said} {means : Meaning Kept Call Said} {ValidOf : Kept → Type 0}
    {s : Settings} {begins : Kept} (meets : Meets engine means (Exactly ValidOf) s begins)
    (does_can : (k : Kept) → ValidOf k → (c : Call) → engine.Does k c (means.answers k c) (means.leaves k c))
  where
    whatever : (cs : List Call) → Each (λ c. Unit {0}) cs
    unfolding Each
    whatever [] = tt
    whatever (c ∷ cs) = (tt, whatever cs)

    pub can_run_exactly : (first : Kept) → engine.Starts s first → (cs : List Call) → CanRun engine s cs
    can_run_exactly first starts cs =
        can_run meets (λ c. Unit {0})
        (λ k had (same, v) c such. (means.leaves k c, subst (λ (y : Kept). engine.Does k c (means.answers y c) (means.leaves k c)) same (does_can k v c))) first starts cs (whatever cs)

-- what is lent, at some place
abbrev pub lent : {X : Type 0} → X → Bor X
lent x = record { ref_ptr = (0, 0); now = x }

-- what is lent to be changed, at some place
abbrev pub lent_mut : {X : Type 0} → X → MutBor X
lent_mut x = record { ref_ptr = (0, 0); ghost_name = 0; now = x }

-- ---- document 01's station

module _ (s : Settings) (may : start_forbids s.own s.ap s.interval s.channel ≡ false) where
  pub accepts : start_means s.own s.ap s.interval s.channel ≡ Ok (record_after s [])
  unfolding start_means checked record_from
  accepts = simp may

  starts_can : Starts s (record_after s [])
  starts_can = (
    tt,
    (s.own, (s.ap, (s.interval, (s.channel, tt)))),
    start_means s.own s.ap s.interval s.channel,
    at_exit (ended_of 0 Start.Kinds.ps Start.Kinds.r) tt (s.own, (s.ap, (s.interval, (s.channel, tt)))) (tt, (tt, (tt, (tt, tt)))),
    (refl, subst (λ (o : Outcome Station). IfOk o Valid) (sym accepts) (is_fresh s (record_after s []) accepts).1),
    (refl, refl, refl, refl, accepts),
  )

module _ (r : Station) (v : Valid r) where
  takes_can : (f : List ℕ) → Takes r f (take_of r f).verdict (take_of r f).station
  takes_can f = (
    ([], tt),
    (r, (lent f, tt)),
    take_of r f,
    at_exit (ended_of 1 Take.Kinds.ps Take.Kinds.r) ([], tt) (r, (lent f, tt)) (tt, (tt, tt)),
    (refl, valid_take r v f),
    (refl, refl, refl, refl),
  )

  advances_can : (n : ℕ) → Advances r n (advance_of r n).answer (advance_of r n).station
  advances_can n = (
    tt,
    (r, (n, tt)),
    advance_of r n,
    at_exit (ended_of 0 Advance.Kinds.ps Advance.Kinds.r) tt (r, (n, tt)) (tt, (tt, tt)),
    (refl, valid_advance r v n),
    (refl, refl, refl, refl),
  )

  asks_can : (n : ℕ) → Asks r n (permission_of r n)
  asks_can n = (tt, (r, (n, tt)), permission_of r n, at_exit (ended_of 0 Ask.Kinds.ps Ask.Kinds.r) tt (r, (n, tt)) (tt, (tt, tt)), refl, (refl, refl, refl))

  does_can : (c : Call) → StationDoes r c (station_means.answers r c) (station_means.leaves r c)
  does_can (frame f) = StationDoes.takes (takes_can f)
  does_can (advance n) = StationDoes.advances (advances_can n)
  does_can (ask n) = StationDoes.asks (asks_can n)

pub station_runs : (s : Settings) → start_forbids s.own s.ap s.interval s.channel ≡ false → (h : History) → CanRun station s h
station_runs s may h = can_run_exactly (station_meets s) does_can (record_after s []) (starts_can s may) h

-- ---- the same with every advance and every question on a station that is lent

module _ {M : Type 1} {𝓤 : Ura M} (𝓛 : Logic 𝓤) (at_mem : Memory → SProp 𝓤) (run : Routine → Fun 𝓤) where
  lent_can : (r : Station) → Valid r → (c : Call) → EitherDoes 𝓛 at_mem run r c (station_means.answers r c) (station_means.leaves r c)
  lent_can r v (frame f) = EitherDoes.by_value (does_can r v (frame f))
  lent_can r v (advance n) = EitherDoes.advances_lent (lent_advance_can 𝓛 at_mem run [] 0 0 0 r n v)
  lent_can r v (ask n) = EitherDoes.asks_lent (lent_ask_can 𝓛 at_mem run [] 0 0 0 r n v)

  pub lent_runs : (s : Settings) → start_forbids s.own s.ap s.interval s.channel ≡ false → (h : History) → CanRun (either_way 𝓛 at_mem run) s h
  lent_runs s may h = can_run_exactly (either_way_meets 𝓛 at_mem run s) lent_can (record_after s []) (starts_can s may) h

-- ---- on octets, with room for a record; each frame is octets

record_can : (os : List ℕ) (r : Station) → Holds os r → (c : Call) → OctetsIn c → (next : List ℕ) × RecordDoes os c (station_means.answers r c) next
record_can os r h (frame f) octets =
    let next = relaid os (taken_in f os) in (
      next,
      RecordDoes.takes octets (
        ([], ([], tt)),
        (lent_mut os, (lent f, tt)),
        verdict_of (taken_in f os),
        at_exit (ended_of 2 RecordTake.Kinds.ps RecordTake.Kinds.r) ([], ([], tt)) (lent_mut os, (lent f, tt)) (next, (tt, tt)),
        (refl, refl),
        (refl, refl, ap (λ (o : Outcome Station). verdict_of (and_then (nowhere o) (λ y. take_means y f))) h.held ∙ take_said r f, refl),
      ),
    )
record_can os r h (advance n) such =
    let next = relaid os (advanced_in n os) in (
      next,
      RecordDoes.advances (
        ([], tt),
        (lent_mut os, (n, tt)),
        answer_of (advanced_in n os),
        at_exit (ended_of 1 RecordAdvance.Kinds.ps RecordAdvance.Kinds.r) ([], tt) (lent_mut os, (n, tt)) (next, (tt, tt)),
        (refl, refl),
        (refl, refl, ap (λ (o : Outcome Station). answer_of (and_then o (λ y. advance_means y n))) h.held ∙ advance_said r n, refl),
      ),
    )
record_can os r h (ask n) such = (
  os,
  RecordDoes.asks (
    ([], tt),
    (lent os, (n, tt)),
    Ok (permission_of r n),
    at_exit (ended_of 1 RecordAsk.Kinds.ps RecordAsk.Kinds.r) ([], tt) (lent os, (n, tt)) (tt, (tt, tt)),
    sym (ap (λ (o : Outcome Station). and_then o (λ y. Ok (permission_of y n))) h.held),
    (refl, refl, refl),
  ),
)

module _ (s : Settings) (may : start_forbids s.own s.ap s.interval s.channel ≡ false) (entry : List ℕ) (room : size ≤ length entry) where
  laid : Outcome Station
  laid = started_in s.own s.ap s.interval s.channel entry

  lays : laid ≡ Ok (record_after s [])
  unfolding laid started_in checked
  lays =
      ap (λ (o : Outcome Station). and_then o (λ t. pick (ltb (length entry) size) (Err Refusal.BufferShort) (Ok t))) (accepts s may)
      ∙ ap (λ (short : Bool). pick short (Err Refusal.BufferShort) (Ok (record_after s []))) (le-ltb (length entry) size room)

  record_starts_can : RecordStarts s (relaid entry laid)
  unfolding laid
  record_starts_can = (
    ([], tt),
    (s.own, (s.ap, (s.interval, (s.channel, (lent_mut entry, tt))))),
    answer_of laid,
    at_exit (ended_of 1 RecordStart.Kinds.ps RecordStart.Kinds.r) ([], tt) (s.own, (s.ap, (s.interval, (s.channel, (lent_mut entry, tt))))) (tt, (tt, (tt, (tt, (relaid entry laid, tt))))),
    (refl, refl),
    (refl, refl, refl, refl, ap answer_of lays, refl),
  )

  pub octets_runs : SettingsFit s → (h : History) → Each OctetsIn h → CanRun in_octets s h
  octets_runs f h all = can_run (octets_meet s f) OctetsIn record_can (relaid entry laid) record_starts_can h all
