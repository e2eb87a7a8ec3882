-- Calls that are made in either way (02, Eight: "Offer the advance and the ask so that the record is lent and changed there, beside the present way; both give the same station and
-- answer"): by value, on a station that is lent, and on octets that hold one. Of each call no more is known than what its function's own promise allows.
use Rattle.std.specs.Prelude.{List, ◌≡◌, ℕ, ◌<◌, ◌^◌, length, Ok}
use seplogic.Ra.Ura.{Ura}
use base.Logic.{SProp, ent}
use prog.Memory.{Memory}
use prog.Routine.{Routine}
use types.Logic.{Logic}
use contract.Lifetimes.{Lfts}
use contract.Monad.{Fun, fact}
use denote.Triple.Clauses.{AtExit}
use denote.Triple.Entry.{Args, Res}
use Rattle.capture_record.specs.declared.entry.Settings.{Settings}
use Rattle.lent.specs.contracts.advance as LentAdvance
use Rattle.lent.specs.contracts.ask as LentAsk
use Rattle.octets.specs.Numbers.{Octets}
use Rattle.station.specs.declared.Station.{Station}
use Rattle.station.specs.declared.asking.Permission.{Permission}
use Rattle.station_record.proofs.advance as RecordAdvance
use Rattle.station_record.proofs.ask as RecordAsk
use Rattle.station_record.proofs.start as RecordStart
use Rattle.station_record.proofs.take as RecordTake
use Rattle.claims.specs.Histories.{Call, frame, advance, ask}
use Rattle.claims.specs.Runs.{Called, Engine}
use Rattle.claims.specs.StationRuns.{Said, answered, judged, asked, Starts, StationDoes}
use Rattle.answer.specs.Checks.{Answer, Outcome}
use Rattle.answer.specs.Faults.{Verdict}

-- ---- by value, or on a station that is lent

module _ {M : Type 1} {𝓤 : Ura M} (𝓛 : Logic 𝓤) (at_mem : Memory → SProp 𝓤) (run : Routine → Fun 𝓤) where
  -- a promise about memory was kept: whatever fact follows from it holds. A fact of the program logic says that there is a proof and not which, and so does this
  abbrev pub WasKept : SProp 𝓤 → Type 1
  WasKept promise = (P : Type 0) → ent 𝓤 promise (fact 𝓤 P) → ∥ P ∥₁

  -- `lent::advance` was called on a station that was lent, gave this answer and left this station there
  abbrev pub LentAdvances : Station → ℕ → Answer → Station → Type 1
  LentAdvances before n answer r =
      (κs : Lfts 1) × (a : Args (LentAdvance.ended).signature κs) × (x : Res (LentAdvance.ended).signature κs) × (e : AtExit LentAdvance.ended κs)
      × WasKept ((LentAdvance.clauses 𝓛 at_mem run κs a).ensures tt x e) × (a.0.now ≡ before) × (a.1.0 ≡ n) × (x ≡ answer) × (e.0.now ≡ r)

  -- `lent::ask` was called on a station that was lent, answered this and left this station there
  abbrev pub LentAsks : Station → ℕ → Permission → Station → Type 1
  LentAsks before n p r =
      (κs : Lfts 1) × (a : Args (LentAsk.ended).signature κs) × (x : Res (LentAsk.ended).signature κs) × (e : AtExit LentAsk.ended κs)
      × WasKept ((LentAsk.clauses 𝓛 at_mem run κs a).ensures tt x e) × (a.0.now ≡ before) × (a.1.0 ≡ n) × (x ≡ p) × (e.0.now ≡ r)

  -- each advance and each question in either way
  pub data EitherDoes : Station → Call → Said → Station → Type 1 where
    by_value : {before r : Station} {c : Call} {x : Said} → StationDoes before c x r → EitherDoes before c x r
    advances_lent : {before r : Station} {n : ℕ} {v : Answer} → LentAdvances before n v r → EitherDoes before (advance n) (answered v) r
    asks_lent : {before r : Station} {n : ℕ} {p : Permission} → LentAsks before n p r → EitherDoes before (ask n) (asked (Ok p)) r

  abbrev pub either_way : Engine {1} Settings Station Call Said
  either_way = record { Starts = Starts; Does = EitherDoes }

-- ---- on octets

-- addresses of six octets, and an interval of two
pub record SettingsFit (s : Settings) : Type 0 where
  pub own_six : length s.own ≡ 6
  pub own_octets : Octets s.own
  pub ap_six : length s.ap ≡ 6
  pub ap_octets : Octets s.ap
  pub interval_fits : s.interval < 256 ^ 2

-- `station_record::start` was called with the settings, accepted them and left these octets
abbrev pub RecordStarts : Settings → List ℕ → Type 0
RecordStarts s os =
    Called 1 RecordStart.Kinds.ps RecordStart.Kinds.r RecordStart.Reads.Post
    (λ κs a x e.
    (a.0 ≡ s.own) × (a.1.0 ≡ s.ap) × (a.1.1.0 ≡ s.interval) × (a.1.1.1.0 ≡ s.channel) × (x ≡ Ok tt)
    × (e.1.1.1.1.0.now ≡ os))

-- the calls on octets, each with what it answered and the octets that it left
abbrev pub RecordTakes : List ℕ → List ℕ → Verdict → List ℕ → Type 0
RecordTakes before f v os =
    Called 2 RecordTake.Kinds.ps RecordTake.Kinds.r RecordTake.Reads.Post (λ κs a x e. (a.0.now ≡ before) × (a.1.0.now ≡ f) × (x ≡ v) × (e.0.now ≡ os))

abbrev pub RecordAdvances : List ℕ → ℕ → Answer → List ℕ → Type 0
RecordAdvances before n v os =
    Called 1 RecordAdvance.Kinds.ps RecordAdvance.Kinds.r RecordAdvance.Reads.Post (λ κs a x e. (a.0.now ≡ before) × (a.1.0 ≡ n) × (x ≡ v) × (e.0.now ≡ os))

abbrev pub RecordAsks : List ℕ → ℕ → Outcome Permission → Type 0
RecordAsks os n v = Called 1 RecordAsk.Kinds.ps RecordAsk.Kinds.r RecordAsk.Reads.Post (λ κs a x e. (a.0.now ≡ os) × (a.1.0 ≡ n) × (x ≡ v))

-- a frame is octets
abbrev pub OctetsIn : Call → Type 0
OctetsIn (frame f) = Octets f
OctetsIn (advance n) = Unit {0}
OctetsIn (ask n) = Unit {0}

-- the function of each call; a frame is octets, and a question leaves the octets as they are
pub data RecordDoes : List ℕ → Call → Said → List ℕ → Type 0 where
  takes : {before os f : List ℕ} {v : Verdict} → Octets f → RecordTakes before f v os → RecordDoes before (frame f) (judged v) os
  advances : {before os : List ℕ} {n : ℕ} {v : Answer} → RecordAdvances before n v os → RecordDoes before (advance n) (answered v) os
  asks : {os : List ℕ} {n : ℕ} {v : Outcome Permission} → RecordAsks os n v → RecordDoes os (ask n) (asked v) os

abbrev pub in_octets : Engine {0} Settings (List ℕ) Call Said
in_octets = record { Starts = RecordStarts; Does = RecordDoes }
