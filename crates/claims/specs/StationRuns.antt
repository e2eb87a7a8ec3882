-- Runs of document 01's station by its own functions, each of which takes the record by value and gives the next one (00, demand 3).
use Rattle.std.specs.Prelude.{List, ◌≡◌, ℕ, Ok}
use Rattle.capture_record.specs.declared.entry.Settings.{Settings}
use Rattle.station.proofs.Station.advance as Advance
use Rattle.station.proofs.Station.ask as Ask
use Rattle.station.proofs.Station.start as Start
use Rattle.station.proofs.Station.take as Take
use Rattle.station.specs.declared.Station.{Station}
use Rattle.station.specs.declared.asking.Permission.{Permission}
use Rattle.claims.specs.Histories.{Call, frame, advance, ask}
use Rattle.claims.specs.Runs.{Called, Engine}
use Rattle.answer.specs.Checks.{Answer, Outcome}
use Rattle.answer.specs.Faults.{Verdict}

-- what is said to each call; that no station is there to be asked can be said on octets alone
pub data Said : Type 0 where
  answered : Answer → Said
  judged : Verdict → Said
  asked : Outcome Permission → Said

-- `Station::start` was called with the settings, accepted them and gave this record
abbrev pub Starts : Settings → Station → Type 0
Starts s r =
    Called 0 Start.Kinds.ps Start.Kinds.r Start.Reads.Post
    (λ κs a x e. (a.0 ≡ s.own) × (a.1.0 ≡ s.ap) × (a.1.1.0 ≡ s.interval) × (a.1.1.1.0 ≡ s.channel) × (x ≡ Ok r))

-- `Station::take` was called on a record with the octets of a frame, gave this verdict and left this record
abbrev pub Takes : Station → List ℕ → Verdict → Station → Type 0
Takes before f v r = Called 1 Take.Kinds.ps Take.Kinds.r Take.Reads.Post (λ κs a x e. (a.0 ≡ before) × (a.1.0.now ≡ f) × (x.verdict ≡ v) × (x.station ≡ r))

-- `Station::advance` was called on a record, gave this answer and left this record
abbrev pub Advances : Station → ℕ → Answer → Station → Type 0
Advances before n v r = Called 0 Advance.Kinds.ps Advance.Kinds.r Advance.Reads.Post (λ κs a x e. (a.0 ≡ before) × (a.1.0 ≡ n) × (x.answer ≡ v) × (x.station ≡ r))

-- `Station::ask` was called on a record, and answered this
abbrev pub Asks : Station → ℕ → Permission → Type 0
Asks r n p = Called 0 Ask.Kinds.ps Ask.Kinds.r Ask.Reads.Post (λ κs a x e. (a.0 ≡ r) × (a.1.0 ≡ n) × (x ≡ p))

-- the function of each call; a question leaves the record as it is
pub data StationDoes : Station → Call → Said → Station → Type 0 where
  takes : {before r : Station} {f : List ℕ} {v : Verdict} → Takes before f v r → StationDoes before (frame f) (judged v) r
  advances : {before r : Station} {n : ℕ} {v : Answer} → Advances before n v r → StationDoes before (advance n) (answered v) r
  asks : {r : Station} {n : ℕ} {p : Permission} → Asks r n p → StationDoes r (ask n) (asked (Ok p)) r

abbrev pub station : Engine {0} Settings Station Call Said
station = record { Starts = Starts; Does = StationDoes }
