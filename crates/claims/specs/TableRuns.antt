-- Runs of a table of stations by its own functions, each of which takes the table by value and gives the next one (02, Six).
use Rattle.std.specs.Prelude.{List, ◌≡◌, ℕ, Ok}
use Rattle.element.specs.declared.tpc_report.TpcReport.{TpcReport}
use Rattle.measured_report.specs.declared.Readings.{Readings}
use Rattle.station.specs.declared.asking.Permission.{Permission}
use Rattle.table.proofs.Table.ask as Ask
use Rattle.table.proofs.Table.join as Join
use Rattle.table.proofs.Table.leave as Leave
use Rattle.table.proofs.Table.reply_to_measurement_request as Measurement
use Rattle.table.proofs.Table.reply_to_tpc_request as Tpc
use Rattle.table.proofs.Table.start as Start
use Rattle.table.proofs.Table.take as Take
use Rattle.table.proofs.Table.tick as Tick
use Rattle.table.specs.declared.Table.{Table}
use Rattle.claims.specs.Runs.{Called, Engine, Made}
use Rattle.answer.specs.Checks.{Answer, Outcome}
use Rattle.answer.specs.Faults.{Verdict}

-- a call as it was made: an address joins on a channel or leaves, the clock goes on, the octets of a frame come, an address asks to send, and a reply is made to the
-- octets of a frame, with what the caller has found, in a buffer
pub data TableCall : Type 0 where
  join : List ℕ → ℕ → TableCall
  leave : List ℕ → TableCall
  tick : ℕ → TableCall
  take : List ℕ → TableCall
  question : List ℕ → ℕ → TableCall
  tpc : List ℕ → TpcReport → List ℕ → TableCall
  measurement : List ℕ → ℕ → Readings → List ℕ → TableCall

-- what it answered; of a reply also what the buffer then held
pub data TableAnswer : Type 0 where
  answered : Answer → TableAnswer
  judged : Verdict → TableAnswer
  asked : Outcome Permission → TableAnswer
  replied : Outcome ℕ → List ℕ → TableAnswer

-- a call, and its answer
abbrev pub TableMade : Type 0
TableMade = Made TableCall TableAnswer

-- what it is started with
pub record TableSettings : Type 0 where
  pub ap : List ℕ
  pub interval : ℕ

abbrev pub started_with : List ℕ → ℕ → TableSettings
started_with ap b = record { ap = ap; interval = b }

-- `Table::start` was called with the settings and gave this, a table or a refusal
abbrev pub TableStartGives : TableSettings → Outcome Table → Type 0
TableStartGives s o = Called 0 Start.Kinds.ps Start.Kinds.r Start.Reads.Post (λ κs a x e. (a.0 ≡ s.ap) × (a.1.0 ≡ s.interval) × (x ≡ o))

-- it accepted them
abbrev pub TableStarts : TableSettings → Table → Type 0
TableStarts s t = TableStartGives s (Ok t)

-- the function of the call was called on a table, answered this and left that table
abbrev pub Does : Table → TableCall → TableAnswer → Table → Type 0
Does t (join own channel) r next =
    Called 0 Join.Kinds.ps Join.Kinds.r Join.Reads.Post
    (λ κs a x e. (a.0 ≡ t) × (a.1.0 ≡ own) × (a.1.1.0 ≡ channel) × (answered x.answer ≡ r) × (x.table ≡ next))
Does t (leave own) r next =
    Called 0 Leave.Kinds.ps Leave.Kinds.r Leave.Reads.Post
    (λ κs a x e. (a.0 ≡ t) × (a.1.0 ≡ own) × (answered x.answer ≡ r) × (x.table ≡ next))
Does t (tick n) r next =
    Called 0 Tick.Kinds.ps Tick.Kinds.r Tick.Reads.Post (λ κs a x e. (a.0 ≡ t) × (a.1.0 ≡ n) × (answered x.answer ≡ r) × (x.table ≡ next))
Does t (take f) r next =
    Called 1 Take.Kinds.ps Take.Kinds.r Take.Reads.Post
    (λ κs a x e. (a.0 ≡ t) × (a.1.0.now ≡ f) × (judged x.verdict ≡ r) × (x.table ≡ next))
Does t (question own n) r next =
    Called 0 Ask.Kinds.ps Ask.Kinds.r Ask.Reads.Post (λ κs a x e. (a.0 ≡ t) × (a.1.0 ≡ own) × (a.1.1.0 ≡ n) × (asked x ≡ r) × (t ≡ next))
Does t (tpc f report buffer) r next =
    Called 2 Tpc.Kinds.ps Tpc.Kinds.r Tpc.Reads.Post
    (λ κs a x e. (a.0 ≡ t) × (a.1.0.now ≡ f) × (a.1.1.0 ≡ report) × (a.1.1.1.0.now ≡ buffer) × (replied x e.1.1.1.0.now ≡ r) × (t ≡ next))
Does t (measurement f index readings buffer) r next =
    Called 2 Measurement.Kinds.ps Measurement.Kinds.r Measurement.Reads.Post
    (λ κs a x e.
    (a.0 ≡ t) × (a.1.0.now ≡ f) × (a.1.1.0 ≡ index) × (a.1.1.1.0 ≡ readings) × (a.1.1.1.1.0.now ≡ buffer)
    × (replied x e.1.1.1.1.0.now ≡ r)
    × (t ≡ next))

abbrev pub table : Engine {0} TableSettings Table TableCall TableAnswer
table = record { Starts = TableStarts; Does = Does }
