-- One station's part in the calls of a table (02, Six): "Two runs that agree on the table's start, a station's joining, the advances, the frames to all ones and the
-- frames, questions and readings for that station, in one order". Nothing here names a row.
use Rattle.std.specs.Prelude.{Bool, true, false, ◌||◌, List, [], ◌∷◌, ◌++◌, ◌≡◌, ℕ, Ok}
use Rattle.answer.specs.Checks.{pick}
use Rattle.capture_record.specs.declared.entry.Settings.{Settings}
use Rattle.header.specs.Headers.{same, da, to_all}
use Rattle.table.specs.declared.Table.{Table}
use Rattle.claims.specs.Histories.{frame, advance, ask, History, clock_after}
use Rattle.claims.specs.Runs.{calls_of, GoesOn, Ran}
use Rattle.claims.specs.TableRuns.{TableCall, join, leave, tick, take, question, tpc, measurement, answered, TableMade, started_with, Does, table}

-- the call is one of these, for the station of this address; that it joins again, which is refused, or that others join or leave, is none of them
abbrev pub concerns : List ℕ → TableCall → Bool
concerns own (join a channel) = false
concerns own (leave a) = false
concerns own (tick n) = true
concerns own (take f) = to_all f || same (da f) own
concerns own (question a n) = same a own
concerns own (tpc f report buffer) = same (da f) own
concerns own (measurement f index readings buffer) = same (da f) own

-- these calls of a run, in their order, with their answers
unfoldable pub made_for : List ℕ → List TableMade → List TableMade
made_for own [] = []
made_for own (m ∷ ms) = pick (concerns own m.call) (m ∷ made_for own ms) (made_for own ms)

abbrev pub calls_for : List ℕ → List TableMade → List TableCall
calls_for own ms = calls_of (made_for own ms)

-- the advances of a run, and the calls for a station, as document 01's station would be given them
abbrev pub advance_in : TableCall → History → History
advance_in (tick n) h = advance n ∷ h
advance_in (join a channel) h = h
advance_in (leave a) h = h
advance_in (take f) h = h
advance_in (question a n) h = h
advance_in (tpc f report buffer) h = h
advance_in (measurement f index readings buffer) h = h

unfoldable pub advances_of : List TableCall → History
advances_of [] = []
advances_of (c ∷ cs) = advance_in c (advances_of cs)

abbrev pub station_call : TableCall → History → History
station_call (tick n) h = advance n ∷ h
station_call (take f) h = frame f ∷ h
station_call (question a n) h = ask n ∷ h
station_call (join a channel) h = h
station_call (leave a) h = h
station_call (tpc f report buffer) h = h
station_call (measurement f index readings buffer) h = h

unfoldable pub history_of : List TableCall → History
history_of [] = []
history_of (c ∷ cs) = station_call c (history_of cs)

abbrev pub history_for : List ℕ → List TableMade → History
history_for own ms = history_of (calls_for own ms)

-- by this call the station leaves
abbrev pub Leaves : List ℕ → TableCall → Type 0
Leaves own (leave a) = a ≡ own
Leaves own (join a channel) = ⊥
Leaves own (tick n) = ⊥
Leaves own (take f) = ⊥
Leaves own (question a n) = ⊥
Leaves own (tpc f report buffer) = ⊥
Leaves own (measurement f index readings buffer) = ⊥

unfoldable pub NeverLeaves : List ℕ → List TableMade → Type 0
NeverLeaves own [] = Unit {0}
NeverLeaves own (m ∷ ms) = (Leaves own m.call → ⊥) × NeverLeaves own ms

-- a run of a table, up to the table t, in which a station joined, after the calls `before`, and has not left since, with the calls `after`
pub record Stay (ap : List ℕ) (b : ℕ) (own : List ℕ) (channel : ℕ) (before after : List TableMade) (t : Table) : Type 0 where
  pub joining : Table
  pub ran : Ran table (started_with ap b) before joining
  pub joined : Table
  pub joins : Does joining (join own channel) (answered (Ok tt)) joined
  pub goes_on : GoesOn table joined after t
  pub never_leaves : NeverLeaves own after

-- the calls of a run, with the latest joining of a station among them, which has not left since
pub record StaySince (ap : List ℕ) (b : ℕ) (own : List ℕ) (ms : List TableMade) (t : Table) : Type 0 where
  pub channel : ℕ
  pub before : List TableMade
  pub after : List TableMade
  pub stay : Stay ap b own channel before after t
  pub all : ms ≡ after ++ (record { call = join own channel; answer = answered (Ok tt) } ∷ before)

-- the clock at its joining, by the advances until then: the beginning of its history
abbrev pub joined_at : List TableMade → ℕ
joined_at before = clock_after (advances_of (calls_of before))

-- what it goes by
abbrev pub settings_of : List ℕ → ℕ → List ℕ → ℕ → Settings
settings_of ap b own channel = record { own = own; ap = ap; channel = channel; interval = b }
