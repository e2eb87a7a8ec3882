-- Sixteen stations on one clock (02, Six): "A table has 16 rows, one AP, one interval and one clock; a row is joined by an address and left by it."
use Rattle.std.specs.Prelude.{Bool, false, not, ◌||◌, List, [], ◌∷◌, map, ℕ, ◌+◌, ltb, eqb, replicate, Ok, Err}
use Rattle.answer.specs.Checks.{Outcome, pick, ◌⇒◌, judged, and_then}
use Rattle.answer.specs.Faults.{Placed}
use Rattle.answer.specs.Numbers.{number_of}
use Rattle.answer.specs.declared.Refusal.{Refusal}
use Rattle.channel.specs.Centres.{highest}
use Rattle.frame.specs.Frames.{Kind, Sent, frame_means}
use Rattle.header.specs.Headers.{da}
use Rattle.octets.specs.Numbers.{bit, octet}
use Rattle.row.specs.Rows.{row_count, free, seated, is_of, is_free, ticked}
use Rattle.row.specs.declared.Row.{Row}
use Rattle.station.specs.Asking.{permission_number, permission_of}
use Rattle.station.specs.Stations.{clock_limit, unit_limit, fresh, with_clock}
use Rattle.station.specs.Taking.{heard}
use Rattle.station.specs.declared.Station.{Station}
use Rattle.station.specs.declared.asking.Permission.{Permission}
use Rattle.table.specs.declared.Stepped.{Stepped}
use Rattle.table.specs.declared.Table.{Table}
use Rattle.table.specs.declared.taking.Taken.{Taken}

abbrev pub with_rows : Table → List Row → Table
with_rows t ws = record { ap = t.ap; interval = t.interval; clock = t.clock; rows = ws }

-- ---- which row

-- some row is such
unfoldable pub some_row : (Row → Bool) → List Row → Bool
some_row p [] = false
some_row p (w ∷ ws) = p w || some_row p ws

-- the first row that is such is changed
unfoldable pub on_first : (Row → Bool) → (Row → Row) → List Row → List Row
on_first p f [] = []
on_first p f (w ∷ ws) = pick (p w) (f w ∷ ws) (w ∷ on_first p f ws)

-- the station of the first row that is such; "26 address not joined"
unfoldable pub first_such : (Row → Bool) → List Row → Outcome Station
first_such p [] = Err Refusal.NotJoined
first_such p (w ∷ ws) = pick (p w) (Ok w.station) (first_such p ws)

abbrev pub is_joined : Table → List ℕ → Bool
is_joined t own = some_row (is_of own) t.rows

abbrev pub station_of : Table → List ℕ → Outcome Station
station_of t own = first_such (is_of own) t.rows

-- the answer of a call that may be refused, and the table after it
abbrev pub stepped : Table → Outcome Table → Stepped
stepped t (Err r) = record { answer = Err r; table = t }
stepped t (Ok next) = record { answer = Ok tt; table = next }

-- ---- start: 15 as in 01, for the AP and B

-- at clock 0, with every row free
abbrev pub empty : List ℕ → ℕ → Table
empty ap b = record { ap = ap; interval = b; clock = 0; rows = replicate row_count free }

abbrev pub start_forbids : List ℕ → ℕ → Bool
start_forbids ap b = eqb b 0 || bit 0 (octet 0 ap)

unfoldable pub start_means : List ℕ → ℕ → Outcome Table
start_means ap b = judged (start_forbids ap b ⇒ Refusal.BadStart ∷ []) (empty ap b)

-- ---- joining: "15 comes first, and 25 before 24"

-- "a new row starts as a fresh station, at the present clock, on the channel named at joining"
abbrev pub newcomer : Table → List ℕ → ℕ → Station
newcomer t own channel = with_clock (fresh own t.ap t.interval channel) t.clock

-- the group bit is the first of an address
abbrev pub join_forbids : List ℕ → ℕ → Bool
join_forbids own channel = bit 0 (octet 0 own) || ltb highest channel

unfoldable pub join_means : Table → List ℕ → ℕ → Outcome Table
join_means t own channel =
    judged
    (join_forbids own channel ⇒ Refusal.BadStart
    ∷ is_joined t own ⇒ Refusal.AlreadyJoined
    ∷ not (some_row is_free t.rows) ⇒ Refusal.NoFreeRow
    ∷ [])
    (with_rows t (on_first is_free (λ w. seated (newcomer t own channel)) t.rows))

abbrev pub join_of : Table → List ℕ → ℕ → Stepped
join_of t own channel = stepped t (join_means t own channel)

-- ---- leaving

unfoldable pub leave_means : Table → List ℕ → Outcome Table
leave_means t own = judged (not (is_joined t own) ⇒ Refusal.NotJoined ∷ []) (with_rows t (on_first (is_of own) (λ w. free) t.rows))

abbrev pub leave_of : Table → List ℕ → Stepped
leave_of t own = stepped t (leave_means t own)

-- ---- the clock: 14 for the whole table, or every joined row advances

abbrev pub ticked_table : Table → ℕ → Table
ticked_table t n = record { ap = t.ap; interval = t.interval; clock = t.clock + n; rows = ticked n t.rows }

unfoldable pub tick_means : Table → ℕ → Outcome Table
tick_means t n = judged ((ltb unit_limit n || ltb clock_limit (t.clock + n)) ⇒ Refusal.PastClock ∷ []) (ticked_table t n)

abbrev pub tick_of : Table → ℕ → Stepped
tick_of t n = stepped t (tick_means t n)

-- ---- frames: "A frame to all ones goes to every row, with one answer even if none is joined, a frame to one address to that row only, and is 4 where that
-- address is not joined"

-- the station as which a frame is read: the one that it is sent to, where that is joined, and else one that only frames to all ones reach
unfoldable pub reader_of : Table → List ℕ → List ℕ
reader_of t f = pick (is_joined t (da f)) (da f) (replicate 6 255)

-- a station that is joined hears a frame of this kind
unfoldable pub hearing : Kind → Row → Row
hearing k w = pick w.joined (seated (heard w.station k)) w

-- to all rows, or to that of the frame's DA
abbrev pub heard_rows : List ℕ → Sent → List Row → List Row
heard_rows f x ws = pick x.to_all (map (hearing x.kind) ws) (on_first (is_of (da f)) (hearing x.kind) ws)

unfoldable pub take_means : Table → List ℕ → Placed Table
take_means t f = and_then (frame_means (reader_of t f) t.ap t.interval f) (λ x. Ok (with_rows t (heard_rows f x t.rows)))

-- the verdict on a frame, and the table after it
abbrev pub taken : Table → Placed Table → Taken
taken t (Err x) = record { verdict = Err x; table = t }
taken t (Ok next) = record { verdict = Ok tt; table = next }

abbrev pub take_of : Table → List ℕ → Taken
take_of t f = taken t (take_means t f)

-- ---- questions: 26 where the address is not joined, and else what its station answers

unfoldable pub ask_means : Table → List ℕ → ℕ → Outcome Permission
ask_means t own n = and_then (station_of t own) (λ s. Ok (permission_of s n))

abbrev pub asked_number : Outcome Permission → ℕ
asked_number (Err r) = number_of r
asked_number (Ok p) = permission_number p
