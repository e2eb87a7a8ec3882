-- The rows of a table of stations (02, Six): "a row is joined by an address and left by it"; "the whole row of stations is stepped by one tick call".
use Rattle.std.specs.Prelude.{Bool, true, false, not, ◌&&◌, List, map, ◌≡◌, ℕ, length, All}
use Rattle.answer.specs.Checks.{pick}
use Rattle.answer.specs.Faults.{Placed}
use Rattle.frame.specs.declared.Received.{Received}
use Rattle.header.specs.Headers.{same}
use Rattle.station.specs.Clock.{advance_of}
use Rattle.station.specs.Starting.{blank}
use Rattle.station.specs.Taking.{heard_of}
use Rattle.station.specs.Validity.{Valid}
use Rattle.station.specs.declared.Station.{Station}
use Rattle.row.specs.declared.Row.{Row}

-- "A table has 16 rows"
abbrev pub row_count : ℕ
row_count = 16

-- a row that is not joined holds one fixed blank
abbrev pub free : Row
free = record { joined = false; station = blank }

abbrev pub seated : Station → Row
seated s = record { joined = true; station = s }

-- the station of this address sits there
abbrev pub is_of : List ℕ → Row → Bool
is_of own w = w.joined && same own w.station.own

abbrev pub is_free : Row → Bool
is_free w = not w.joined

-- ---- what the calls make of rows

-- a station that is joined is such that P, and a free row holds one fixed blank
abbrev pub Occupied : (Station → Type 0) → Bool → Station → Type 0
Occupied P true s = P s
Occupied P false s = s ≡ blank

abbrev pub ValidRow : Row → Type 0
ValidRow w = Occupied Valid w.joined w.station

pub record ValidRows (ws : List Row) : Type 0 where
  pub sixteen : length ws ≡ row_count
  pub each : All ValidRow ws

-- ---- the calls of a row

-- a station that is joined advances
unfoldable pub row_ticked : ℕ → Row → Row
row_ticked n w = pick w.joined (seated (advance_of w.station n).station) w

abbrev pub ticked : ℕ → List Row → List Row
ticked n ws = map (row_ticked n) ws

-- a station that is joined hears what was read of a frame
unfoldable pub row_heard : Placed Received → Row → Row
row_heard v w = pick w.joined (seated (heard_of w.station v).station) w
