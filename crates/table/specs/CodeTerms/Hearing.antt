-- A frame by the place of the row that it is sent to.
use Rattle.std.specs.Prelude.{List, map, ℕ, ◌<◌, get_or, set, replicate, Some, None, Option}
use Rattle.answer.specs.Faults.{Placed}
use Rattle.frame.specs.declared.Received.{Received}
use Rattle.row.specs.Rows.{row_count, free, row_heard}
use Rattle.row.specs.declared.Row.{Row}

abbrev pub reader_at : Option ℕ → List ℕ → List ℕ
reader_at (Some i) to = to
reader_at None to = replicate 6 255

abbrev pub PlaceWithin : Option ℕ → Type 0
PlaceWithin (Some i) = i < row_count
PlaceWithin None = Unit {0}

abbrev pub rows_after : Option ℕ → Placed Received → List Row → List Row
rows_after (Some i) v ws = set ws i (row_heard v (get_or ws i free))
rows_after None v ws = map (row_heard v) ws
