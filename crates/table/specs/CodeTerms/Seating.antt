-- A station that may be joined, but for the rows (02, Six), and the row that it takes.
use Rattle.std.specs.Prelude.{ℕ, not, [], ◌∷◌, Ok, Err, Some, None, Option}
use Rattle.answer.specs.Checks.{Outcome, ◌⇒◌, judged}
use Rattle.answer.specs.declared.Refusal.{Refusal}
use Rattle.row.specs.Rows.{seated, is_free}
use Rattle.station.specs.declared.Station.{Station}
use Rattle.table.specs.Tables.{with_rows, some_row, on_first, is_joined}
use Rattle.table.specs.declared.Table.{Table}

unfoldable pub seat_means : Table → Station → Outcome Table
seat_means t s =
    judged (is_joined t s.own ⇒ Refusal.AlreadyJoined ∷ not (some_row is_free t.rows) ⇒ Refusal.NoFreeRow ∷ [])
    (with_rows t (on_first is_free (λ w. seated s) t.rows))

-- by the place of a station of its address, and that of the first free row
abbrev pub seat_among : Option ℕ → Option ℕ → Outcome ℕ
seat_among (Some i) vacant = Err Refusal.AlreadyJoined
seat_among None None = Err Refusal.NoFreeRow
seat_among None (Some i) = Ok i
