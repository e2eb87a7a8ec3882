-- Quiet schedules in three columns of numbers: where they start, their periods, how long they last. A row is a schedule.
use Rattle.std.specs.Prelude.{List, [], ◌∷◌, ◌++◌, map, ℕ, zero, suc, length, drop, get_or, set}
use Rattle.schedule.specs.declared.Schedule.{Schedule}
use Rattle.apart.specs.declared.columns.Columns.{Columns}

abbrev pub columns : List ℕ → List ℕ → List ℕ → Columns
columns ss ps ds = record { starts = ss; periods = ps; durations = ds }

abbrev pub schedule_at : Columns → ℕ → Schedule
schedule_at c i = record { start = get_or c.starts i 0; period = get_or c.periods i 0; duration = get_or c.durations i 0 }

-- the schedules of the first n rows
unfoldable pub schedules_in : ℕ → Columns → List Schedule
schedules_in zero c = []
schedules_in (suc n) c = schedules_in n c ++ (schedule_at c n ∷ [])

-- another schedule in a row
abbrev pub with_row : Columns → ℕ → Schedule → Columns
with_row c i x = columns (set c.starts i x.start) (set c.periods i x.period) (set c.durations i x.duration)

-- schedules in the first rows, and the other rows as they are
unfoldable pub rows_over : List Schedule → Columns → Columns
rows_over xs c =
    columns
    (map (λ x. x.start) xs ++ drop (length xs) c.starts)
    (map (λ x. x.period) xs ++ drop (length xs) c.periods)
    (map (λ x. x.duration) xs ++ drop (length xs) c.durations)
