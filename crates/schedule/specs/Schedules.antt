-- A quiet schedule (01, "The station"): "A Quiet element starts at S = (k + count) times B + offset and covers S to S + duration − 1;
-- with period p > 0 again at S + j times p times B for every j ≥ 1."
use Rattle.std.specs.Prelude.{Bool, not, ◌&&◌, ◌⊎◌, ◌≡◌, ℕ, ◌+◌, ◌-◌, ◌*◌, ◌%◌, ◌<◌, ◌≤◌, ltb}
use Rattle.answer.specs.Checks.{pick}
use Rattle.element.specs.declared.quiet.Quiet.{Quiet}
use Rattle.schedule.specs.declared.Schedule.{Schedule}

-- the schedule of the element, k whole beacon intervals of b units having passed
abbrev pub set_by : Quiet → ℕ → ℕ → Schedule
set_by q k b = record { start = (k + q.count) * b + q.offset; period = q.period * b; duration = q.duration }

-- the unit u lies in run number j: run 0, or with a period any later one
pub record Run (s : Schedule) (u j : ℕ) : Type 0 where
  pub repeats : (j ≡ 0) ⊎ (0 < s.period)
  pub begun : s.start + j * s.period ≤ u
  pub not_over : u < s.start + j * s.period + s.duration

-- the schedule covers the unit: it lies in some run
abbrev pub Covers : Schedule → ℕ → Type 0
Covers s u = (j : ℕ) × Run s u j

-- the same as a test, by how far the unit lies past the start of the latest run (x % 0 is x); `Covering` proves them the same
unfoldable pub covered : Schedule → ℕ → Bool
covered s u = not (ltb u s.start) && ltb ((u - s.start) % s.period) s.duration

-- run number j has begun by the moment t, and e is the first unit after it
pub record HasBegun (s : Schedule) (t e j : ℕ) : Type 0 where
  pub repeats : (j ≡ 0) ⊎ (0 < s.period)
  pub begun : s.start + j * s.period ≤ t
  pub ends : e ≡ s.start + j * s.period + s.duration

-- some run that has begun by t ends there
abbrev pub EndsAt : Schedule → ℕ → ℕ → Type 0
EndsAt s t e = (j : ℕ) × HasBegun s t e j

-- the latest such end, by how far t lies past the start of the latest run; 0 where none has begun (02, Two: "the latest end counts"). `Ends` proves
-- that it is one of them and that none is later
unfoldable pub end_begun : Schedule → ℕ → ℕ
end_begun s t = pick (ltb t s.start) 0 (t - (t - s.start) % s.period + s.duration)
