-- Asking to send n TU (01, "The station"): it covers t to t + n − 1; the first that applies is the answer.
use Rattle.std.specs.Prelude.{Bool, false, ◌||◌, List, [], ◌∷◌, ℕ, ◌+◌, ◌-◌, ltb, eqb}
use Rattle.answer.specs.Checks.{pick}
use Rattle.pending.specs.Waiting.{silences, up_to, comes_before}
use Rattle.schedule.specs.Schedules.{covered}
use Rattle.schedule.specs.Units.{some_unit, first_unit}
use Rattle.schedule.specs.declared.Schedule.{Schedule}
use Rattle.station.specs.Stations.{unit_limit, in_use}
use Rattle.station.specs.declared.Station.{Station}
use Rattle.station.specs.declared.asking.Permission.{Permission}

infix 70 ◌gives◌
-- the number of each answer
abbrev pub permission_number : Permission → ℕ
permission_number Permission.Granted = 0
permission_number Permission.SwitchSilences = 1
permission_number Permission.QuietNow = 2
permission_number Permission.QuietLater = 3
permission_number Permission.SwitchBefore = 4
permission_number Permission.WrongLength = 5

-- whether a case applies, and the answer that it gives
pub record Case : Type 0 where
  pub applies : Bool
  pub answer : Permission

abbrev pub ◌gives◌ : Bool → Permission → Case
t gives p = record { applies = t; answer = p }

-- the first that applies, else granted
unfoldable pub first_of : List Case → Permission
first_of [] = Permission.Granted
first_of (c ∷ cs) = pick c.applies c.answer (first_of cs)

-- some schedule covers the unit
unfoldable pub covered_by : List Schedule → ℕ → Bool
covered_by [] u = false
covered_by (x ∷ xs) u = covered x u || covered_by xs u

-- the unit, the clock's or a later one, is quiet: what runs on covers it (02, Two), or a schedule in use
unfoldable pub quiet : Station → ℕ → Bool
quiet s u = ltb u s.until || covered_by (in_use s) u

-- some unit from a on and before b is quiet
abbrev pub quiet_between : Station → ℕ → ℕ → Bool
quiet_between s a b = some_unit (quiet s) a (b - a)

-- the first quiet unit from the clock on and before b, or the unit after them
abbrev pub first_quiet : Station → ℕ → ℕ
first_quiet s b = first_unit (quiet s) s.clock (b - s.clock)

unfoldable pub permission_of : Station → ℕ → Permission
permission_of s n =
    first_of
    (eqb n 0 gives Permission.WrongLength
    ∷ ltb unit_limit n gives Permission.WrongLength
    ∷ silences s.pending gives Permission.SwitchSilences
    ∷ quiet s s.clock gives Permission.QuietNow
    ∷ quiet_between s (s.clock + 1) (up_to s.pending (s.clock + n)) gives Permission.QuietLater
    ∷ comes_before s.pending (s.clock + n) gives Permission.SwitchBefore
    ∷ [])
