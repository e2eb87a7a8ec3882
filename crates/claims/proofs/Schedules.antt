-- Quiet schedules: each promise leaves one outcome, the first covered unit is the first that lies in a run, and an end is the latest of the runs that have begun. Assumes nothing.
use mathlib.Core.Bool.{true}
use mathlib.Core.Path.{◌≡◌, sym, ◌∙◌}
use Prim.Native.Nat.{ℕ, ◌+◌, ◌<◌, ◌≤◌}
-- where a run has begun it is the end of one, and none of those that have begun ends later; where none has, it is 0
pub use Rattle.schedule.proofs.Ends.{is_end, none_later, none_begun}
use Rattle.schedule.proofs.Schedule.end_begun as EndBegun
use Rattle.schedule.proofs.Schedule.first_covered as FirstCovered
use Rattle.schedule.proofs.Schedule.set_by as SetBy
use Rattle.schedule.proofs.Covering.{covered_covers, covers_covered}
use Rattle.schedule.proofs.FirstUnit.{found, some_one, first_has}
use Rattle.schedule.specs.Schedules.{Covers, covered}
use Rattle.schedule.specs.Units.{some_unit, first_unit}
use Rattle.schedule.specs.declared.Schedule.{Schedule}
use Rattle.answer.proofs.Booleans.{clash}
use Rattle.answer.specs.Outcomes.{OneResult}
use Rattle.claims.proofs.Same.{once}

pub set_by_lem : OneResult 0 SetBy.Kinds.ps SetBy.Kinds.r SetBy.Reads.Post
set_by_lem κs a e f x y p q = once p q

pub first_covered : OneResult 0 FirstCovered.Kinds.ps FirstCovered.Kinds.r FirstCovered.Reads.Post
first_covered κs a e f x y p q = once p q

pub end_begun_lem : OneResult 0 EndBegun.Kinds.ps EndBegun.Kinds.r EndBegun.Reads.Post
end_begun_lem κs a e f x y p q = once p q

-- one of the n units from a on lies in a run
abbrev pub SomeCovered : Schedule → ℕ → ℕ → Type 0
SomeCovered s a n = (u : ℕ) × (a ≤ u) × (u < a + n) × Covers s u

pub yes_covered : (s : Schedule) (a n : ℕ) → some_unit (covered s) a n ≡ true → SomeCovered s a n
yes_covered s a n e = let w = found (covered s) a n e in (w.0, w.1, w.2, covered_covers s w.0 w.3)

pub covered_yes : (s : Schedule) (a n : ℕ) → SomeCovered s a n → some_unit (covered s) a n ≡ true
covered_yes s a n (u, lo, hi, c) = some_one (covered s) a n u lo hi (covers_covered s u c)

-- the first of them lies in a run where it is one of them, and none before it does
pub first_lies : (s : Schedule) (a n : ℕ) → first_unit (covered s) a n < a + n → Covers s (first_unit (covered s) a n)
first_lies s a n h = covered_covers s (first_unit (covered s) a n) ((first_has (covered s) a n).passes h)

pub none_earlier : (s : Schedule) (a n u : ℕ) → a ≤ u → u < first_unit (covered s) a n → Covers s u → ⊥
none_earlier s a n u lo hi c = clash (sym (covers_covered s u c) ∙ (first_has (covered s) a n).none_before u lo hi)
