-- The schedules in use: how many, from one on, and the first unit that they cover. Assumes nothing.
use mathlib.Core.Bool.{Bool}
use mathlib.Core.List.{List, [], ◌∷◌, ◌++◌}
use mathlib.Core.Path.{◌≡◌, refl, sym, ap, ◌∙◌}
use Prim.Native.Nat.{ℕ, ◌+◌, ◌-◌, ◌<◌, ◌≤◌}
use native.Mathlib.Nat.{le_refl}
use native.Mathlib.Numerals.{add-one}
use native.Mathlib.Omega.{arith}
use borrow.Author.Tests.{lt-ltb, le-ltb}
use lib.Dec.{ltb}
use lib.ListN.{length, take, drop, get_or, replicate, drop_of_length-le, take-append-drop}
use lib.Seq.{drop-cons, get_or-take, length-take-le}
use Rattle.answer.proofs.Booleans.{or_go, or_stop}
use Rattle.beacon.specs.Beacons.{quiet_limit}
use Rattle.schedule.proofs.FirstUnit.{first_has, no_units, none_passes, first_at, first_or, first_same}
use Rattle.schedule.specs.Schedules.{covered}
use Rattle.schedule.specs.Units.{first_unit}
use Rattle.schedule.specs.declared.Schedule.{Schedule}
use Rattle.station.specs.Asking.{covered_by, quiet, first_quiet}
use Rattle.station.specs.Stations.{no_schedule, slotted, in_use}
use Rattle.station.specs.Validity.{Valid}
use Rattle.station.specs.declared.Station.{Station}

-- the schedule in slot i is the first from i on of those in the first n slots
pub here : (xs : List Schedule) (n i : ℕ) → n ≤ length xs → i < n → drop i (take n xs) ≡ get_or xs i no_schedule ∷ drop (i + 1) (take n xs)
here xs n i f h =
    drop-cons (take n xs) i no_schedule (omega (arith, length-take-le n xs f)) ∙ rw (get_or-take n xs i no_schedule h, ← add-one i)

-- ---- the first unit from a on and before b that schedules cover, looked at one by one

module _ (xs : List Schedule) (i a b : ℕ) where
  -- it is the first that the others cover before the one that this schedule covers first
  pub looked_here : i < length xs
      → first_unit (covered_by (drop (i + 1) xs)) a (first_unit (covered (get_or xs i no_schedule)) a (b - a) - a) ≡ first_unit (covered_by (drop i xs)) a (b - a)
  unfolding covered_by
  looked_here h =
      let e : drop i xs ≡ get_or xs i no_schedule ∷ drop (i + 1) xs = rw (add-one i) (drop-cons xs i no_schedule h) in
      sym (
      ap (λ (ys : List Schedule). first_unit (covered_by ys) a (b - a)) e
      ∙ first_or (covered (get_or xs i no_schedule)) (covered_by (drop (i + 1) xs)) a (b - a)
      )

  -- past the last there is none
  pub none_left : length xs ≤ i → a ≤ b → first_unit (covered_by (drop i xs)) a (b - a) ≡ b
  unfolding covered_by
  none_left h k =
      ap (λ (ys : List Schedule). first_unit (covered_by ys) a (b - a)) (drop_of_length-le xs {i = i} h) ∙ sym (none_passes (covered_by []) a b k (λ u l m. refl))

pub not_before : (test : ℕ → Bool) (a n : ℕ) → a ≤ first_unit test a n
not_before test a n = (first_has test a n).from

-- ---- what runs on

module _ (s : Station) (b : ℕ) where
  pub none_asked : b ≤ s.clock → first_quiet s b ≡ s.clock
  none_asked h = sym (no_units (quiet s) s.clock b h)

  pub runs_on : s.clock < b → s.clock < s.until → first_quiet s b ≡ s.clock
  unfolding quiet
  runs_on h k =
      sym (first_at (quiet s) s.clock b s.clock (le_refl s.clock) h (λ u l m. absurd (omega arith)) (or_stop (ltb s.clock s.until) _ (lt-ltb s.clock s.until k)))

  -- where it ends before, the schedules decide
  pub by_schedules : s.until ≤ s.clock → first_unit (covered_by (in_use s)) s.clock (b - s.clock) ≡ first_quiet s b
  unfolding quiet
  by_schedules h =
      sym (first_same (quiet s) (covered_by (in_use s)) s.clock (b - s.clock) (λ u l. or_go (ltb u s.until) (le-ltb u s.until (omega arith))))

pub ruleset looks = (looked_here, none_left, not_before, none_asked, runs_on, by_schedules)

-- ---- of a valid station

module _ (s : Station) (v : Valid s) where
  -- as many schedules are in use as it counts
  pub in_use_length : length (in_use s) ≡ s.count
  in_use_length = length-take-le s.count s.schedules (omega (arith, v.slots, v.few))

  -- the schedules in use and blank ones are all its schedules
  pub in_use_slotted : slotted (in_use s) ≡ s.schedules
  in_use_slotted =
      ap (λ (n : ℕ). in_use s ++ replicate (quiet_limit - n) no_schedule) in_use_length
      ∙ ap (λ (xs : List Schedule). in_use s ++ xs) (sym v.rest_blank)
      ∙ take-append-drop s.count s.schedules
