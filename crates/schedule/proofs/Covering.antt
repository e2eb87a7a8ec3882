-- Which units a schedule covers: the test says what the runs say, and where the first covered unit lies. Assumes nothing.
use mathlib.Core.Bool.{true, false}
use mathlib.Core.Logic.{◌⊎◌, inl, inr, ⊎_elim}
use mathlib.Core.Path.{◌≡◌, refl, sym, ap, ◌∙◌}
use Prim.Native.Nat.{ℕ, zero, suc, ◌+◌, ◌-◌, ◌*◌, ◌/◌, ◌%◌, ◌<◌, ◌≤◌}
use native.Mathlib.Nat.{mod-zero, mod-lt, mod-eq_of_lt, mod_self, mod-add-mod, div-add-mod', add-mul-mod_self_right, mod-le, zero-mod, div-zero, div-mul-le_self, le_refl, sub_self}
use native.Mathlib.Omega.{arith}
use borrow.Author.Tests.{lt-ltb, le-ltb, ltb-true, ltb-false}
use lib.Dec.{ltb}
use Rattle.answer.proofs.Booleans.{clash, either}
use Rattle.schedule.specs.declared.Schedule.{Schedule}
use Rattle.schedule.specs.Schedules.{Covers, covered}
use Rattle.schedule.specs.Units.{first_unit}
use Rattle.schedule.proofs.FirstUnit.{no_units, none_passes, first_at}

zero_or_more : (n : ℕ) → (n ≡ 0) ⊎ (0 < n)
zero_or_more zero = inl refl
zero_or_more (suc n) = inr (omega arith)

-- ---- one unit

module _ (s : Schedule) where
  pub before_start : (u : ℕ) → u < s.start → covered s u ≡ false
  unfolding covered
  before_start u h = simp (lt-ltb _ _ h)

  pub from_start : (u : ℕ) → s.start ≤ u → covered s u ≡ ltb ((u - s.start) % s.period) s.duration
  unfolding covered
  from_start u h = simp (le-ltb _ _ h)

  from_start_once : (u : ℕ) → s.start ≤ u → s.period ≡ 0 → covered s u ≡ ltb (u - s.start) s.duration
  from_start_once u h e =
      from_start u h ∙ ap (λ (n : ℕ). ltb n s.duration) (ap (λ (p : ℕ). (u - s.start) % p) e ∙ mod-zero (u - s.start))

  -- the unit is at the start or after it, or before it
  sides : (u : ℕ) {A : Type 0} → (u < s.start → A) → (s.start ≤ u → A) → A
  sides u before after = ⊎_elim (λ (y : ltb u s.start ≡ true). before (ltb-true _ _ y)) (λ (n : ltb u s.start ≡ false). after (ltb-false u s.start n)) (either (ltb u s.start))

  never : (u : ℕ) → s.duration ≡ 0 → covered s u ≡ false
  never u e =
      sides u (before_start u) (λ h. from_start u h ∙ le-ltb ((u - s.start) % s.period) s.duration (omega arith))

  at_start : 0 < s.duration → covered s s.start ≡ true
  at_start h =
      from_start s.start (le_refl _) ∙ lt-ltb ((s.start - s.start) % s.period) s.duration (simp (sub_self, zero-mod) h)

  -- n units past u, short of the next run, the run is n units older
  within_run : (u n : ℕ) → s.start ≤ u → (u - s.start) % s.period + n < s.period → (u + n - s.start) % s.period ≡ (u - s.start) % s.period + n
  within_run u n h b =
      ap (λ (x : ℕ). x % s.period) (let e : u + n - s.start ≡ u - s.start + n = omega arith in e)
      ∙ sym (mod-add-mod (u - s.start) s.period n) ∙ mod-eq_of_lt b

  -- how many units past u the next run begins
  abbrev pub to_next : ℕ → ℕ
  to_next u = s.period - (u - s.start) % s.period

  next_run : (u : ℕ) → s.start ≤ u → 0 < s.period → (u + to_next u - s.start) % s.period ≡ 0
  next_run u h b =
      ap (λ (x : ℕ). x % s.period) (let e : u + to_next u - s.start ≡ u - s.start + to_next u = omega arith in e)
      ∙ sym (mod-add-mod (u - s.start) s.period (to_next u))
      ∙ ap (λ (x : ℕ). x % s.period) (let e : (u - s.start) % s.period + to_next u ≡ s.period = omega (arith, mod-lt (u - s.start) b) in e)
      ∙ mod_self s.period

  -- the latest run that has begun by u is number 0 where there is no period
  pub latest_repeats : (u : ℕ) → ((u - s.start) / s.period ≡ 0) ⊎ (0 < s.period)
  latest_repeats u =
      ⊎_elim (λ (z : s.period ≡ 0). inl (ap (λ (p : ℕ). (u - s.start) / p) z ∙ div-zero (u - s.start))) (λ (z : 0 < s.period). inr z) (zero_or_more s.period)

  -- from the start of any run that has begun by u, the latest is as far away
  pub same_age : (u j : ℕ) → s.start + j * s.period ≤ u → (u - s.start) % s.period ≡ (u - (s.start + j * s.period)) % s.period
  same_age u j h =
      ap (λ (n : ℕ). n % s.period) (let q : u - s.start ≡ u - (s.start + j * s.period) + j * s.period = omega arith in q)
      ∙ add-mul-mod_self_right (u - (s.start + j * s.period)) j s.period

-- ---- the first unit from a on and before b: a law for each way out of `first_covered`

module _ (s : Schedule) (a b : ℕ) where
  pub first_never : a < b → s.duration ≡ 0 → b ≡ first_unit (covered s) a (b - a)
  first_never h e = none_passes (covered s) a b (omega arith) (λ u l k. never s u e)

  pub first_starts : (s.duration ≡ 0 → ⊥) → a < s.start → s.start < b → s.start ≡ first_unit (covered s) a (b - a)
  first_starts d h k = first_at (covered s) a b s.start (omega arith) k (λ u l m. before_start s u m) (at_start s (omega arith))

  pub first_to_come : a < b → b ≤ s.start → b ≡ first_unit (covered s) a (b - a)
  first_to_come h k = none_passes (covered s) a b (omega arith) (λ u l m. before_start s u (omega arith))

  first_here : a < b → covered s a ≡ true → a ≡ first_unit (covered s) a (b - a)
  first_here h e = first_at (covered s) a b a (le_refl a) h (λ u l k. absurd (omega arith)) e

  pub first_once : a < b → s.start ≤ a → s.period ≡ 0 → a - s.start < s.duration → a ≡ first_unit (covered s) a (b - a)
  first_once h st e k = first_here h (from_start_once s a st e ∙ lt-ltb (a - s.start) s.duration k)

  pub first_over : a < b → s.start ≤ a → s.period ≡ 0 → s.duration ≤ a - s.start → b ≡ first_unit (covered s) a (b - a)
  first_over h st e k =
      none_passes (covered s) a b (omega arith)
      (λ u l m. from_start_once s u (omega arith) e ∙ le-ltb (u - s.start) s.duration (omega arith))

  pub first_running : a < b → s.start ≤ a → (a - s.start) % s.period < s.duration → a ≡ first_unit (covered s) a (b - a)
  first_running h st k = first_here h (from_start s a st ∙ lt-ltb _ _ k)

  -- between two runs
  module _ (st : s.start ≤ a) (pp : s.period ≡ 0 → ⊥) (k : s.duration ≤ (a - s.start) % s.period) where
    between : (u : ℕ) → a ≤ u → u < a + to_next s a → covered s u ≡ false
    between u l m =
        from_start s u (omega arith)
        ∙ le-ltb ((u - s.start) % s.period) s.duration
        (omega (arith, ap (λ (n : ℕ). (n - s.start) % s.period) (let e : a + (u - a) ≡ u = omega arith in e), within_run s a (u - a) st (omega arith)))

    pub first_next : (s.duration ≡ 0 → ⊥) → to_next s a < b - a → a + to_next s a ≡ first_unit (covered s) a (b - a)
    first_next d m = first_at (covered s) a b (a + to_next s a) (omega arith) (omega arith) between begins
      where
        begins : covered s (a + to_next s a) ≡ true
        begins =
            from_start s (a + to_next s a) (omega arith)
            ∙ lt-ltb ((a + to_next s a - s.start) % s.period) s.duration (omega (arith, next_run s a st (omega arith)))

    pub first_after : a < b → b - a ≤ to_next s a → b ≡ first_unit (covered s) a (b - a)
    first_after h m = none_passes (covered s) a b (omega arith) (λ u l n. between u l (omega arith))

-- ---- the test and the runs

module _ (s : Schedule) (u : ℕ) where
  pub covered_covers : covered s u ≡ true → Covers s u
  covered_covers e = (
    (u - s.start) / s.period,
    record {
      repeats = latest_repeats s u;
      begun = omega (arith, div-mul-le_self (u - s.start) s.period, started);
      not_over = omega (arith, div-add-mod' (u - s.start) s.period, short, started);
    },
  )
    where
      started : s.start ≤ u
      started = sides s u (λ h. clash (sym e ∙ before_start s u h)) (λ h. h)

      short : (u - s.start) % s.period < s.duration
      short = ltb-true ((u - s.start) % s.period) s.duration (sym (from_start s u started) ∙ e)

  pub covers_covered : Covers s u → covered s u ≡ true
  covers_covered (j, run) =
      from_start s u (omega (arith, run.begun))
      ∙ lt-ltb ((u - s.start) % s.period) s.duration (omega (arith, same_age s u j run.begun, mod-le (u - (s.start + j * s.period)) s.period, run.begun, run.not_over))

-- the ways out of `first_covered`
pub ruleset ways = (no_units, first_never, first_starts, first_to_come, first_once, first_over, first_running, first_next, first_after)
