-- The latest end of the runs that have begun: it is one of them, and none is later (02, Two). Assumes nothing.
use mathlib.Core.Path.{◌≡◌, ap, ◌∙◌}
use Prim.Native.Nat.{ℕ, ◌+◌, ◌-◌, ◌*◌, ◌/◌, ◌%◌, ◌<◌, ◌≤◌}
use native.Mathlib.Nat.{div-add-mod', div-mul-le_self, mod-le, mod-zero}
use native.Mathlib.Omega.{arith}
use borrow.Author.Tests.{lt-ltb, le-ltb}
use Rattle.schedule.specs.declared.Schedule.{Schedule}
use Rattle.schedule.specs.Schedules.{EndsAt, end_begun}
use Rattle.schedule.proofs.Covering.{latest_repeats, same_age}

module _ (s : Schedule) (t : ℕ) where
  pub none_begun : t < s.start → end_begun s t ≡ 0
  unfolding end_begun
  none_begun h = simp (lt-ltb _ _ h)

  pub some_begun : s.start ≤ t → end_begun s t ≡ t - (t - s.start) % s.period + s.duration
  unfolding end_begun
  some_begun h = simp (le-ltb _ _ h)

  pub once_begun : s.start ≤ t → s.period ≡ 0 → end_begun s t ≡ s.start + s.duration
  once_begun h e =
      some_begun h ∙ omega (arith, ap (λ (p : ℕ). (t - s.start) % p) e ∙ mod-zero (t - s.start))

  pub is_end : s.start ≤ t → EndsAt s t (end_begun s t)
  is_end h = (
    (t - s.start) / s.period,
    record {
      repeats = latest_repeats s t;
      begun = omega (arith, div-mul-le_self (t - s.start) s.period);
      ends = some_begun h ∙ omega (arith, div-add-mod' (t - s.start) s.period);
    },
  )

  pub none_later : (e : ℕ) → EndsAt s t e → e ≤ end_begun s t
  none_later e (j, run) =
      omega (
        arith,
        run.begun,
        run.ends,
        some_begun (omega (arith, run.begun)),
        same_age s t j run.begun,
        mod-le (t - (s.start + j * s.period)) s.period,
      )

pub ruleset begun_or_not = (none_begun, some_begun)
