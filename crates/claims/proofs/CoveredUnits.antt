-- A schedule covers the units that the Quiet element which sets it covers, and its runs are the element's (01, "The station"). Assumes nothing.
use mathlib.Core.Logic.{◌⊎◌, inl, inr, ⊎_elim}
use mathlib.Core.Path.{◌≡◌, ap, ◌∙◌}
use Prim.Native.Nat.{ℕ, zero, suc, ◌+◌, ◌*◌, ◌/◌, ◌<◌, ◌≤◌}
use native.Mathlib.Nat.{add-mul, mul_assoc, mul-le-mul_right}
use native.Mathlib.Omega.{arith}
use Rattle.element.specs.declared.quiet.Quiet.{Quiet}
use Rattle.schedule.specs.Schedules.{Covers, EndsAt}
use Rattle.schedule.specs.declared.Schedule.{Schedule}
use Rattle.claims.specs.Histories.{Listener}
use Rattle.claims.specs.QuietRuns.{RunBegins, CoversUnit}
use Rattle.claims.specs.Standing.{Sets}
use Rattle.claims.proofs.CountingTbtts.{counted_at, counting}

-- a product is over 0 exactly if its factors are
factor : (p b : ℕ) → 0 < p * b → 0 < p
factor zero b h = absurd (omega arith)
factor (suc p) b h = omega arith

product : (p b : ℕ) → 0 < p → 1 ≤ b → 0 < p * b
product p b h k = omega (arith, mul-le-mul_right {m = 1} {n = p} b h)

-- so many periods later it is that many TBTTs later
later_tbtt : (k c j p b : ℕ) → (k + (c + j * p)) * b ≡ (k + c) * b + j * (p * b)
later_tbtt k c j p b =
    ap (λ (n : ℕ). n * b) (let e : k + (c + j * p) ≡ k + c + j * p = omega arith in e) ∙ add-mul (k + c) (j * p) b ∙ ap (λ (n : ℕ). (k + c) * b + n) (mul_assoc j p b)

module _ (l : Listener) (pos : 1 ≤ l.interval) (t : ℕ) (q : Quiet) (x : Schedule) (set : Sets l t q x) (more : 1 ≤ q.count) where
  abbrev at : ℕ → ℕ
  at j = (t / l.interval + (q.count + j * q.period)) * l.interval

  run_start : (j : ℕ) → x.start + j * x.period ≡ at j + q.offset
  run_start j =
      omega (
        arith,
        set.starts,
        ap (λ (n : ℕ). j * n) set.repeats,
        counted_at l.interval pos t q.count set.tbtt more set.counted,
        later_tbtt (t / l.interval) q.count j q.period l.interval,
      )

  -- ---- the runs

  run_begins : (j : ℕ) → (j ≡ 0) ⊎ (0 < x.period) → RunBegins l.interval t q (x.start + j * x.period)
  run_begins j r =
      record {
        later = j;
        may_repeat = ⊎_elim (λ (e : j ≡ 0). inl e) (λ (h : 0 < x.period). inr (factor q.period l.interval (omega (arith, set.repeats)))) r;
        tbtt = at j;
        counted = counting l.interval pos t (q.count + j * q.period) (omega arith);
        begins = run_start j;
      }

  begins_run : (a : ℕ) → RunBegins l.interval t q a → (j : ℕ) × ((j ≡ 0) ⊎ (0 < x.period)) × (a ≡ x.start + j * x.period)
  begins_run a r =
      let j = r.later in (
        j,
        ⊎_elim (λ (e : j ≡ 0). inl e) (λ (h : 0 < q.period). inr (omega (arith, set.repeats, product q.period l.interval h pos))) r.may_repeat,
        omega (arith, run_start j, counted_at l.interval pos t (q.count + j * q.period) r.tbtt (omega arith) r.counted, r.begins),
      )

  -- ---- the units

  module _ (u : ℕ) where
    pub covers_unit : Covers x u → CoversUnit l.interval t q u
    covers_unit (j, run) = (x.start + j * x.period, run_begins j run.repeats, run.begun, omega (arith, run.not_over, set.lasts))

    pub unit_covers : CoversUnit l.interval t q u → Covers x u
    unit_covers (a, r, lo, hi) =
        let w = begins_run a r in
        (w.0, record { repeats = w.1; begun = omega (arith, w.2); not_over = omega (arith, w.2, set.lasts) })

  -- ---- the ends of the runs that have begun by a moment

  module _ (now e : ℕ) where
    pub ends_begun : EndsAt x now e → (a : ℕ) × RunBegins l.interval t q a × (a ≤ now) × (e ≡ a + q.duration)
    ends_begun (j, run) = (x.start + j * x.period, run_begins j run.repeats, run.begun, omega (arith, run.ends, set.lasts))

    pub begun_ends : (a : ℕ) → RunBegins l.interval t q a → a ≤ now → e ≡ a + q.duration → EndsAt x now e
    begun_ends a r le is =
        let w = begins_run a r in
        (w.0, record { repeats = w.1; begun = omega (arith, w.2); ends = omega (arith, w.2, is, set.lasts) })
