-- The record says of a unit from the clock on that it is quiet exactly if the history does. Assumes nothing.
use mathlib.Core.Bool.{true, false, ◌||◌}
use mathlib.Core.List.Memᴰ
use mathlib.Core.List.{List, [], ◌∷◌, Memᴰ}
use mathlib.Core.Logic.{◌⊎◌, inl, inr, ⊎_elim, ◌↔◌}
use mathlib.Core.Path.{◌≡◌, refl, sym, ◌∙◌, subst}
use Prim.Native.Nat.{ℕ, ◌<◌, ◌≤◌}
use native.Mathlib.Omega.{arith}
use borrow.Author.Tests.{lt-ltb, ltb-true}
use lib.Dec.{ltb}
use Rattle.answer.proofs.Booleans.{clash, either, or_go, or_stop}
use Rattle.beacon.specs.Beacons.{Told}
use Rattle.schedule.proofs.Covering.{covered_covers, covers_covered}
use Rattle.schedule.specs.Schedules.{Covers, covered}
use Rattle.schedule.specs.declared.Schedule.{Schedule}
use Rattle.station.specs.Asking.{covered_by, quiet}
use Rattle.station.specs.Stations.{in_use}
use Rattle.station.specs.declared.Station.{Station}
use Rattle.claims.specs.Histories.{History, Listener, clock_of}
use Rattle.claims.specs.OpenUnits.{SetUnit, BegunUnit, QuietUnit}
use Rattle.claims.specs.Records.{Agreeing}
use Rattle.claims.specs.Standing.{RunsOn, SetsEach, SchedulesAre, UntilIs}
use Rattle.claims.proofs.BegunRuns.{runs_on_begun, begun_or_runs_on}
use Rattle.claims.proofs.CoveredUnits.{covers_unit, unit_covers}
use Rattle.claims.proofs.Following.{Sound}
use Rattle.claims.proofs.OneSaying.{counts_one}
use Rattle.claims.proofs.SetSchedules.{counts_allowed, counted_once, set_by_some, sets_some}

-- ---- some schedule covers the unit

covered_some : (xs : List Schedule) (u : ℕ) → covered_by xs u ≡ true → (x : Schedule) × Memᴰ x xs × Covers x u
unfolding covered_by
covered_some [] u e = clash (sym e)
covered_some (x ∷ xs) u e =
    ⊎_elim
    (λ (y : covered x u ≡ true). (x, Memᴰ.head refl, covered_covers x u y))
    (λ (n : covered x u ≡ false). let w = covered_some xs u (sym (or_go (covered x u) n) ∙ e) in (w.0, Memᴰ.tail w.1, w.2))
    (either (covered x u))

some_covered : (xs : List Schedule) (u : ℕ) (x : Schedule) → Memᴰ x xs → Covers x u → covered_by xs u ≡ true
unfolding covered_by
some_covered [] u x m c = absurd (Memᴰ.not-nil m)
some_covered (y ∷ xs) u x m c =
    ⊎_elim
    (λ (e : x ≡ y). or_stop _ _ (covers_covered y u (subst (λ (z : Schedule). Covers z u) e c)))
    (λ (l : Memᴰ x xs). later (some_covered xs u x l c))
    (Memᴰ.cases_cons m)
  where
    later : covered_by xs u ≡ true → (covered y u || covered_by xs u) ≡ true
    later e = ⊎_elim (λ (z : covered y u ≡ true). or_stop _ _ z) (λ (z : covered y u ≡ false). or_go _ z ∙ e) (either (covered y u))

module _ (l : Listener) (sound : Sound l) (pos : 1 ≤ l.interval) (h : History) (u : ℕ) where
  -- ---- by the schedules in use

  covered_set : (xs : List Schedule) → SchedulesAre l h xs → covered_by xs u ≡ true → SetUnit l h u
  covered_set xs (inl (f, e)) y = let w = covered_some xs u y in absurd (Memᴰ.not-nil (subst (Memᴰ w.0) e w.1))
  covered_set xs (inr (said, t, counts, each)) y =
      let w = covered_some xs u y in
      let z = set_by_some l t said.quiets xs w.0 each w.1 in
      let q = z.0 in
      (said, t, q, counts, z.1, covers_unit l pos t q w.0 z.2 (counted_once l said.quiets q (counts_allowed l sound h said t counts) z.1) u w.2)

  set_covered : (xs : List Schedule) → SchedulesAre l h xs → SetUnit l h u → covered_by xs u ≡ true
  set_covered xs (inl (f, e)) (said, t, q, counts, m, c) = absurd (f said t counts)
  set_covered xs (inr (said', t', counts', each)) (said, t, q, counts, m, c) =
      let same = counts_one l sound pos h (said', t') (said, t) counts' counts in
      let each' : SetsEach l t said.quiets xs = subst (λ (z : Told × ℕ). SetsEach l z.1 z.0.quiets xs) same each in
      let w = sets_some l t said.quiets xs q each' m in
      some_covered xs u w.0 w.1
      (unit_covers l pos t q w.0 w.2 (counted_once l said.quiets q (counts_allowed l sound h said t counts) m) u c)

  -- ---- by what has begun: from the clock on, the latest end of what runs on is enough, however many run

  module _ (n : ℕ) (until : UntilIs l h n) (from : clock_of l h ≤ u) where
    before_begun : u < n → BegunUnit l h u
    before_begun lt = ⊎_elim (λ (z : n ≡ 0). absurd (omega arith)) runs until.1
      where
        runs : RunsOn l h n → BegunUnit l h u
        runs x = let w = runs_on_begun l sound h n x in (w.0, n, w.1, omega (arith, w.2), lt)

    begun_set_or_before : BegunUnit l h u → SetUnit l h u ⊎ (u < n)
    begun_set_or_before (a, e, begun, lo, hi) = ⊎_elim
        (λ now. inl (now.said, now.accepted, now.quiet, now.counts, now.among, (a, now.begins, lo, omega (arith, now.ends))))
        (λ on. inr (omega (arith, until.0 e on)))
        (begun_or_runs_on l sound h a e begun)

    pub latest_end_enough : QuietUnit l h u ↔ (SetUnit l h u ⊎ (u < n))
    latest_end_enough = (
      λ q. ⊎_elim (λ x. inl x) begun_set_or_before q,
      λ q. ⊎_elim (λ x. inl x) (λ lt. inr (before_begun lt)) q,
    )

  -- ---- the record

  module _ (r : Station) (a : Agreeing l h r) (from : clock_of l h ≤ u) where
    pub quiet_unit : quiet r u ≡ true → QuietUnit l h u
    unfolding quiet
    quiet_unit e =
        ⊎_elim
        (λ (y : ltb u r.until ≡ true). inr (before_begun r.until a.until_told from (ltb-true u r.until y)))
        (λ (n : ltb u r.until ≡ false). inl (covered_set (in_use r) a.schedules_told (sym (or_go (ltb u r.until) n) ∙ e)))
        (either (ltb u r.until))

    set_quiet : SetUnit l h u → quiet r u ≡ true
    unfolding quiet
    set_quiet x =
        ⊎_elim
        (λ (y : ltb u r.until ≡ true). or_stop _ _ y)
        (λ (n : ltb u r.until ≡ false). or_go (ltb u r.until) n ∙ set_covered (in_use r) a.schedules_told x)
        (either (ltb u r.until))

    before_quiet : u < r.until → quiet r u ≡ true
    unfolding quiet
    before_quiet lt = or_stop (ltb u r.until) _ (lt-ltb u r.until lt)

    pub unit_quiet : QuietUnit l h u → quiet r u ≡ true
    unit_quiet q = ⊎_elim set_quiet before_quiet ((latest_end_enough r.until a.until_told from).0 q)
