-- Moments that a station keeps fit eight octets: those that a Quiet element and an announcement set, and the ends of runs that have begun. Assumes nothing.
use mathlib.Core.Bool.{Bool, true, false}
use mathlib.Core.List.{List, [], ◌∷◌}
use Prim.Native.Nat.{ℕ, ◌+◌, ◌-◌, ◌*◌, ◌/◌, ◌%◌, ◌<◌, ◌^◌}
use native.Mathlib.Nat.{add-mul, div-mul-le_self, mul-le-mul_right}
use native.Mathlib.Omega.{arith}
use lib.Dec.{ltb}
use Rattle.answer.specs.Checks.{pick}
use Rattle.element.specs.declared.quiet.Quiet.{Quiet}
use Rattle.schedule.specs.Schedules.{set_by, end_begun}
use Rattle.schedule.specs.declared.Schedule.{Schedule}
use Rattle.station.specs.Taking.{schedules_of, later, latest_end}
use Rattle.claims.proofs.HeardFits.{NumbersFit, QuietsFit}
use Rattle.station_record.specs.Fits.{ScheduleFits, AllFit}

-- of two numbers that fit, the one that is picked does
picked_fits : (t : Bool) (d e limit : ℕ) → d < limit → e < limit → pick t d e < limit
picked_fits true d e limit h k = h
picked_fits false d e limit h k = k

-- ---- what is set, where the beacon interval fits two octets and the clock four

-- so many intervals as one octet counts fit three octets
product_small : (c b : ℕ) → c < 256 → b < 256 ^ 2 → c * b < 256 ^ 3
product_small c b h k = omega (arith, mul-le-mul_right {m = c} {n = 255} b (omega arith))

module _ (t b : ℕ) (clock_fits : t < 256 ^ 4) (interval_fits : b < 256 ^ 2) where
  -- and from those that have passed on, five
  moment_small : (c : ℕ) → c < 256 → (t / b + c) * b < 256 ^ 5
  moment_small c h = omega (arith, add-mul (t / b) c b, div-mul-le_self t b, product_small c b h interval_fits)

  -- so the moment of an announcement fits
  pub moment_fits : (c : ℕ) → c < 256 → (t / b + c) * b < 256 ^ 8
  moment_fits c h = omega (arith, moment_small c h)

  -- so does the schedule of a Quiet element
  set_fits : (q : Quiet) → NumbersFit q → ScheduleFits (set_by q (t / b) b)
  set_fits q f = (
    omega (arith, moment_small q.count f.0, f.3),
    omega (arith, product_small q.period b f.1 interval_fits),
    f.2,
  )

  -- and so do those of any number of them
  pub all_set_fit : (qs : List Quiet) → QuietsFit qs → AllFit (schedules_of (t / b) b qs)
  all_set_fit [] all = tt
  all_set_fit (q ∷ qs) all = (set_fits q all.0, all_set_fit qs all.1)

-- ---- what runs on

-- a run that has begun ends no more than its duration after the clock
end_fits : (x : Schedule) (t : ℕ) → ScheduleFits x → t < 256 ^ 4 → end_begun x t < 256 ^ 8
unfolding end_begun
end_fits x t f h =
    picked_fits (ltb t x.start) 0 (t - (t - x.start) % x.period + x.duration) (256 ^ 8) (omega arith) (omega (arith, f.2))

-- so the latest end fits where the older one does
pub latest_fits : (t e : ℕ) (xs : List Schedule) → AllFit xs → t < 256 ^ 4 → e < 256 ^ 8 → latest_end t e xs < 256 ^ 8
unfolding latest_end
latest_fits t e [] all h k = k
latest_fits t e (x ∷ xs) all h k =
    let one_end = end_fits x t all.0 h in
    latest_fits t (later e (end_begun x t)) xs all.1 h (picked_fits (ltb e (end_begun x t)) (end_begun x t) e (256 ^ 8) one_end k)
