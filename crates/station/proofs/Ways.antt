-- The ways out of a question: which tests decide, up to the answer. Assumes nothing.
use Rattle.std.specs.Prelude.{Some, None, Option}
use mathlib.Core.Bool.{Bool, true, false}
use mathlib.Core.Path.{◌≡◌, ◌∙◌}
use Prim.Native.Nat.{ℕ, ◌+◌, ◌<◌, ◌≤◌}
use native.Mathlib.Omega.{arith}
use borrow.Author.Tests.{eq-eqb, ne_eqb, lt-ltb, le-ltb}
use lib.Dec.{eqb, ltb}
use Rattle.answer.specs.Checks.{pick}
use Rattle.pending.specs.Waiting.{silences, up_to, comes_before}
use Rattle.pending.specs.declared.Switch.{Switch}
use Rattle.schedule.proofs.FirstUnit.{at_once_lem, not_at_once, among_others}
use Rattle.station.specs.Asking.{quiet, quiet_between, first_quiet, first_of, permission_of}
use Rattle.station.specs.Stations.{unit_limit}
use Rattle.station.specs.Validity.{PendingFits, Valid}
use Rattle.station.specs.declared.Station.{Station}
use Rattle.station.specs.declared.asking.Permission.{Permission}

-- a pending switch lies after the clock, and so does the end of the units before it
past_clock : (p : Option Switch) (t n : ℕ) → PendingFits t p → 0 < n → t < up_to p (t + n)
past_clock None t n f some = omega arith
past_clock (Some x) t n f some = by (ltb x.at (t + n))
  where
    by : (b : Bool) → t < pick b x.at (t + n)
    by true = f.0
    by false = omega arith

pub some_units : (n : ℕ) → 0 < n → eqb n 0 ≡ false
some_units n some = ne_eqb n 0 (λ e. absurd (omega arith))

module _ (s : Station) (n : ℕ) where
  pub no_units : n ≡ 0 → permission_of s n ≡ Permission.WrongLength
  unfolding permission_of first_of
  no_units none = simp (eq-eqb n 0 none)

  pub too_many : unit_limit < n → permission_of s n ≡ Permission.WrongLength
  unfolding permission_of first_of
  too_many many = simp (some_units n (omega arith), lt-ltb unit_limit n many)

  module _ (some : 0 < n) (few : n ≤ unit_limit) where
    pub silenced : silences s.pending ≡ true → permission_of s n ≡ Permission.SwitchSilences
    unfolding permission_of first_of
    silenced e = simp (some_units n some, le-ltb unit_limit n few, e)

    -- where no switch silences, the first quiet unit of those before the switch decides
    module _ (heard : silences s.pending ≡ false) (v : Valid s) where
      abbrev to : ℕ
      to = up_to s.pending (s.clock + n)

      ahead : s.clock < to
      ahead = past_clock s.pending s.clock n v.pending_fits some

      pub quiet_now : first_quiet s to ≡ s.clock → permission_of s n ≡ Permission.QuietNow
      unfolding permission_of first_of
      quiet_now e = simp (some_units n some, le-ltb unit_limit n few, heard, at_once_lem (quiet s) s.clock to ahead e)

      module _ (other : first_quiet s to ≡ s.clock → ⊥) where
        not_now : quiet s s.clock ≡ false
        not_now = not_at_once (quiet s) s.clock to ahead other

        later : quiet_between s (s.clock + 1) to ≡ ltb (first_quiet s to) to
        later = among_others (quiet s) s.clock to ahead not_now

        pub quiet_later : first_quiet s to < to → permission_of s n ≡ Permission.QuietLater
        unfolding permission_of first_of
        quiet_later h = simp (some_units n some, le-ltb unit_limit n few, heard, not_now, later ∙ lt-ltb (first_quiet s to) to h)

        module _ (free : to ≤ first_quiet s to) where
          none_later : quiet_between s (s.clock + 1) to ≡ false
          none_later = later ∙ le-ltb (first_quiet s to) to free

          pub switch_before : comes_before s.pending (s.clock + n) ≡ true → permission_of s n ≡ Permission.SwitchBefore
          unfolding permission_of first_of
          switch_before e = simp (some_units n some, le-ltb unit_limit n few, heard, not_now, none_later, e)

          pub granted : comes_before s.pending (s.clock + n) ≡ false → permission_of s n ≡ Permission.Granted
          unfolding permission_of first_of
          granted e = simp (some_units n some, le-ltb unit_limit n few, heard, not_now, none_later, e)

pub ruleset ways = (no_units, too_many, silenced, quiet_now, quiet_later, switch_before, granted)
