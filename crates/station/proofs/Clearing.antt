-- Where nothing stands against sending, questions are granted, and the clock does not change that. Assumes nothing.
use Rattle.std.specs.Prelude.{Some, None, Option}
use mathlib.Core.Bool.{Bool, true, false}
use mathlib.Core.Path.{◌≡◌, refl, ap}
use Prim.Native.Nat.{ℕ, ◌+◌, ◌-◌, ◌≤◌}
use native.Mathlib.Omega.{arith}
use borrow.Author.Tests.{le-ltb, ltb-false}
use lib.Dec.{ltb}
use Rattle.answer.specs.Checks.{pick}
use Rattle.pending.specs.Waiting.{silences, up_to, comes_before}
use Rattle.schedule.proofs.FirstUnit.{some_none, first_has}
use Rattle.station.specs.Asking.{quiet, first_quiet, first_of, permission_of}
use Rattle.station.specs.Clear.{Clear, clear_until}
use Rattle.station.specs.Stations.{unit_limit, with_clock}
use Rattle.station.specs.Validity.{PendingFits}
use Rattle.station.specs.declared.Station.{Station}
use Rattle.station.specs.declared.asking.Permission.{Permission}
use Rattle.station.proofs.Ways.{some_units}
use Rattle.pending.specs.declared.Switch.{Switch}

-- ---- the pending switch

-- one that does not come before a moment does not come before an earlier one
not_before : (p : Option Switch) {c e : ℕ} → comes_before p c ≡ false → e ≤ c → comes_before p e ≡ false
not_before None f h = refl
not_before (Some x) {c} {e} f h = le-ltb x.at e (let g = ltb-false x.at c f in omega (arith, g, h))

not_cut : (p : Option Switch) {e : ℕ} → comes_before p e ≡ false → up_to p e ≡ e
not_cut None f = refl
not_cut (Some x) {e} f = ap (λ (b : Bool). pick b x.at e) f

-- up to it, it does not come
up_to_it : (p : Option Switch) {t e : ℕ} → PendingFits t p → t ≤ e → (t ≤ up_to p e) × (comes_before p (up_to p e) ≡ false)
up_to_it None f h = (h, refl)
up_to_it (Some x) {t} {e} f h = by (ltb x.at e) refl
  where
    by : (b : Bool) → ltb x.at e ≡ b → (t ≤ pick b x.at e) × (ltb x.at (pick b x.at e) ≡ false)
    by true g = (omega (arith, f), le-ltb x.at x.at (omega arith))
    by false g = (h, g)

not_yet : (t : ℕ) (p : Option Switch) → PendingFits t p → comes_before p t ≡ false
not_yet t None f = refl
not_yet t (Some x) f = le-ltb x.at t (omega (arith, f))

-- ---- where it is clear

pub nothing_clear : (s : Station) → Clear s 0
nothing_clear s = record { free = λ u l h. absurd (omega arith); unsilenced = λ h. absurd (omega arith); before_switch = never s.pending }
  where
    never : (p : Option Switch) → comes_before p 0 ≡ false
    never None = refl
    never (Some x) = le-ltb x.at 0 (omega arith)

pub until_clear : (s : Station) → PendingFits s.clock s.pending → Clear s (clear_until s)
unfolding clear_until
until_clear s f = by (silences s.pending) refl
  where
    by : (b : Bool) → silences s.pending ≡ b → Clear s (pick b s.clock (first_quiet s (up_to s.pending (s.clock + unit_limit))))
    by true e = record { free = λ u l h. absurd (omega arith); unsilenced = λ h. absurd (omega arith); before_switch = not_yet s.clock s.pending f }
    by false e =
        let end = up_to_it s.pending {t = s.clock} {e = s.clock + unit_limit} f (omega arith) in
        let first = first_has (quiet s) s.clock (up_to s.pending (s.clock + unit_limit) - s.clock) in
        record { free = first.none_before; unsilenced = λ h. e; before_switch = not_before s.pending end.1 (omega (arith, end.0, first.up_to_lem)) }

-- the clock alone changes nothing of it
pub later_clear : {s : Station} {c : ℕ} (t : ℕ) → s.clock ≤ t → Clear s c → Clear (with_clock s t) c
unfolding quiet
later_clear t h k = record { free = λ u l g. k.free u (omega arith) g; unsilenced = λ g. k.unsilenced (omega arith); before_switch = k.before_switch }

pub clear_granted : (s : Station) (c n : ℕ) → Clear s c → 1 ≤ n → n ≤ unit_limit → s.clock + n ≤ c → permission_of s n ≡ Permission.Granted
unfolding permission_of first_of
clear_granted s c n k some few within =
    let unswitched = not_before s.pending k.before_switch within in
    let uncut = not_cut s.pending unswitched in
    simp (
      some_units n some,
      le-ltb unit_limit n few,
      k.unsilenced (omega arith),
      k.free s.clock (omega arith) (omega arith),
      some_none (quiet s) (s.clock + 1) (up_to s.pending (s.clock + n) - (s.clock + 1)) (λ u l h. k.free u (omega arith) (omega (arith, uncut))),
      unswitched,
    )
