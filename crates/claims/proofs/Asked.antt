-- Each answer to a question, by the history (00, demand 3; 01, "The station"). Assumes nothing.
use Rattle.std.specs.Prelude.{Some, None, Option}
use mathlib.Core.Bool.{Bool, true, false}
use mathlib.Core.Logic.{inl, inr, ⊎_elim, ◌↔◌}
use mathlib.Core.Path.{◌≡◌, refl, sym, ap, ◌∙◌, subst}
use Prim.Native.Nat.{ℕ, ◌+◌, ◌-◌, ◌<◌, ◌≤◌}
use native.Mathlib.Nat.{le_refl, eq-or-lt_of_le}
use native.Mathlib.Omega.{arith}
use borrow.Author.Tests.{lt-ltb, le-ltb, ltb-true, ltb-false, eq-eqb, ne_eqb, eqb-true, eqb-false}
use lib.Dec.{ltb, eqb}
use Rattle.answer.proofs.Booleans.{clash, either}
use Rattle.element.specs.declared.channel_switch.ChannelSwitch.{ChannelSwitch}
use Rattle.pending.specs.Waiting.{silences, up_to, comes_before}
use Rattle.schedule.proofs.FirstUnit.{found, some_one}
use Rattle.station.specs.Asking.{first_of, quiet, quiet_between, permission_number, permission_of}
use Rattle.station.specs.declared.Station.{Station}
use Rattle.station.specs.declared.asking.Permission.{Permission}
use Rattle.capture_record.specs.declared.entry.Settings.{Settings}
use Rattle.claims.specs.Histories.{History, Listener, clock_of, listener_from}
use Rattle.claims.specs.OpenUnits.{QuietUnit, AllOpen, Waits, QuietLater, SwitchWithin, Applies}
use Rattle.claims.specs.Records.{Agreeing, record_from}
use Rattle.claims.specs.Standing.{Awaits, PendingIs}
use Rattle.claims.proofs.Agreement.{agrees_from}
use Rattle.claims.proofs.Following.{Sound}
use Rattle.claims.proofs.OneSaying.{announced_one, pending_one}
use Rattle.claims.proofs.QuietUnits.{quiet_unit, unit_quiet}
use Rattle.claims.proofs.StationFollows.{sound}
use Rattle.pending.specs.declared.Switch.{Switch}

-- a test that says whether something holds
record Tells-whether (t : Bool) (P : Type 0) : Type 0 where
  pub holds : t ≡ true → P
  pub shows : P → t ≡ true

module _ {t : Bool} {P : Type 0} (x : Tells-whether t P) where
  fails : t ≡ false → P → ⊥
  fails e p = clash (sym (x.shows p) ∙ e)

  denies : (P → ⊥) → t ≡ false
  denies f = ⊎_elim (λ (y : t ≡ true). absurd (f (x.holds y))) (λ (n : t ≡ false). n) (either t)

module _ (l : Listener) (sound : Sound l) (pos : 1 ≤ l.interval) (h : History) (r : Station) (a : Agreeing l h r) where
  -- ---- the pending switch

  abbrev awaited : ℕ → ChannelSwitch → Option Switch
  awaited at w = Some (record { at = at; mode = w.mode; channel = w.channel })

  pending_of : (at : ℕ) (w : ChannelSwitch) → Awaits l h at w → r.pending ≡ awaited at w
  pending_of at w x = pending_one l sound pos h r.pending (awaited at w) a.pending_told (w, x, refl, refl)

  waits : Tells-whether (silences r.pending) (Waits l h)
  waits = record { holds = λ e. by_pending r.pending a.pending_told e; shows = λ x. ap silences (pending_of x.0 x.1 x.2) ∙ eq-eqb x.1.mode 1 x.3 }
    where
      by_pending : (p : Option Switch) → PendingIs l h p → silences p ≡ true → Waits l h
      by_pending None y e = clash (sym e)
      by_pending (Some q) (w, y, m, c) e = (q.at, w, y, m ∙ eqb-true q.mode 1 e)

  within : (n : ℕ) → Tells-whether (comes_before r.pending (r.clock + n)) (SwitchWithin l h n)
  within n =
      record {
        holds = λ e. by_pending r.pending a.pending_told e;
        shows = λ x. ap (λ (p : Option Switch). comes_before p (r.clock + n)) (pending_of x.0 x.1 x.2) ∙ lt-ltb x.0 (r.clock + n) (omega (arith, x.3, a.same_clock));
      }
    where
      by_pending : (p : Option Switch) → PendingIs l h p → comes_before p (r.clock + n) ≡ true → SwitchWithin l h n
      by_pending None y e = clash (sym e)
      by_pending (Some q) (w, y, m, c) e = (q.at, w, y, omega (arith, ltb-true q.at (r.clock + n) e, a.same_clock))

  -- ---- the quiet units

  quiet_now : Tells-whether (quiet r r.clock) (QuietUnit l h (clock_of l h))
  quiet_now =
      record {
        holds = λ e. quiet_unit l sound pos h (clock_of l h) r a (le_refl _) (subst (λ (u : ℕ). quiet r u ≡ true) a.same_clock e);
        shows = λ q. subst (λ (u : ℕ). quiet r u ≡ true) (sym a.same_clock) (unit_quiet l sound pos h (clock_of l h) r a (le_refl _) q);
      }

  -- before the end, and before the pending switch, if any
  abbrev Before : Option Switch → ℕ → ℕ → Type 0
  Before p e u = (u < e) × ((at : ℕ) (w : ChannelSwitch) → Awaits l h at w → u < at)

  up_to_lem : (p : Option Switch) (e u : ℕ) → PendingIs l h p → u < up_to p e → Before p e u
  up_to_lem None e u y lt = (lt, λ at w x. absurd (y at w x))
  up_to_lem (Some q) e u y lt =
      ⊎_elim
      (λ (z : ltb q.at e ≡ true). let k : u < q.at = simp z at lt in (omega (arith, ltb-true q.at e z), λ at w x. omega (arith, same at w x)))
      (λ (z : ltb q.at e ≡ false). let k : u < e = simp z at lt in (k, λ at w x. omega (arith, same at w x, ltb-false q.at e z)))
      (either (ltb q.at e))
    where
      same : (at : ℕ) (w : ChannelSwitch) → Awaits l h at w → q.at ≡ at
      same at w x = ap (λ (z : ℕ × ChannelSwitch). z.0) (announced_one l sound pos h (q.at, y.0) (at, w) y.1.0 x.0)

  up_to_back : (p : Option Switch) (e u : ℕ) → PendingIs l h p → Before p e u → u < up_to p e
  up_to_back None e u y b = b.0
  up_to_back (Some q) e u y b =
      ⊎_elim
      (λ (z : ltb q.at e ≡ true). simp z (b.1 q.at y.0 y.1))
      (λ (z : ltb q.at e ≡ false). simp z b.0)
      (either (ltb q.at e))

  -- after the clock and before the end that the pending switch leaves
  abbrev end : ℕ → ℕ
  end n = up_to r.pending (r.clock + n)

  quiet_later : (n : ℕ) → Tells-whether (quiet_between r (r.clock + 1) (end n)) (QuietLater l h n)
  quiet_later n =
      record {
        holds = λ e.
            let w = found (quiet r) (r.clock + 1) (end n - (r.clock + 1)) e in
            let b = up_to_lem r.pending (r.clock + n) w.0 a.pending_told (omega (arith, w.1, w.2)) in (
              w.0,
              omega (arith, w.1, a.same_clock),
              omega (arith, b.0, a.same_clock),
              b.1,
              quiet_unit l sound pos h w.0 r a (omega (arith, w.1, a.same_clock)) w.3,
            );
        shows = λ x.
            some_one (quiet r) (r.clock + 1) (end n - (r.clock + 1)) x.0
            (omega (arith, x.1, a.same_clock))
            (omega (arith, x.1, a.same_clock, up_to_back r.pending (r.clock + n) x.0 a.pending_told (omega (arith, x.2, a.same_clock), x.3)))
            (unit_quiet l sound pos h x.0 r a (omega (arith, x.1)) x.4);
      }

  -- ---- the answers

  module _ (n : ℕ) where
    all_open : (Waits l h → ⊥) → (QuietUnit l h (clock_of l h) → ⊥) → (QuietLater l h n → ⊥) → (SwitchWithin l h n → ⊥) → AllOpen l h n
    all_open no_wait not-now not-later not-Within u lo hi =
        record {
          before_switch = before;
          no_wait = λ at w x m k. no_wait (at, w, x, m);
          not_set = λ x. not_quiet (inl x);
          not_begun = λ x. not_quiet (inr x);
        }
      where
        before : (at : ℕ) (w : ChannelSwitch) → Awaits l h at w → u < at
        before at w x =
            ⊎_elim
            (λ (y : ltb at (clock_of l h + n) ≡ true). absurd (not-Within (at, w, x, ltb-true at (clock_of l h + n) y)))
            (λ (k : ltb at (clock_of l h + n) ≡ false). omega (arith, ltb-false at (clock_of l h + n) k))
            (either (ltb at (clock_of l h + n)))

        not_quiet : QuietUnit l h u → ⊥
        not_quiet q =
            ⊎_elim
            (λ (e : clock_of l h ≡ u). not-now (subst (QuietUnit l h) (sym e) q))
            (λ (k : clock_of l h < u). not-later (u, k, hi, before, q))
            (eq-or-lt_of_le lo)

    -- the first that applies is the answer
    answer_applies : Applies l h n (permission_of r n)
    unfolding permission_of first_of
    answer_applies =
        ⊎_elim (λ (y : eqb n 0 ≡ true). simp y (inl (eqb-true n 0 y)))
        (λ (n0 : eqb n 0 ≡ false). ⊎_elim (λ (y : ltb 65535 n ≡ true). simp (n0, y) (inr (ltb-true 65535 n y)))
        (λ (n1 : ltb 65535 n ≡ false).
        let right : (1 ≤ n) × (n ≤ 65535) = (omega (arith, eqb-false n 0 n0), ltb-false 65535 n n1) in
        ⊎_elim (λ (y : silences r.pending ≡ true). simp (n0, n1, y) (right, waits.holds y))
        (λ (n2 : silences r.pending ≡ false). ⊎_elim
        (λ (y : quiet r r.clock ≡ true). simp (n0, n1, n2, y) (right, fails waits n2, quiet_now.holds y))
        (λ (n3 : quiet r r.clock ≡ false). ⊎_elim
        (λ (y : quiet_between r (r.clock + 1) (end n) ≡ true).
        simp (n0, n1, n2, n3, y) (right, fails waits n2, fails quiet_now n3, (quiet_later n).holds y))
        (λ (n4 : quiet_between r (r.clock + 1) (end n) ≡ false). ⊎_elim
        (λ (y : comes_before r.pending (r.clock + n) ≡ true).
        simp (n0, n1, n2, n3, n4, y) (right, fails waits n2, fails quiet_now n3, fails (quiet_later n) n4, (within n).holds y))
        (λ (n5 : comes_before r.pending (r.clock + n) ≡ false).
        simp (n0, n1, n2, n3, n4, n5) (right, all_open (fails waits n2) (fails quiet_now n3) (fails (quiet_later n) n4) (fails (within n) n5)))
        (either (comes_before r.pending (r.clock + n))))
        (either (quiet_between r (r.clock + 1) (end n))))
        (either (quiet r r.clock)))
        (either (silences r.pending)))
        (either (ltb 65535 n)))
        (either (eqb n 0))

    -- where every unit is open, nothing else applies
    open_no_wait : 1 ≤ n → AllOpen l h n → Waits l h → ⊥
    open_no_wait more open-all (at, w, x, m) = (open-all (clock_of l h) (le_refl _) (omega arith)).no_wait at w x m x.1

    open_not_quiet : AllOpen l h n → (u : ℕ) → clock_of l h ≤ u → u < clock_of l h + n → QuietUnit l h u → ⊥
    open_not_quiet open-all u lo hi q = ⊎_elim (open-all u lo hi).not_set (open-all u lo hi).not_begun q

    open_not_later : AllOpen l h n → QuietLater l h n → ⊥
    open_not_later open-all (u, lo, hi, before, q) = open_not_quiet open-all u (omega arith) hi q

    open_not_within : AllOpen l h n → SwitchWithin l h n → ⊥
    open_not_within open-all (at, w, x, lt) = let less : at < at = (open-all at (omega (arith, x.1)) lt).before_switch at w x in omega arith

    -- where one applies, it is the answer
    applies_answer : (p : Permission) → Applies l h n p → permission_of r n ≡ p
    unfolding permission_of first_of
    applies_answer Permission.WrongLength (inl e) = simp (eq-eqb n 0 e)
    applies_answer Permission.WrongLength (inr e) = simp (ne_eqb n 0 (λ z. omega arith), lt-ltb 65535 n e)
    applies_answer Permission.SwitchSilences ((lo, hi), w) = simp (ne_eqb n 0 (λ z. omega arith), le-ltb 65535 n hi, waits.shows w)
    applies_answer Permission.QuietNow ((lo, hi), w, q) =
        simp (ne_eqb n 0 (λ z. omega arith), le-ltb 65535 n hi, denies waits w, quiet_now.shows q)
    applies_answer Permission.QuietLater ((lo, hi), w, q, l) =
        simp (ne_eqb n 0 (λ z. omega arith), le-ltb 65535 n hi, denies waits w, denies quiet_now q, (quiet_later n).shows l)
    applies_answer Permission.SwitchBefore ((lo, hi), w, q, l, b) =
        simp (ne_eqb n 0 (λ z. omega arith), le-ltb 65535 n hi, denies waits w, denies quiet_now q, denies (quiet_later n) l, (within n).shows b)
    applies_answer Permission.Granted ((lo, hi), o) =
        simp (
          ne_eqb n 0 (λ z. omega arith),
          le-ltb 65535 n hi,
          denies waits (open_no_wait lo o),
          denies quiet_now (open_not_quiet o (clock_of l h) (le_refl _) (omega arith)),
          denies (quiet_later n) (open_not_later o),
          denies (within n) (open_not_within o),
        )

    -- each answer is given exactly where the history says so
    pub answered : (p : Permission) → (permission_of r n ≡ p) ↔ Applies l h n p
    answered p = (λ e. subst (Applies l h n) e answer_applies, applies_answer p)

    -- and so 0 exactly where each unit is open
    pub granted_open : 1 ≤ n → n ≤ 65535 → (permission_number (permission_of r n) ≡ 0) ↔ AllOpen l h n
    granted_open lo hi =
        let w = answered Permission.Granted in
        (λ e. (w.0 (is_granted (permission_of r n) e)).1, λ o. ap permission_number (w.1 ((lo, hi), o)))
      where
        is_granted : (p : Permission) → permission_number p ≡ 0 → p ≡ Permission.Granted
        is_granted Permission.Granted e = refl
        is_granted Permission.SwitchSilences e = absurd (omega arith)
        is_granted Permission.QuietNow e = absurd (omega arith)
        is_granted Permission.QuietLater e = absurd (omega arith)
        is_granted Permission.SwitchBefore e = absurd (omega arith)
        is_granted Permission.WrongLength e = absurd (omega arith)

-- the station of 01, from any beginning
module _ (t : ℕ) (s : Settings) (pos : 1 ≤ s.interval) (h : History) (n : ℕ) where
  pub answered_from : (p : Permission) → (permission_of (record_from t s h) n ≡ p) ↔ Applies (listener_from t s) h n p
  answered_from p = answered (listener_from t s) (sound t s) pos h (record_from t s h) (agrees_from t s pos h).as_heard n p

  pub granted_from : 1 ≤ n → n ≤ 65535 → (permission_number (permission_of (record_from t s h) n) ≡ 0) ↔ AllOpen (listener_from t s) h n
  granted_from lo hi = granted_open (listener_from t s) (sound t s) pos h (record_from t s h) (agrees_from t s pos h).as_heard n lo hi
