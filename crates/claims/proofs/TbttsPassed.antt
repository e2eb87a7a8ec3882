-- TBTTs counted unit by unit are those that are counted one after the other, and an owner is given up exactly at one of them (02, Five). Assumes nothing.
use mathlib.Core.Bool.{Bool, true, false, ◌&&◌}
use mathlib.Core.Logic.{◌⊎◌, inl, inr, ⊎_elim}
use mathlib.Core.Path.{◌≡◌, refl, sym, ap, ap₂, ◌∙◌, subst}
use Prim.Native.Nat.{ℕ, zero, suc, ◌+◌, ◌*◌, ◌/◌, ◌<◌, ◌≤◌}
use native.Mathlib.Nat.{div-mul-le_self, lt-div-mul-add, suc-mul}
use native.Mathlib.Omega.{arith}
use borrow.Author.Tests.{leb-true, leb-false, le-leb}
use lib.Dec.{leb}
use Rattle.answer.proofs.Booleans.{either, both}
use Rattle.answer.specs.Checks.{pick}
use Rattle.owner.proofs.CountingUnits.{passed_tbtts}
use Rattle.owner.specs.Tbtts.{is_tbtt, tbtts_in}
use Rattle.claims.specs.Reigns.{GivenUp, Reign, nobody, reigns, missed_by, at_unit, over_units}
use Rattle.claims.specs.Tbtts.{CountedTo}
use Rattle.claims.proofs.CountingTbtts.{counted_at}

module _ (b : ℕ) (pos : 1 ≤ b) (t n : ℕ) where
  -- the last of them comes within these units
  pub counted_within : (m : ℕ) → 1 ≤ tbtts_in b t n → CountedTo b t (tbtts_in b t n) m → m ≤ t + n
  counted_within m some x =
      let at : m ≡ (t + n) / b * b = counted_at b pos t (tbtts_in b t n) m some x ∙ ap (λ (k : ℕ). k * b) (passed_tbtts b pos t n) in
      omega (arith, at, div-mul-le_self (t + n) b)

  -- and the next one after them
  pub counted_past : (m : ℕ) → CountedTo b t (suc (tbtts_in b t n)) m → t + n < m
  counted_past m x =
      let at : m ≡ suc ((t + n) / b) * b =
      counted_at b pos t (suc (tbtts_in b t n)) m (omega arith) x ∙ ap (λ (k : ℕ). k * b) (let e : t / b + suc (tbtts_in b t n) ≡ suc ((t + n) / b) = omega (arith, passed_tbtts b pos t n) in e) in
      omega (arith, at, suc-mul ((t + n) / b) b, lt-div-mul-add {a = t + n} {b = b} pos)

-- ---- an owner that is given up

module _ (b t : ℕ) (r : Reign) where
  -- at a unit it ends there, or goes on
  at_unit_lem : (u : ℕ) → ((at_unit b u (reigns r) ≡ nobody) × (is_tbtt b u ≡ true) × (r.recovery ≤ missed_by b r u)) ⊎ (at_unit b u (reigns r) ≡ reigns r)
  at_unit_lem u =
      ⊎_elim
      (λ (y : (is_tbtt b u && leb r.recovery (missed_by b r u)) ≡ true).
      let w = both (is_tbtt b u) _ y in inl (ap (λ (z : Bool). pick z nobody (reigns r)) y, w.0, leb-true r.recovery (missed_by b r u) w.1))
      (λ (k : (is_tbtt b u && leb r.recovery (missed_by b r u)) ≡ false). inr (ap (λ (z : Bool). pick z nobody (reigns r)) k))
      (either (is_tbtt b u && leb r.recovery (missed_by b r u)))

  -- the owner is unknown, given up at a TBTT on the way, or goes on
  pub over_units_lem : (n : ℕ) → ((over_units b t n (reigns r) ≡ nobody) × GivenUp b t n r) ⊎ (over_units b t n (reigns r) ≡ reigns r)
  unfolding over_units
  over_units_lem zero = inr refl
  over_units_lem (suc n) =
      ⊎_elim
      (λ (gone, g).
      inl (ap (at_unit b (t + suc n)) gone, record { tbtt = g.tbtt; after = g.after; within = omega (arith, g.within); is_tbtt_lem = g.is_tbtt_lem; missed = g.missed }))
      (λ on.
      ⊎_elim
      (λ (gone, is, m). inl (ap (at_unit b (t + suc n)) on ∙ gone, record { tbtt = t + suc n; after = omega arith; within = omega arith; is_tbtt_lem = is; missed = m }))
      (λ still. inr (ap (at_unit b (t + suc n)) on ∙ still))
      (at_unit_lem (t + suc n)))
      (over_units_lem n)

  not_both : nobody ≡ reigns r → ⊥
  not_both e = let z : ◌≡◌ {A = ℕ} 0 1 = cc in omega arith

  -- at such a unit it does not go on
  ends_there : (u : ℕ) → is_tbtt b u ≡ true → r.recovery ≤ missed_by b r u → at_unit b u (reigns r) ≡ nobody
  ends_there u is m = ap₂ (λ (y z : Bool). pick (y && z) nobody (reigns r)) is (le-leb r.recovery (missed_by b r u) m)

  -- where it goes on, there was no such TBTT
  pub not_given_up : (n : ℕ) → over_units b t n (reigns r) ≡ reigns r → GivenUp b t n r → ⊥
  unfolding over_units
  not_given_up zero e g = omega (arith, g.after, g.within)
  not_given_up (suc n) e g = ⊎_elim (λ (gone, x). not_both (sym (ap (at_unit b (t + suc n)) gone) ∙ e)) (on (not_given_up n)) (over_units_lem n)
    where
      on : (over_units b t n (reigns r) ≡ reigns r → GivenUp b t n r → ⊥) → over_units b t n (reigns r) ≡ reigns r → ⊥
      on before still =
          ⊎_elim
          (λ (y : leb g.tbtt (t + n) ≡ true).
          before still (record { tbtt = g.tbtt; after = g.after; within = leb-true g.tbtt (t + n) y; is_tbtt_lem = g.is_tbtt_lem; missed = g.missed }))
          (λ (k : leb g.tbtt (t + n) ≡ false).
          let last : g.tbtt ≡ t + suc n = omega (arith, leb-false g.tbtt (t + n) k, g.within) in
          not_both
          (sym (ends_there (t + suc n) (subst (λ (u : ℕ). is_tbtt b u ≡ true) last g.is_tbtt_lem) (subst (λ (u : ℕ). r.recovery ≤ missed_by b r u) last g.missed))
          ∙ sym (ap (at_unit b (t + suc n)) still) ∙ e))
          (either (leb g.tbtt (t + n)))
