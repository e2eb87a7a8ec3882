-- TBTTs counted unit by unit are as many as the whole beacon intervals that have passed. Assumes nothing.
use mathlib.Core.Bool.{true, false}
use mathlib.Core.Logic.{⊎_elim}
use mathlib.Core.Path.{◌≡◌, sym, ap, ◌∙◌}
use Prim.Native.Nat.{ℕ, zero, suc, ◌+◌, ◌*◌, ◌-◌, ◌/◌, ◌%◌, ◌<◌, ◌≤◌}
use native.Mathlib.Nat.{div-mul-le_self, lt-div-mul-add, mul-le-mul_right, suc-mul, div-add-mod'}
use native.Mathlib.Omega.{arith}
use borrow.Author.Tests.{ltb-true, ltb-false, eqb-true, eqb-false}
use lib.Dec.{ltb}
use Rattle.answer.proofs.Booleans.{either}
use Rattle.answer.specs.Checks.{pick}
use Rattle.owner.specs.Tbtts.{is_tbtt, tbtts_in}

module _ (b : ℕ) (pos : 1 ≤ b) where
  -- two quotients are in order where one lies in the other's interval
  no_more : (p q m : ℕ) → p * b ≤ m → m < q * b + b → p ≤ q
  no_more p q m lo hi =
      ⊎_elim
      (λ (y : ltb q p ≡ true). absurd (omega (arith, suc-mul q b, mul-le-mul_right {m = suc q} {n = p} b (let h : suc q ≤ p = omega (arith, ltb-true q p y) in h))))
      (λ (n : ltb q p ≡ false). ltb-false q p n)
      (either (ltb q p))

  is_more : (p q : ℕ) → p * b < q * b → p < q
  is_more p q h =
      ⊎_elim
      (λ (y : ltb p q ≡ true). ltb-true p q y)
      (λ (n : ltb p q ≡ false). absurd (omega (arith, mul-le-mul_right {m = q} {n = p} b (ltb-false p q n))))
      (either (ltb p q))

  -- one unit more is one interval more where it ends at a TBTT
  unit_more : (m : ℕ) → suc m / b ≡ m / b + pick (is_tbtt b (suc m)) 1 0
  unit_more m =
      let below = div-mul-le_self m b in
      let above = lt-div-mul-add {a = m} pos in
      let below' = div-mul-le_self (suc m) b in
      let above' = lt-div-mul-add {a = suc m} pos in
      let parts = div-add-mod' (suc m) b in
      ⊎_elim
      (λ (y : is_tbtt b (suc m) ≡ true).
      let whole = eqb-true (suc m % b) 0 y in
      let le = no_more (suc m / b) (suc (m / b)) (suc m) below' (omega (arith, suc-mul (m / b) b)) in
      let ge : m / b < suc m / b = is_more (m / b) (suc m / b) (omega (arith, whole)) in
      simp y (omega arith))
      (λ (n : is_tbtt b (suc m) ≡ false).
      let part = eqb-false (suc m % b) 0 n in
      let le = no_more (suc m / b) (m / b) m (omega arith) above in
      let ge = no_more (m / b) (suc m / b) (suc m) (omega arith) above' in
      simp n (omega arith))
      (either (is_tbtt b (suc m)))

  -- the TBTTs that have passed by t, and those of the n units after it, are those that have passed by then
  pub passed_tbtts : (t n : ℕ) → t / b + tbtts_in b t n ≡ (t + n) / b
  unfolding tbtts_in
  passed_tbtts t zero = let e : t / b + 0 ≡ t / b = omega arith in e ∙ ap (λ (m : ℕ). m / b) (let f : t ≡ t + 0 = omega arith in f)
  passed_tbtts t (suc n) =
      let before = passed_tbtts t n in
      let more = unit_more (t + n) in
      let same : t + suc n ≡ suc (t + n) = omega arith in
      (let e : t / b + (tbtts_in b t n + pick (is_tbtt b (t + suc n)) 1 0) ≡ (t + n) / b + pick (is_tbtt b (t + suc n)) 1 0 = omega (arith, before) in e)
      ∙ ap (λ (m : ℕ). (t + n) / b + pick (is_tbtt b m) 1 0) same
      ∙ sym more ∙ ap (λ (m : ℕ). m / b) (sym same)

  -- and so those that lie after t and no later than u
  pub tbtts_between : (t u : ℕ) → t ≤ u → u / b - t / b ≡ tbtts_in b t (u - t)
  tbtts_between t u h = let w = passed_tbtts t (u - t) ∙ ap (λ (m : ℕ). m / b) (let e : t + (u - t) ≡ u = omega arith in e) in omega (arith, w)

  pub in_order_lem : (t u : ℕ) → t ≤ u → t / b ≤ u / b
  in_order_lem t u h = let w = passed_tbtts t (u - t) ∙ ap (λ (m : ℕ). m / b) (let e : t + (u - t) ≡ u = omega arith in e) in omega (arith, w)
