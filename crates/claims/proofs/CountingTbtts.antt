-- The TBTT that a count leads to is (k + count) times B, k being the whole part of t / B (01, "The station"). Assumes nothing.
use mathlib.Core.Bool.{true, false}
use mathlib.Core.Logic.{⊎_elim}
use mathlib.Core.Path.{◌≡◌, refl, sym, ap, ◌∙◌, subst}
use Prim.Native.Nat.{ℕ, zero, suc, ◌+◌, ◌*◌, ◌/◌, ◌<◌, ◌≤◌}
use native.Mathlib.Nat.{mul-le-mul_right, div-mul-le_self, mul-div_cancel}
use native.Mathlib.Omega.{arith}
use borrow.Author.Tests.{ltb-true, ltb-false}
use lib.Dec.{ltb}
use Rattle.answer.proofs.Booleans.{either}
use Rattle.station.proofs.StaysValid.{moment_after}
use Rattle.claims.specs.Tbtts.{Tbtt, NextTbtt, CountedTo}

module _ (b : ℕ) (pos : 1 ≤ b) where
  abbrev tbtt_after : ℕ → ℕ → ℕ
  tbtt_after t n = (t / b + n) * b

  -- no TBTT lies between t and the one that is counted first
  none_between : (t u : ℕ) → t < u → u < tbtt_after t 1 → Tbtt b u → ⊥
  none_between t u lo hi (j, e) =
      ⊎_elim
      (λ (y : ltb (t / b) j ≡ true). omega (arith, e, mul-le-mul_right {m = t / b + 1} {n = j} b (omega (arith, ltb-true (t / b) j y))))
      (λ (n : ltb (t / b) j ≡ false). omega (arith, e, mul-le-mul_right {m = j} {n = t / b} b (ltb-false (t / b) j n), div-mul-le_self t b))
      (either (ltb (t / b) j))

  next_is : (t : ℕ) → NextTbtt b t (tbtt_after t 1)
  next_is t = record { is_tbtt_lem = (t / b + 1, refl); after = moment_after b t 1 pos (omega arith); none_between = none_between t }

  next_only : (t m : ℕ) → NextTbtt b t m → m ≡ tbtt_after t 1
  next_only t m x =
      ⊎_elim
      (λ (y : ltb m (tbtt_after t 1) ≡ true). absurd (none_between t m x.after (ltb-true m (tbtt_after t 1) y) x.is_tbtt_lem))
      (λ (n : ltb m (tbtt_after t 1) ≡ false). ⊎_elim
      (λ (y : ltb (tbtt_after t 1) m ≡ true). absurd (x.none_between (tbtt_after t 1) (next_is t).after (ltb-true (tbtt_after t 1) m y) (next_is t).is_tbtt_lem))
      (λ (k : ltb (tbtt_after t 1) m ≡ false). omega (arith, ltb-false m (tbtt_after t 1) n, ltb-false (tbtt_after t 1) m k))
      (either (ltb (tbtt_after t 1) m)))
      (either (ltb m (tbtt_after t 1)))

  -- from the TBTT that is counted n-th, the next is counted one more
  one_further : (t n : ℕ) → tbtt_after (tbtt_after t n) 1 ≡ tbtt_after t (suc n)
  one_further t n = ap (λ (k : ℕ). (k + 1) * b) (mul-div_cancel (t / b + n) pos) ∙ ap (λ (k : ℕ). k * b) (let e : t / b + n + 1 ≡ t / b + suc n = omega arith in e)

  pub counted_at : (t n m : ℕ) → 1 ≤ n → CountedTo b t n m → m ≡ tbtt_after t n
  unfolding CountedTo
  counted_at t zero m h x = absurd (omega arith)
  counted_at t (suc zero) m h (last, e, x) = next_only last m x ∙ ap (λ (u : ℕ). tbtt_after u 1) e
  counted_at t (suc (suc n)) m h (last, c, x) =
      next_only last m x ∙ ap (λ (u : ℕ). tbtt_after u 1) (counted_at t (suc n) last (omega arith) c) ∙ one_further t (suc n)

  pub counting : (t n : ℕ) → 1 ≤ n → CountedTo b t n (tbtt_after t n)
  unfolding CountedTo
  counting t zero h = absurd (omega arith)
  counting t (suc zero) h = (t, refl, next_is t)
  counting t (suc (suc n)) h =
      (tbtt_after t (suc n), counting t (suc n) (omega arith), subst (NextTbtt b (tbtt_after t (suc n))) (one_further t (suc n)) (next_is (tbtt_after t (suc n))))

  -- a count leads to one moment
  pub one_moment : (t n m m' : ℕ) → CountedTo b t n m → CountedTo b t n m' → m ≡ m'
  unfolding CountedTo
  one_moment t zero m m' x y = x ∙ sym y
  one_moment t (suc n) m m' x y = counted_at t (suc n) m (omega arith) x ∙ sym (counted_at t (suc n) m' (omega arith) y)
