-- The latest of an end and of those of several schedules: none is later, and it is one of them. Assumes nothing.
use mathlib.Core.Bool.{true, false}
use mathlib.Core.List.Memᴰ
use mathlib.Core.List.{List, [], ◌∷◌, Memᴰ}
use mathlib.Core.Logic.{◌⊎◌, inl, inr, ⊎_elim}
use mathlib.Core.Path.{◌≡◌, refl, sym, ap, ◌∙◌, subst}
use Prim.Native.Nat.{ℕ, ◌<◌, ◌≤◌}
use native.Mathlib.Nat.{le_refl}
use native.Mathlib.Omega.{arith}
use borrow.Author.Tests.{ltb-true, ltb-false}
use lib.Dec.{ltb}
use Rattle.answer.proofs.Booleans.{either}
use Rattle.schedule.proofs.Ends.{none_begun, is_end}
use Rattle.schedule.specs.Schedules.{EndsAt, end_begun}
use Rattle.schedule.specs.declared.Schedule.{Schedule}
use Rattle.station.specs.Taking.{later, latest_end}

-- the later of two is neither's earlier
no_earlier : (d e : ℕ) → (d ≤ later d e) × (e ≤ later d e)
no_earlier d e =
    ⊎_elim
    (λ (y : ltb d e ≡ true). let lt = ltb-true d e y in simp y (omega arith, le_refl e))
    (λ (n : ltb d e ≡ false). let le = ltb-false d e n in simp n (le_refl d, le))
    (either (ltb d e))

module _ (t : ℕ) where
  pub after_first : (xs : List Schedule) (e : ℕ) → e ≤ latest_end t e xs
  unfolding latest_end
  after_first [] e = le_refl e
  after_first (x ∷ xs) e = omega (arith, (no_earlier e (end_begun x t)).0, after_first xs (later e (end_begun x t)))

  pub after_each : (xs : List Schedule) (e : ℕ) (x : Schedule) → Memᴰ x xs → end_begun x t ≤ latest_end t e xs
  unfolding latest_end
  after_each [] e x m = absurd (Memᴰ.not-nil m)
  after_each (y ∷ xs) e x m =
      ⊎_elim
      (λ (z : x ≡ y). omega (arith, ap (λ (w : Schedule). end_begun w t) z, (no_earlier e (end_begun y t)).1, after_first xs (later e (end_begun y t))))
      (λ (l : Memᴰ x xs). after_each xs (later e (end_begun y t)) x l)
      (Memᴰ.cases_cons m)

  -- an end over 0 is that of a run
  ends_some : (x : Schedule) → 0 < end_begun x t → EndsAt x t (end_begun x t)
  ends_some x more =
      ⊎_elim
      (λ (y : ltb t x.start ≡ true). absurd (omega (arith, none_begun x t (ltb-true t x.start y))))
      (λ (n : ltb t x.start ≡ false). is_end x t (ltb-false t x.start n))
      (either (ltb t x.start))

  pub one_of : (xs : List Schedule) (e : ℕ) → (latest_end t e xs ≡ e) ⊎ ((x : Schedule) × Memᴰ x xs × EndsAt x t (latest_end t e xs))
  unfolding latest_end
  one_of [] e = inl refl
  one_of (x ∷ xs) e = ⊎_elim of_first of_others (one_of xs (later e (end_begun x t)))
    where
      of_others : (y : Schedule) × Memᴰ y xs × EndsAt y t (latest_end t (later e (end_begun x t)) xs)
          → (latest_end t (later e (end_begun x t)) xs ≡ e) ⊎ ((y : Schedule) × Memᴰ y (x ∷ xs) × EndsAt y t (latest_end t (later e (end_begun x t)) xs))
      of_others (y, m, ends) = inr (y, Memᴰ.tail m, ends)

      of_first : latest_end t (later e (end_begun x t)) xs ≡ later e (end_begun x t)
          → (latest_end t (later e (end_begun x t)) xs ≡ e) ⊎ ((y : Schedule) × Memᴰ y (x ∷ xs) × EndsAt y t (latest_end t (later e (end_begun x t)) xs))
      of_first same =
          ⊎_elim
          (λ (y : ltb e (end_begun x t) ≡ true).
          let ends = ends_some x (omega (arith, ltb-true e (end_begun x t) y)) in
          let is : later e (end_begun x t) ≡ end_begun x t = simp y in
          inr (x, Memᴰ.head refl, subst (EndsAt x t) (sym (same ∙ is)) ends))
          (λ (n : ltb e (end_begun x t) ≡ false). let is : later e (end_begun x t) ≡ e = simp n in inl (same ∙ is))
          (either (ltb e (end_begun x t)))
