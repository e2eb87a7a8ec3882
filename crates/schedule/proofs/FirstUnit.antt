-- Some unit of several passes exactly if the first that passes is one of them; and some unit, and the first, by two tests. Assumes nothing.
use mathlib.Core.Bool.{Bool, true, false, ◌||◌}
use mathlib.Core.Logic.{⊎_elim}
use mathlib.Core.Path.{◌≡◌, refl, sym, ap, ◌∙◌}
use Prim.Native.Nat.{ℕ, zero, suc, ◌+◌, ◌-◌, ◌<◌, ◌≤◌}
use native.Mathlib.Nat.{le_refl, eq-or-lt_of_le}
use native.Mathlib.Omega.{arith}
use borrow.Author.Tests.{ltb-true, ltb-false}
use lib.Dec.{ltb}
use Rattle.answer.proofs.Booleans.{clash, either, or_go, or_stop}
use Rattle.answer.specs.Checks.{pick}
use Rattle.schedule.specs.Units.{some_unit, first_unit}

or_true : (t : Bool) {o : Bool} → o ≡ true → (t || o) ≡ true
or_true true e = refl
or_true false e = e

module _ (test : ℕ → Bool) where
  pub some_none : (a n : ℕ) → ((u : ℕ) → a ≤ u → u < a + n → test u ≡ false) → some_unit test a n ≡ false
  unfolding some_unit
  some_none a zero h = refl
  some_none a (suc n) h =
      or_go (test a) (h a (le_refl a) (omega arith)) ∙ some_none (suc a) n (λ u lo hi. h u (omega arith) (omega arith))

  -- the one that passes stands at a, or among the units after it
  one_more : (a n u : ℕ) → a ≤ u → test u ≡ true → (suc a ≤ u → some_unit test (suc a) n ≡ true) → some_unit test a (suc n) ≡ true
  unfolding some_unit
  one_more a n u lo e rest =
      ⊎_elim (λ (y : test a ≡ true). or_stop (test a) _ y) (λ (x : test a ≡ false). or_go (test a) x ∙ rest (later x)) (either (test a))
    where
      later : test a ≡ false → suc a ≤ u
      later x = ⊎_elim (λ (q : a ≡ u). clash (sym e ∙ ap test (sym q) ∙ x)) (λ q. q) (eq-or-lt_of_le lo)

  pub some_one : (a n u : ℕ) → a ≤ u → u < a + n → test u ≡ true → some_unit test a n ≡ true
  some_one a zero u lo hi e = absurd (omega arith)
  some_one a (suc n) u lo hi e = one_more a n u lo e (λ h. some_one (suc a) n u h (omega arith) e)

  -- the unit that passes
  pub found : (a n : ℕ) → some_unit test a n ≡ true → (u : ℕ) × (a ≤ u) × (u < a + n) × (test u ≡ true)
  unfolding some_unit
  found a zero e = clash (sym e)
  found a (suc n) e =
      ⊎_elim
      (λ (y : test a ≡ true). (a, le_refl a, omega arith, y))
      (λ (x : test a ≡ false). let w = found (suc a) n (sym (or_go (test a) x) ∙ e) in (w.0, omega (arith, w.1), omega (arith, w.2), w.3))
      (either (test a))

  -- e is the first of the n units from a on that passes, or the unit after them
  pub record IsFirst (a n e : ℕ) : Type 0 where
    pub from : a ≤ e
    pub up_to_lem : e ≤ a + n
    pub none_before : (u : ℕ) → a ≤ u → u < e → test u ≡ false
    pub passes : e < a + n → test e ≡ true

  pub first_has : (a n : ℕ) → IsFirst a n (first_unit test a n)
  unfolding first_unit
  first_has a zero = record { from = le_refl a; up_to_lem = omega arith; none_before = λ u l k. absurd (omega arith); passes = λ h. absurd (omega arith) }
  first_has a (suc n) = by (test a) refl (first_has (suc a) n)
    where
      by : (t : Bool) → test a ≡ t → IsFirst (suc a) n (first_unit test (suc a) n) → IsFirst a (suc n) (pick t a (first_unit test (suc a) n))
      by true y r = record { from = le_refl a; up_to_lem = omega arith; none_before = λ u l k. absurd (omega arith); passes = λ h. y }
      by false x r =
          record {
            from = omega (arith, r.from);
            up_to_lem = omega (arith, r.up_to_lem);
            none_before = λ u l k. ⊎_elim (λ (q : a ≡ u). ap test (sym q) ∙ x) (λ (q : a < u). r.none_before u q k) (eq-or-lt_of_le l);
            passes = λ h. r.passes (omega arith);
          }

  -- there is one first
  pub one_first : (a n d e : ℕ) → IsFirst a n d → IsFirst a n e → d ≡ e
  one_first a n d e p q = ⊎_elim (λ (y : ltb d e ≡ true). absurd (before d e p q (ltb-true d e y))) after (either (ltb d e))
    where
      before : (x y : ℕ) → IsFirst a n x → IsFirst a n y → x < y → ⊥
      before x y f g h = clash (sym (f.passes (omega (arith, g.up_to_lem))) ∙ g.none_before x f.from h)

      after : ltb d e ≡ false → d ≡ e
      after x = ⊎_elim (λ (r : e ≡ d). sym r) (λ (r : e < d). absurd (before e d q p r)) (eq-or-lt_of_le (ltb-false d e x))

  module _ (a b : ℕ) where
    first_is : (e : ℕ) → IsFirst a (b - a) e → e ≡ first_unit test a (b - a)
    first_is e f = one_first a (b - a) e (first_unit test a (b - a)) f (first_has a (b - a))

    pub no_units : b ≤ a → a ≡ first_unit test a (b - a)
    no_units h =
        first_is a (record { from = le_refl a; up_to_lem = omega arith; none_before = λ u l k. absurd (omega arith); passes = λ k. absurd (omega arith) })

    pub none_passes : a ≤ b → ((u : ℕ) → a ≤ u → u < b → test u ≡ false) → b ≡ first_unit test a (b - a)
    none_passes h none = first_is b (record { from = h; up_to_lem = omega arith; none_before = none; passes = λ k. absurd (omega arith) })

    pub first_at : (e : ℕ) → a ≤ e → e < b → ((u : ℕ) → a ≤ u → u < e → test u ≡ false) → test e ≡ true → e ≡ first_unit test a (b - a)
    first_at e lo hi none y = first_is e (record { from = lo; up_to_lem = omega arith; none_before = none; passes = λ k. y })

    -- ---- what the first says of all of them

    module _ (h : a < b) where
      is : IsFirst a (b - a) (first_unit test a (b - a))
      is = first_has a (b - a)

      pub at_once_lem : first_unit test a (b - a) ≡ a → test a ≡ true
      at_once_lem e = ap test (sym e) ∙ is.passes (omega arith)

      pub not_at_once : (first_unit test a (b - a) ≡ a → ⊥) → test a ≡ false
      not_at_once n = ⊎_elim (λ (q : a ≡ first_unit test a (b - a)). absurd (n (sym q))) (λ (q : a < first_unit test a (b - a)). is.none_before a (le_refl a) q) (eq-or-lt_of_le is.from)

      -- one of the units after a passes
      pub among_others : test a ≡ false → some_unit test (a + 1) (b - (a + 1)) ≡ ltb (first_unit test a (b - a)) b
      among_others x = ⊎_elim some none (either (ltb (first_unit test a (b - a)) b))
        where
          some : ltb (first_unit test a (b - a)) b ≡ true → some_unit test (a + 1) (b - (a + 1)) ≡ ltb (first_unit test a (b - a)) b
          some y =
              let k = ltb-true (first_unit test a (b - a)) b y in
              let t : test (first_unit test a (b - a)) ≡ true = is.passes (omega arith) in
              let l : a + 1 ≤ first_unit test a (b - a) =
              ⊎_elim (λ (q : a ≡ first_unit test a (b - a)). clash (sym t ∙ ap test (sym q) ∙ x)) (λ (q : a < first_unit test a (b - a)). omega arith) (eq-or-lt_of_le is.from) in
              some_one (a + 1) (b - (a + 1)) (first_unit test a (b - a)) l (omega arith) t ∙ sym y

          none : ltb (first_unit test a (b - a)) b ≡ false → some_unit test (a + 1) (b - (a + 1)) ≡ ltb (first_unit test a (b - a)) b
          none y =
              let k = ltb-false (first_unit test a (b - a)) b y in
              some_none (a + 1) (b - (a + 1)) (λ u l m. is.none_before u (omega arith) (omega arith)) ∙ sym y

-- ---- two tests

module _ (f g : ℕ → Bool) where
  -- the first that passes either of them: the first by g among the units before the first by f, or that one
  pub first_or : (a n : ℕ) → first_unit (λ u. f u || g u) a n ≡ first_unit g a (first_unit f a n - a)
  first_or a n =
      one_first (λ u. f u || g u) a n _ _ (first_has (λ u. f u || g u) a n)
      (record {
        from = r.from;
        up_to_lem = omega (arith, r.up_to_lem, l.up_to_lem, l.from);
        none_before = λ u lo hi. or_go (f u) (l.none_before u lo (omega (arith, r.up_to_lem, l.from))) ∙ r.none_before u lo hi;
        passes = λ h. ⊎_elim
            (λ (q : first_unit g a (first_unit f a n - a) ≡ first_unit f a n). or_stop (f _) _ (ap f q ∙ l.passes (omega arith)))
            (λ (q : first_unit g a (first_unit f a n - a) < first_unit f a n). or_true (f _) (r.passes (omega (arith, l.from))))
            (eq-or-lt_of_le (let k : first_unit g a (first_unit f a n - a) ≤ first_unit f a n = omega (arith, r.up_to_lem, l.from) in k));
      })
    where
      l : IsFirst f a n (first_unit f a n)
      l = first_has f a n

      r : IsFirst g a (first_unit f a n - a) (first_unit g a (first_unit f a n - a))
      r = first_has g a (first_unit f a n - a)

  -- they say the same from a on
  pub first_same : (a n : ℕ) → ((u : ℕ) → a ≤ u → f u ≡ g u) → first_unit f a n ≡ first_unit g a n
  unfolding first_unit
  first_same a zero h = refl
  first_same a (suc n) h = rw (h a (le_refl a), first_same (suc a) n (λ u l. h u (omega arith)))
