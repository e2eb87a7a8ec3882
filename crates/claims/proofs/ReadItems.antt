-- What elements are read as: none, one, the one at an index, and one after the other. Assumes nothing.
use Rattle.std.specs.Prelude.{Ok}
use mathlib.Core.Bool.{Bool, true, false}
use mathlib.Core.List.{List, [], ◌∷◌, ◌++◌, map, append-nil}
use mathlib.Core.Logic.{◌↔◌}
use mathlib.Core.Path.{◌≡◌, refl, sym, ap, ap₂, subst, ◌∙◌}
use Prim.Native.Nat.{ℕ, zero, suc, ◌≤◌}
use native.Mathlib.Omega.{arith}
use lib.ListN.{length, length-append}
use lib.Seq.{append_snoc}
use Rattle.answer.specs.Checks.{Outcome, pick, and_then}
use Rattle.measurement_body.specs.Lists.{nth}
use Rattle.claims.specs.Filters.{Item, ReadAs}

module _ {A : Type 0} (means : List ℕ → Outcome A) where
  -- there is no value where there is no element, and only there
  pub none_read : (xs : List Item) → ReadAs means xs [] ↔ (xs ≡ [])
  none_read xs = (there xs, λ e. ap (map (λ (x : Item). means x.contents)) e)
    where
      there : (ys : List Item) → ReadAs means ys [] → ys ≡ []
      there [] r = refl
      there (y ∷ ys) r = absurd (let z : ◌≡◌ {A = ℕ} 0 1 = cc in omega arith)

  -- there is one value where there is one element, and it is what the contents of that element mean
  pub one_read : (xs : List Item) (a : A) → ReadAs means xs (a ∷ []) ↔ ((x : Item) × (xs ≡ x ∷ []) × (means x.contents ≡ Ok a))
  one_read xs a = (there xs, λ (x, e, m). ap (map (λ (y : Item). means y.contents)) e ∙ ap (λ (o : Outcome A). o ∷ []) m)
    where
      there : (ys : List Item) → ReadAs means ys (a ∷ []) → (x : Item) × (ys ≡ x ∷ []) × (means x.contents ≡ Ok a)
      there [] r = absurd (let z : ◌≡◌ {A = ℕ} 0 1 = cc in omega arith)
      there (y ∷ ys) r = (y, ap (λ (l : List Item). y ∷ l) ((none_read ys).0 (cc)), cc)

  -- the value at an index is what the element at that index means
  pub by_index : (xs : List Item) (l : List A) → ReadAs means xs l → (i : ℕ) → nth i l ≡ and_then (nth i xs) (λ x. means x.contents)
  unfolding nth
  by_index [] [] r i = refl
  by_index [] (a ∷ l) r i = absurd (let z : ◌≡◌ {A = ℕ} 0 1 = cc in omega arith)
  by_index (x ∷ xs) [] r i = absurd (let z : ◌≡◌ {A = ℕ} 0 1 = cc in omega arith)
  by_index (x ∷ xs) (a ∷ l) r zero = cc
  by_index (x ∷ xs) (a ∷ l) r (suc i) = by_index xs l (cc) i

  -- ---- one after the other, joined to what was read before

  -- the values after are those before, and after them what these elements are read as
  pub record Grows (xs : List Item) (before after : List A) : Type 0 where
    pub values : List A
    pub read : ReadAs means xs values
    pub joined : after ≡ before ++ values

  pub grows_none : (l : List A) → Grows [] l l
  grows_none l = record { values = []; read = refl; joined = sym (append-nil l) }

  pub grew_none : {before after : List A} → Grows [] before after → after ≡ before
  grew_none {before} {after} g = by g.values g.read g.joined
    where
      by : (vs : List A) → ReadAs means [] vs → after ≡ before ++ vs → after ≡ before
      by [] r e = e ∙ append-nil before
      by (v ∷ vs) r e = absurd (let z : ◌≡◌ {A = ℕ} 0 1 = cc in omega arith)

  -- from nothing on
  pub grows_all : {xs : List Item} {values : List A} → ReadAs means xs values → Grows xs [] values
  grows_all {xs} {values} r = record { values = values; read = r; joined = refl }

  pub grew_all : {xs : List Item} {values : List A} → Grows xs [] values → ReadAs means xs values
  grew_all {xs} g = subst (ReadAs means xs) (sym g.joined) g.read

  module _ (x : Item) (xs : List Item) {before after : List A} where
    pub grows_first : {a : A} → means x.contents ≡ Ok a → Grows xs (before ++ (a ∷ [])) after → Grows (x ∷ xs) before after
    grows_first {a} m g =
        record { values = a ∷ g.values; read = ap₂ ◌∷◌ m g.read; joined = g.joined ∙ append_snoc before a g.values }

    pub grew_first : Grows (x ∷ xs) before after → (a : A) × (means x.contents ≡ Ok a) × Grows xs (before ++ (a ∷ [])) after
    grew_first g = by g.values g.read g.joined
      where
        by : (vs : List A) → ReadAs means (x ∷ xs) vs → after ≡ before ++ vs
            → (a : A) × (means x.contents ≡ Ok a) × Grows xs (before ++ (a ∷ [])) after
        by [] r e = absurd (let z : ◌≡◌ {A = ℕ} 0 1 = cc in omega arith)
        by (v ∷ vs) r e = (v, cc, record { values = vs; read = cc; joined = e ∙ sym (append_snoc before v vs) })

-- ---- what there may be one of, as a list of none or one

module _ {A M : Type 0} (means : List ℕ → Outcome A) (any : M → List A) (has : M → Bool) (size : (m : M) → length (any m) ≡ pick (has m) 1 0)
    (x : Item) (xs : List Item) where
  free : (m : M) → has m ≡ false → any m ≡ []
  free m h = by (any m) (size m ∙ ap (λ (t : Bool). pick t 1 0) h)
    where
      by : (l : List A) → length l ≡ 0 → l ≡ []
      by [] e = refl
      by (a ∷ l) e = absurd (omega arith)

  pub the_one : (m : M) {a : A} {after : List A} → has m ≡ false → means x.contents ≡ Ok a → Grows means xs (a ∷ []) after
      → Grows means (x ∷ xs) (any m) after
  the_one m {a} {after} h e g =
      grows_first means x xs e (subst (λ (l : List A). Grows means xs (l ++ (a ∷ [])) after) (sym (free m h)) g)

  pub was_the_one : (m next : M) → Grows means (x ∷ xs) (any m) (any next)
      → (has m ≡ false) × ((a : A) × (means x.contents ≡ Ok a) × Grows means xs (a ∷ []) (any next))
  was_the_one m next g =
      let p = grew_first means x xs g in
      let h = unused p.0 p.2 in
      (h, (p.0, p.1, subst (λ (l : List A). Grows means xs (l ++ (p.0 ∷ [])) (any next)) (free m h) p.2))
    where
      -- none or one, and one more after those before
      few : (n : M) → length (any n) ≤ 1
      few n = by (has n) (size n)
        where
          by : (t : Bool) → length (any n) ≡ pick t 1 0 → length (any n) ≤ 1
          by true e = omega arith
          by false e = omega arith

      unused : (a : A) → Grows means xs (any m ++ (a ∷ [])) (any next) → has m ≡ false
      unused a q = by (has m) (size m)
        where
          by : (t : Bool) → length (any m) ≡ pick t 1 0 → t ≡ false
          by true e =
              absurd
              (omega
              (arith, few next, ap length q.joined, length-append (any m ++ (a ∷ [])) q.values, length-append (any m) (a ∷ [])))
          by false e = refl
