-- A mark for each measurement token that is used. Assumes nothing.
use mathlib.Core.Path.{◌≡◌, refl, sym, ap, ◌∙◌}
use mathlib.Core.Bool.{Bool, true, false, ◌||◌}
use mathlib.Core.List.{List, [], ◌∷◌, ◌++◌}
use Prim.Native.Nat.{ℕ, ◌<◌}
use native.Mathlib.Omega.{arith}
use borrow.Author.Tests.{eqb-true, eqb-false}
use lib.Dec.{eqb}
use lib.ListN.{length, get_or, set, replicate, length-set, length-replicate, get_or-replicate}
use lib.Seq.{get_or-set_same, get_or-set_other}
use Rattle.measurement_body.specs.Lists.{Sort, used}

pub record Marked {A : Type 0} (s : Sort A) (marks : List Bool) (l : List A) : Type 0 where
  pub all : length marks ≡ 256
  pub at : (t : ℕ) → t < 256 → get_or marks t false ≡ used s t l

or_swap : (a b c : Bool) → (a || (b || c)) ≡ (b || (a || c))
or_swap true true c = refl
or_swap true false c = refl
or_swap false b c = refl

module _ {A : Type 0} (s : Sort A) where
  -- the tokens with one record more
  used_snoc : (t : ℕ) (l : List A) (a : A) → used s t (l ++ (a ∷ [])) ≡ (eqb (s.token a) t || used s t l)
  unfolding used
  used_snoc t [] a = refl
  used_snoc t (x ∷ l) a =
      ap (λ (b : Bool). eqb (s.token x) t || b) (used_snoc t l a) ∙ or_swap (eqb (s.token x) t) (eqb (s.token a) t) (used s t l)

  pub none : Marked s (replicate 256 false) []
  unfolding used
  none = record { all = length-replicate 256 false; at = λ t b. get_or-replicate 256 t false false b }

  pub one_more : {marks : List Bool} {l : List A} → Marked s marks l → (a : A) (k : ℕ) → k ≡ s.token a → k < 256
      → Marked s (set marks k true) (l ++ (a ∷ []))
  one_more {marks} {l} m a k own b =
      record {
        all = simp length-set m.all;
        at = λ t h. by t h (eqb k t) refl ∙ ap (λ (n : ℕ). eqb n t || used s t l) own ∙ sym (used_snoc t l a);
      }
    where
      by : (t : ℕ) → t < 256 → (u : Bool) → eqb k t ≡ u → get_or (set marks k true) t false ≡ (eqb k t || used s t l)
      by t h true e =
          ap (λ (n : ℕ). get_or (set marks k true) n false) (sym (eqb-true k t e))
          ∙ get_or-set_same marks k true false (omega (arith, m.all)) ∙ sym (simp e)
      by t h false e =
          get_or-set_other marks k t true false (λ z. eqb-false k t e (sym z)) ∙ m.at t h ∙ sym (simp e)
