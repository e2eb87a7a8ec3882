-- Elements of one length: what is accepted, and demand 2 for all of them at once. Assumes nothing.
use Rattle.std.specs.Prelude.{Ok}
use mathlib.Core.Path.{◌≡◌, sym, ap, subst, ◌∙◌}
use mathlib.Core.Bool.{Bool, true, false, not}
use mathlib.Core.List.{List}
use Prim.Native.Nat.{ℕ}
use borrow.Author.Tests.{eq-eqb, eqb-true, not-true, not-false}
use lib.Dec.{eqb}
use lib.ListN.{length}
use Rattle.answer.specs.Checks.{checked}
use Rattle.answer.proofs.Judged.{passed, kept}
use Rattle.octets.specs.Numbers.{Octets}
use Rattle.octets.specs.Elements.{fixed, RoundTrip}

module _ {A : Type 0} (n : ℕ) (record_in : List ℕ → A) (forbids : A → Bool) where
  module _ (c : List ℕ) where
    good : length c ≡ n → forbids (record_in c) ≡ false → Ok (record_in c) ≡ fixed n record_in forbids c
    unfolding fixed checked
    good h f = simp (eq-eqb (length c) n h, f)

    -- an accepted record is the one in contents of that length, and none that is forbidden
    pub opened : (a : A) → fixed n record_in forbids c ≡ Ok a → (length c ≡ n) × (record_in c ≡ a) × (forbids a ≡ false)
    unfolding fixed
    opened a e =
        let p = passed _ _ _ e in
        let q = passed _ _ _ p.1 in
        let k : record_in c ≡ a = kept _ q.1 in
        (eqb-true (length c) n (not-false (eqb (length c) n) p.0), k, subst (λ (x : A). forbids x ≡ false) k q.0)

  module _ (contents : A → List ℕ) (Fits : A → Type 0) (size : (a : A) → length (contents a) ≡ n)
      (reads : (a : A) → Fits a → record_in (contents a) ≡ a)
      (writes : (c : List ℕ) → Octets c → length c ≡ n → contents (record_in c) ≡ c)
      (holds : (c : List ℕ) → Octets c → Fits (record_in c)) where
    may : A → Bool
    may a = not (forbids a)

    there : (a : A) → Fits a → may a ≡ true → fixed n record_in forbids (contents a) ≡ Ok a
    unfolding may
    there a f m =
        sym (good (contents a) (size a) (ap forbids (reads a f) ∙ not-true (forbids a) m)) ∙ ap Ok (reads a f)

    pub trip : RoundTrip (fixed n record_in forbids) contents (λ a. not (forbids a)) Fits (λ a. true) (λ c. true)
    unfolding may
    trip =
        record {
          there = there;
          back = λ c a o e i k. let p = opened c a e in (ap not p.2, ap contents (sym p.1) ∙ writes c o p.0);
          exact = λ a f e i. ap not (opened (contents a) a e).2;
          fits = λ c a o e. subst Fits (opened c a e).1 (holds c o);
        }
