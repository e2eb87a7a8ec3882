-- When two values that meet one promise are the same. Assumes nothing.
use Rattle.std.specs.Prelude.{Ok, Result}
use mathlib.Core.Path.{◌≡◌, sym, ap, ◌∙◌}
use mathlib.Core.Bool.{Bool}
use mathlib.Core.List.{List}
use Prim.Native.Nat.{ℕ}
use Rattle.answer.specs.Checks.{Outcome}
use Rattle.octets.specs.Writing.{Written}

-- a promise that names the result
pub once : {A : Type 0} {x y z : A} → x ≡ z → y ≡ z → x ≡ y
once p q = p ∙ sym q

-- an accepted value
pub accepted_once : {R A : Type 0} {x y : A} → ◌≡◌ {A = Result A R} (Ok x) (Ok y) → x ≡ y
accepted_once e = cc

-- a promise that names what each case of the answer stands for, where the answer can be had back from that
pub told_once : {X A : Type 0} (tells : X → A) (back : A → X) → ((x : X) → back (tells x) ≡ x) → {x y : X} {o : A} → tells x ≡ o → tells y ≡ o → x ≡ y
told_once tells back undone {x} {y} p q = sym (undone x) ∙ ap back (p ∙ sym q) ∙ undone y

-- a writer's promise
pub written_once : {may : Bool} {os : List ℕ} {at : ℕ} {buffer : List ℕ} {x y : Outcome ℕ} {e f : List ℕ}
    → Written may os at buffer x e → Written may os at buffer y f → (x ≡ y) × (e ≡ f)
written_once p q = (once p.answers q.answers, once p.leaves q.leaves)
