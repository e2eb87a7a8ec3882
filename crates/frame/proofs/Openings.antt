-- What the opening of a body says of it. Assumes nothing.
use mathlib.Core.Path.{◌≡◌}
use mathlib.Core.List.{List}
use Prim.Native.Nat.{ℕ}
use borrow.Author.Tests.{ne_eqb}
use Rattle.action.specs.declared.Opening.{Opening}
use Rattle.frame.specs.Actions.{after_opening}

-- past actions 0, 1 and 2 the body is a TPC Report's
pub last : (body : List ℕ) (action token : ℕ) → (action ≡ 0 → ⊥) → (action ≡ 1 → ⊥) → (action ≡ 2 → ⊥)
    → after_opening body (Opening.Token action token) ≡ after_opening body (Opening.Token 3 token)
last body action token a b c = simp (ne_eqb action 0 a, ne_eqb action 1 b, ne_eqb action 2 c)
