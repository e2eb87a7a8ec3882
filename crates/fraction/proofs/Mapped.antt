-- What an array's `map` gives at a closure that acts as a function. Assumes nothing.
use mathlib.Core.Path.{◌≡◌, sym, ap, ap₂, subst, ◌∙◌}
use mathlib.Core.List.{List, ◌∷◌, map}
use Prim.Native.Nat.{ℕ, zero, suc, ◌+◌}
use native.Mathlib.Numerals.{add-one}
use native.Mathlib.Omega.{arith}
use denote.Param.Members.{Mut}
use lib.ListN.{length, get_or, drop}
use lib.Seq.{drop-cons}
use Rattle.std.proofs.lemmas.List.{drop_all}
use Rattle.std.specs.Array.{MapsFrom, IsMapOf}
use Rattle.std.specs.Iterator.{ActsAs}

module _ {F A B : Type 0} (g : Mut F (A × Unit {0}) B) (h : A → B) (xs : List A) (ys : List B) (f : F) (acts : ActsAs g f h) where
  rest : (n i : ℕ) → length xs ≡ i + n → length ys ≡ i + n → MapsFrom g f xs ys i n → drop i ys ≡ map h (drop i xs)
  rest zero i lx ly m = rw (drop_all i ys (omega arith), drop_all i xs (omega arith))
  rest (suc n) i lx ly (q, x, y, at_x, at_y, call, more) =
      let (same, is) = acts x y q call in
      let here : get_or ys i y ≡ h (get_or xs i x) = at_y.0 ∙ is ∙ ap h (sym at_x.0) in
      let after : drop (i + 1) ys ≡ map h (drop (i + 1) xs) =
      rest n (i + 1) (omega arith) (omega arith) (subst (λ p. MapsFrom g p xs ys (i + 1) n) same more) in
      rw (drop-cons ys i y (omega arith), drop-cons xs i x (omega arith)) (ap₂ (λ z zs. z ∷ zs) here (rw add-one at after))

  pub map_of : (n : ℕ) → length xs ≡ n → IsMapOf g f xs ys n → ys ≡ map h xs
  map_of n lx m = rest n 0 (omega arith) (omega (arith, m.long)) m.each
