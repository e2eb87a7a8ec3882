-- A list each of whose elements is replaced in its turn. Assumes nothing.
use mathlib.Core.Path.{◌≡◌, ap, ◌∙◌}
use mathlib.Core.List.{List, ◌∷◌, ◌++◌, map}
use Prim.Native.Nat.{ℕ, ◌+◌, ◌<◌}
use native.Mathlib.Omega.{arith}
use lib.ListN.{length, get_or, take, drop}
use Rattle.std.proofs.lemmas.List.{length-map, length-take, drop_more, get_or_at}

-- the next one is as it was
pub still : {X : Type 0} (f : X → X) (xs ys : List X) (i : ℕ) (d : X) → i < length xs → ys ≡ map f (take i xs) ++ drop i xs → get_or ys i d ≡ get_or xs i d
still f xs ys i d within e =
    let front = map f (take i xs) in
    let long : length front ≡ i = length-map (take i xs) f ∙ omega (arith, length-take i xs) in
    ap (λ (zs : List _). get_or zs i d) (e ∙ ap (λ (zs : List _). front ++ zs) (drop_more xs i d within)) ∙ get_or_at front (get_or xs i d) (drop (i + 1) xs) d i long
