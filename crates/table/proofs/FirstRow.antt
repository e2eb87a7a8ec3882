-- The first row of those that are sought, by its place. Assumes nothing.
use Rattle.std.specs.Prelude.{Ok, Err, Some, None, Option, position}
use Rattle.std.specs.List.{position_from}
use Rattle.std.proofs.lemmas.Iterator.Adapters.{position_from-zero}
use mathlib.Core.Bool.{Bool, true, false, cond, ◌||◌}
use mathlib.Core.List.{List, [], ◌∷◌}
use mathlib.Core.Logic.{⊎_elim}
use mathlib.Core.Path.{◌≡◌, refl, sym, ap, ◌∙◌, subst}
use Prim.Native.Nat.{ℕ, suc, ◌+◌, ◌<◌}
use native.Mathlib.Omega.{arith}
use lib.ListN.{length, get_or, set}
use Rattle.answer.proofs.Booleans.{either}
use Rattle.answer.specs.Checks.{pick}
use Rattle.answer.specs.declared.Refusal.{Refusal}
use Rattle.row.specs.declared.Row.{Row}
use Rattle.table.specs.Tables.{some_row, on_first, first_such}

nowhere_at : {A : Type 0} {i : ℕ} → None ≡ Some i → A
nowhere_at e = absurd (let z : ◌≡◌ {A = ℕ} 0 1 = cc in omega arith)

at_nowhere : {A : Type 0} {i : ℕ} → Some i ≡ None → A
at_nowhere e = nowhere_at (sym e)

same_place : {i j : ℕ} → Some i ≡ Some j → i ≡ j
same_place {i} {j} e = cc

-- what it is that the first row of them stands at i; what is read past the end does not matter
pub record FoundAt (p : Row → Bool) (ws : List Row) (i : ℕ) : Type 0 where
  pub within : i < length ws
  pub is_such : (d : Row) → p (get_or ws i d) ≡ true
  pub there : some_row p ws ≡ true
  pub changed : (d : Row) (f : Row → Row) → on_first p f ws ≡ set ws i (f (get_or ws i d))
  pub station : (d : Row) → first_such p ws ≡ Ok (get_or ws i d).station

module _ (p : Row → Bool) where
  here : (w : Row) (ws : List Row) → p w ≡ true → FoundAt p (w ∷ ws) 0
  unfolding some_row on_first first_such
  here w ws y = record {
    within = omega arith;
    is_such = λ d. y;
    there = ap (λ (b : Bool). b || some_row p ws) y;
    changed = λ d f. ap (λ (b : Bool). pick b (f w ∷ ws) (w ∷ on_first p f ws)) y;
    station = λ d. ap (λ (b : Bool). pick b (Ok w.station) (first_such p ws)) y;
  }

  after : (w : Row) (ws : List Row) (i : ℕ) → p w ≡ false → FoundAt p ws i → FoundAt p (w ∷ ws) (suc i)
  unfolding some_row on_first first_such
  after w ws i n x = record {
    within = omega (arith, x.within);
    is_such = x.is_such;
    there = ap (λ (b : Bool). b || some_row p ws) n ∙ x.there;
    changed = λ d f. ap (λ (b : Bool). pick b (f w ∷ ws) (w ∷ on_first p f ws)) n ∙ ap (λ (vs : List Row). w ∷ vs) (x.changed d f);
    station = λ d. ap (λ (b : Bool). pick b (Ok w.station) (first_such p ws)) n ∙ x.station d;
  }

  -- where those that are sought are counted from k on
  abbrev by_here : Bool → ℕ → List Row → Option ℕ
  by_here b k ws = cond b (Some k) (position_from p (k + 1) ws)

  found_from : (ws : List Row) (k i : ℕ) → position_from p k ws ≡ Some i → (j : ℕ) × (i ≡ k + j) × FoundAt p ws j
  found_from [] k i e = nowhere_at e
  found_from (w ∷ ws) k i e =
      ⊎_elim
      (λ (y : p w ≡ true).
      let same : k ≡ i = same_place (sym (ap (λ (b : Bool). by_here b k ws) y) ∙ e) in (0, omega arith, here w ws y))
      (λ (n : p w ≡ false).
      let rest = found_from ws (k + 1) i (sym (ap (λ (b : Bool). by_here b k ws) n) ∙ e) in (suc rest.0, omega (arith, rest.1), after w ws rest.0 n rest.2))
      (either (p w))

  pub found_at : (ws : List Row) (i : ℕ) → position p ws ≡ Some i → FoundAt p ws i
  found_at ws i e =
      let found = found_from ws 0 i (sym (position_from-zero p ws) ∙ e) in
      subst (FoundAt p ws) (let same : found.0 ≡ i = omega (arith, found.1) in same) found.2

  none_from : (ws : List Row) (k : ℕ) → position_from p k ws ≡ None → (some_row p ws ≡ false) × (first_such p ws ≡ Err Refusal.NotJoined)
  unfolding some_row first_such
  none_from [] k e = (refl, refl)
  none_from (w ∷ ws) k e =
      ⊎_elim
      (λ (y : p w ≡ true). at_nowhere (sym (ap (λ (b : Bool). by_here b k ws) y) ∙ e))
      (λ (n : p w ≡ false).
      let rest = none_from ws (k + 1) (sym (ap (λ (b : Bool). by_here b k ws) n) ∙ e) in
      (ap (λ (b : Bool). b || some_row p ws) n ∙ rest.0, ap (λ (b : Bool). pick b (Ok w.station) (first_such p ws)) n ∙ rest.1))
      (either (p w))

  pub none_such : (ws : List Row) → position p ws ≡ None → (some_row p ws ≡ false) × (first_such p ws ≡ Err Refusal.NotJoined)
  none_such ws e = none_from ws 0 (sym (position_from-zero p ws) ∙ e)
