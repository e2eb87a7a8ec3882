-- The station of an address after a call: what is done to another row leaves it, and what is done to all rows or to its own is done to it. Assumes nothing.
use Rattle.std.specs.Prelude.{Ok, All}
use Rattle.std.proofs.lemmas.List.Elements.{All-head, All-tail}
use mathlib.Core.Bool.{Bool, true, false, not, ◌&&◌, ◌||◌}
use mathlib.Core.List.{List, [], ◌∷◌, map}
use mathlib.Core.Logic.{⊎_elim}
use mathlib.Core.Path.{◌≡◌, refl, sym, ap, ◌∙◌}
use Prim.Native.Nat.{ℕ}
use Rattle.answer.proofs.Booleans.{clash, either, both, neither}
use Rattle.answer.proofs.Judged.{never}
use Rattle.answer.specs.Checks.{Outcome, pick, and_then}
use Rattle.header.proofs.Addresses.{same_self, same_is}
use Rattle.header.specs.Headers.{same}
use Rattle.row.specs.Rows.{seated, is_of, is_free}
use Rattle.row.specs.declared.Row.{Row}
use Rattle.station.specs.declared.Station.{Station}
use Rattle.table.specs.Tables.{some_row, on_first, first_such}

-- a step of the station that was found
abbrev pub step_found : (Station → Station) → Outcome Station → Outcome Station
step_found g o = and_then o (λ s. Ok (g s))

module _ (q : Row → Bool) where
  abbrev or_rest : Bool → Row → Outcome Station → Outcome Station
  or_rest b w o = pick b (Ok w.station) o

  -- a step of every row, or of the first such row, is one of its station
  module _ (f : Row → Row) (g : Station → Station) (keeps : (w : Row) → q (f w) ≡ q w) (steps : (w : Row) → q w ≡ true → (f w).station ≡ g w.station) where
    found_here : (w : Row) (o : Outcome Station) → q w ≡ true → pick (q (f w)) (Ok (f w).station) o ≡ Ok (g w.station)
    found_here w o y = ap (λ (b : Bool). or_rest b (f w) o) (keeps w ∙ y) ∙ ap Ok (steps w y)

    pub every_steps : (ws : List Row) → first_such q (map f ws) ≡ step_found g (first_such q ws)
    unfolding first_such
    every_steps [] = refl
    every_steps (w ∷ ws) =
        ⊎_elim
        (λ (y : q w ≡ true). found_here w (first_such q (map f ws)) y ∙ ap (λ (b : Bool). step_found g (or_rest b w (first_such q ws))) (sym y))
        (λ (n : q w ≡ false).
        ap (λ (b : Bool). or_rest b (f w) (first_such q (map f ws))) (keeps w ∙ n) ∙ every_steps ws
        ∙ ap (λ (b : Bool). step_found g (or_rest b w (first_such q ws))) (sym n))
        (either (q w))

    pub own_steps : (ws : List Row) → first_such q (on_first q f ws) ≡ step_found g (first_such q ws)
    unfolding first_such on_first
    own_steps [] = refl
    own_steps (w ∷ ws) =
        ⊎_elim
        (λ (y : q w ≡ true).
        ap (λ (b : Bool). first_such q (pick b (f w ∷ ws) (w ∷ on_first q f ws))) y ∙ found_here w (first_such q ws) y
        ∙ ap (λ (b : Bool). step_found g (or_rest b w (first_such q ws))) (sym y))
        (λ (n : q w ≡ false).
        ap (λ (b : Bool). first_such q (pick b (f w ∷ ws) (w ∷ on_first q f ws))) n
        ∙ ap (λ (b : Bool). or_rest b w (first_such q (on_first q f ws))) n ∙ own_steps ws
        ∙ ap (λ (b : Bool). step_found g (or_rest b w (first_such q ws))) (sym n))
        (either (q w))

  -- a change of a row that is not such, into one that is not such
  pub other_leaves : (p : Row → Bool) (f : Row → Row) → ((w : Row) → p w ≡ true → (q w ≡ false) × (q (f w) ≡ false)) → (ws : List Row)
      → first_such q (on_first p f ws) ≡ first_such q ws
  unfolding first_such on_first
  other_leaves p f apart [] = refl
  other_leaves p f apart (w ∷ ws) =
      ⊎_elim
      (λ (y : p w ≡ true).
      ap (λ (b : Bool). first_such q (pick b (f w ∷ ws) (w ∷ on_first p f ws))) y
      ∙ ap (λ (b : Bool). or_rest b (f w) (first_such q ws)) (apart w y).1 ∙ ap (λ (b : Bool). or_rest b w (first_such q ws)) (sym (apart w y).0))
      (λ (n : p w ≡ false).
      ap (λ (b : Bool). first_such q (pick b (f w ∷ ws) (w ∷ on_first p f ws))) n ∙ ap (or_rest (q w) w) (other_leaves p f apart ws))
      (either (p w))

-- a row of one address is of no other
pub of_another : (own other : List ℕ) → same other own ≡ false → (w : Row) → is_of other w ≡ true → is_of own w ≡ false
of_another own other n w y =
    let is = both w.joined (same other w.station.own) y in
    ⊎_elim
    (λ (z : is_of own w ≡ true).
    let mine = both w.joined (same own w.station.own) z in
    clash (sym (same_self other) ∙ ap (same other) (same_is other w.station.own is.1 ∙ sym (same_is own w.station.own mine.1)) ∙ n))
    (λ (m : is_of own w ≡ false). m)
    (either (is_of own w))

-- a row that is free is of none
pub free_of_none : (own : List ℕ) (w : Row) → is_free w ≡ true → is_of own w ≡ false
free_of_none own w y = by w.joined y
  where
    by : (b : Bool) → not b ≡ true → (b && same own w.station.own) ≡ false
    by true e = clash (sym e)
    by false e = refl

-- a station that joins is the one of its address
pub newcomer_found : (s : Station) (ws : List Row) → some_row is_free ws ≡ true → some_row (is_of s.own) ws ≡ false
    → first_such (is_of s.own) (on_first is_free (λ w. seated s) ws) ≡ Ok s
unfolding some_row first_such on_first
newcomer_found s [] room none = clash (sym room)
newcomer_found s (w ∷ ws) room none =
    let off = neither (is_of s.own w) (some_row (is_of s.own) ws) none in
    ⊎_elim
    (λ (y : is_free w ≡ true).
    ap (λ (b : Bool). first_such (is_of s.own) (pick b (seated s ∷ ws) (w ∷ on_first is_free (λ u. seated s) ws))) y
    ∙ ap (λ (b : Bool). pick b (Ok s) (first_such (is_of s.own) ws)) (same_self s.own))
    (λ (n : is_free w ≡ false).
    ap (λ (b : Bool). first_such (is_of s.own) (pick b (seated s ∷ ws) (w ∷ on_first is_free (λ u. seated s) ws))) n
    ∙ ap (λ (b : Bool). pick b (Ok w.station) (first_such (is_of s.own) (on_first is_free (λ u. seated s) ws))) off.0
    ∙ newcomer_found s ws (ap (λ (b : Bool). b || some_row is_free ws) (sym n) ∙ room) off.1)
    (either (is_free w))

-- the station that was found sits in some row
pub found_some : (q : Row → Bool) (ws : List Row) (s : Station) → first_such q ws ≡ Ok s → some_row q ws ≡ true
unfolding first_such some_row
found_some q [] s e = absurd (never e)
found_some q (w ∷ ws) s e =
    ⊎_elim
    (λ (y : q w ≡ true). ap (λ (b : Bool). b || some_row q ws) y)
    (λ (n : q w ≡ false).
    ap (λ (b : Bool). b || some_row q ws) n ∙ found_some q ws s (ap (λ (b : Bool). pick b (Ok w.station) (first_such q ws)) (sym n) ∙ e))
    (either (q w))

-- and, where each row is such that P, so is its own
pub found_such : (q : Row → Bool) (P : Row → Type 0) (ws : List Row) (s : Station) → All P ws → first_such q ws ≡ Ok s
    → (w : Row) × (q w ≡ true) × P w × (w.station ≡ s)
unfolding first_such
found_such q P [] s v e = absurd (never e)
found_such q P (w ∷ ws) s v e =
    ⊎_elim
    (λ (y : q w ≡ true). (w, y, All-head P w ws v, accepted_is (ap (λ (b : Bool). pick b (Ok w.station) (first_such q ws)) (sym y) ∙ e)))
    (λ (n : q w ≡ false). found_such q P ws s (All-tail P w ws v) (ap (λ (b : Bool). pick b (Ok w.station) (first_such q ws)) (sym n) ∙ e))
    (either (q w))
  where
    accepted_is : {a b : Station} → ◌≡◌ {A = Outcome Station} (Ok a) (Ok b) → a ≡ b
    accepted_is {a} {b} e = cc
