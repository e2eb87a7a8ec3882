-- Rows by how many of them are joined, and by whom. Assumes nothing.
use Rattle.std.specs.Prelude.{Ok, Err}
use mathlib.Core.Bool.{Bool, true, false, not, ◌||◌}
use mathlib.Core.List.{List, [], ◌∷◌}
use mathlib.Core.Logic.{⊎_elim}
use mathlib.Core.Path.{◌≡◌, refl, sym, ap, ap₂, ◌∙◌}
use Prim.Native.Nat.{ℕ, suc, ◌+◌, ◌≤◌}
use native.Mathlib.Omega.{arith}
use lib.Dec.{eqb}
use lib.ListN.{length}
use borrow.Author.Tests.{eqb-true, eqb-false, eq-eqb, ne_eqb}
use Rattle.answer.proofs.Booleans.{clash, either, both, neither, or_go}
use Rattle.answer.specs.Checks.{Outcome, pick}
use Rattle.answer.specs.declared.Refusal.{Refusal}
use Rattle.header.proofs.Addresses.{same_is}
use Rattle.header.specs.Headers.{same}
use Rattle.row.specs.Rows.{free, seated, is_of, is_free}
use Rattle.row.specs.declared.Row.{Row}
use Rattle.station.specs.declared.Station.{Station}
use Rattle.table.proofs.StaysApart.{SameSeats}
use Rattle.table.specs.Tables.{some_row, on_first, first_such}
use Rattle.table.specs.Validity.{Apart}

-- ---- some row is such exactly if a first one is found

abbrev pub is_in : Outcome Station → Bool
is_in (Err r) = false
is_in (Ok s) = true

pub some_found : (p : Row → Bool) (ws : List Row) → some_row p ws ≡ is_in (first_such p ws)
unfolding some_row first_such
some_found p [] = refl
some_found p (w ∷ ws) = by (p w) (some_found p ws)
  where
    by : (b : Bool) → some_row p ws ≡ is_in (first_such p ws) → (b || some_row p ws) ≡ is_in (pick b (Ok w.station) (first_such p ws))
    by true rest = refl
    by false rest = rest

pub not_found : (p : Row → Bool) (ws : List Row) → some_row p ws ≡ false → first_such p ws ≡ Err Refusal.NotJoined
unfolding some_row first_such
not_found p [] e = refl
not_found p (w ∷ ws) e =
    let off = neither (p w) (some_row p ws) e in
    ap (λ (b : Bool). pick b (Ok w.station) (first_such p ws)) off.0 ∙ not_found p ws off.1

-- after the only row of an address was freed, none is of it
pub none_left : (own : List ℕ) (ws : List Row) → Apart ws → some_row (is_of own) (on_first (is_of own) (λ w. free) ws) ≡ false
unfolding Apart some_row on_first
none_left own [] a = refl
none_left own (w ∷ ws) a =
    ⊎_elim
    (λ (y : is_of own w ≡ true).
    let is = both w.joined (same own w.station.own) y in
    ap rows_by y ∙ ap (λ (o : List ℕ). some_row (is_of o) ws) (same_is own w.station.own is.1) ∙ a.0 is.0)
    (λ (n : is_of own w ≡ false). ap rows_by n ∙ ap (λ (b : Bool). b || some_row (is_of own) (on_first (is_of own) (λ u. free) ws)) n ∙ none_left own ws a.1)
    (either (is_of own w))
  where
    rows_by : Bool → Bool
    rows_by b = some_row (is_of own) (pick b (free ∷ ws) (w ∷ on_first (is_of own) (λ u. free) ws))

-- ---- how many are joined

abbrev seat : Row → ℕ
seat w = pick w.joined 1 0

unfoldable pub seats : List Row → ℕ
seats [] = 0
seats (w ∷ ws) = seat w + seats ws

pub seats_within : (ws : List Row) → seats ws ≤ length ws
unfolding seats
seats_within [] = omega arith
seats_within (w ∷ ws) = let rest = seats_within ws in omega (arith, rest, at_most w.joined)
  where
    at_most : (b : Bool) → pick b 1 0 ≤ 1
    at_most true = omega arith
    at_most false = omega arith

pub seats_same : (ws vs : List Row) → SameSeats ws vs → seats vs ≡ seats ws
unfolding SameSeats seats
seats_same [] [] s = refl
seats_same [] (v ∷ vs) s = absurd s
seats_same (w ∷ ws) [] s = absurd s
seats_same (w ∷ ws) (v ∷ vs) s = ap₂ (λ (b : Bool) (n : ℕ). pick b 1 0 + n) s.0.0 (seats_same ws vs s.1)

-- a station that joins takes a row that was free
pub one_more : (s : Station) (ws : List Row) → some_row is_free ws ≡ true → seats (on_first is_free (λ w. seated s) ws) ≡ suc (seats ws)
unfolding seats some_row on_first
one_more s [] room = clash (sym room)
one_more s (w ∷ ws) room =
    ⊎_elim
    (λ (y : w.joined ≡ true).
    let rest = one_more s ws (ap (λ (b : Bool). not b || some_row is_free ws) (sym y) ∙ room) in
    ap seats_by y ∙ (let sum : seat w + seats (on_first is_free (λ u. seated s) ws) ≡ suc (seat w + seats ws) = omega (arith, rest) in sum))
    (λ (n : w.joined ≡ false).
    let none : seat w ≡ 0 = ap (λ (b : Bool). pick {A = ℕ} b 1 0) n in
    ap seats_by n ∙ (let sum : 1 + seats ws ≡ suc (seat w + seats ws) = omega (arith, none) in sum))
    (either w.joined)
  where
    seats_by : Bool → ℕ
    seats_by b = seats (pick (not b) (seated s ∷ ws) (w ∷ on_first is_free (λ u. seated s) ws))

-- one that leaves frees a row that was joined
pub one_less : (own : List ℕ) (ws : List Row) → some_row (is_of own) ws ≡ true → suc (seats (on_first (is_of own) (λ w. free) ws)) ≡ seats ws
unfolding seats some_row on_first
one_less own [] there = clash (sym there)
one_less own (w ∷ ws) there =
    ⊎_elim
    (λ (y : is_of own w ≡ true).
    let one : seat w ≡ 1 = ap (λ (b : Bool). pick {A = ℕ} b 1 0) (both w.joined (same own w.station.own) y).0 in
    ap seats_by y ∙ (let sum : suc (0 + seats ws) ≡ seat w + seats ws = omega (arith, one) in sum))
    (λ (n : is_of own w ≡ false).
    let rest = one_less own ws (sym (or_go (is_of own w) n) ∙ there) in
    ap seats_by n ∙ (let sum : suc (seat w + seats (on_first (is_of own) (λ u. free) ws)) ≡ seat w + seats ws = omega (arith, rest) in sum))
    (either (is_of own w))
  where
    seats_by : Bool → ℕ
    seats_by b = suc (seats (pick b (free ∷ ws) (w ∷ on_first (is_of own) (λ u. free) ws)))

-- no row is free exactly if all are joined
both_more : (n m : ℕ) → eqb n m ≡ eqb (1 + n) (suc m)
both_more n m =
    ⊎_elim
    (λ (y : eqb n m ≡ true). y ∙ sym (eq-eqb (1 + n) (suc m) (let e = eqb-true n m y in omega (arith, e))))
    (λ (k : eqb n m ≡ false). k ∙ sym (ne_eqb (1 + n) (suc m) (λ e. eqb-false n m k (omega (arith, e)))))
    (either (eqb n m))

pub none_free : (ws : List Row) → not (some_row is_free ws) ≡ eqb (seats ws) (length ws)
unfolding seats some_row
none_free [] = refl
none_free (w ∷ ws) = by w.joined (none_free ws) (seats_within ws)
  where
    by : (b : Bool) → not (some_row is_free ws) ≡ eqb (seats ws) (length ws) → seats ws ≤ length ws → not (not b || some_row is_free ws) ≡ eqb (pick b 1 0 + seats ws) (suc (length ws))
    by true rest within = rest ∙ both_more (seats ws) (length ws)
    by false rest within = sym (ne_eqb (0 + seats ws) (suc (length ws)) (λ e. omega (arith, e, within)))
