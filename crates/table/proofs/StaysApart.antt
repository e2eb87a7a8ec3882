-- Rows that are joined keep distinct addresses, whatever call is made. Assumes nothing.
use Rattle.std.specs.Prelude.{All}
use Rattle.std.proofs.lemmas.List.Elements.{All-map, All-weaker, All-cons, All-head, All-tail}
use mathlib.Core.Bool.{Bool, true, false, not, ◌&&◌, ◌||◌}
use mathlib.Core.List.{List, [], ◌∷◌, map}
use mathlib.Core.Logic.{⊎_elim}
use mathlib.Core.Path.{◌≡◌, refl, sym, ap, ap₂, ◌∙◌, subst}
use Prim.Native.Nat.{ℕ, suc}
use lib.ListN.{length}
use Rattle.answer.proofs.Booleans.{clash, either, neither, and_go, or_go}
use Rattle.answer.specs.Checks.{pick}
use Rattle.header.proofs.Addresses.{same_self, same_is}
use Rattle.header.specs.Headers.{same}
use Rattle.row.specs.Rows.{free, seated, is_of, is_free}
use Rattle.row.specs.declared.Row.{Row}
use Rattle.station.specs.declared.Station.{Station}
use Rattle.table.specs.Tables.{some_row, on_first}
use Rattle.table.specs.Validity.{Apart}

-- ---- all of the rows

pub all_map : (P Q : Row → Type 0) (f : Row → Row) → ((w : Row) → P w → Q (f w)) → (ws : List Row) → All P ws → All Q (map f ws)
all_map P Q f g ws v = All-map Q f ws (All-weaker P (λ w. Q (f w)) g ws v)

module _ (P : Row → Type 0) (p : Row → Bool) (f : Row → Row) where
  pub all_on_first : ((w : Row) → p w ≡ true → P w → P (f w)) → (ws : List Row) → All P ws → All P (on_first p f ws)
  unfolding on_first
  all_on_first g [] v = v
  all_on_first g (w ∷ ws) v =
      let first = All-head P w ws v in
      let rest = All-tail P w ws v in
      ⊎_elim
      (λ (y : p w ≡ true). subst (All P) (ap (λ (b : Bool). pick b (f w ∷ ws) (w ∷ on_first p f ws)) (sym y)) (All-cons P (f w) ws (g w y first) rest))
      (λ (n : p w ≡ false).
      subst (All P) (ap (λ (b : Bool). pick b (f w ∷ ws) (w ∷ on_first p f ws)) (sym n)) (All-cons P w (on_first p f ws) first (all_on_first g ws rest)))
      (either (p w))

pub length_on_first : (p : Row → Bool) (f : Row → Row) (ws : List Row) → length (on_first p f ws) ≡ length ws
unfolding on_first
length_on_first p f [] = refl
length_on_first p f (w ∷ ws) = by (p w) (length_on_first p f ws)
  where
    by : (b : Bool) → length (on_first p f ws) ≡ length ws → length (pick b (f w ∷ ws) (w ∷ on_first p f ws)) ≡ length (w ∷ ws)
    by true rest = refl
    by false rest = ap suc rest

-- ---- rows that are changed but for who sits there

abbrev pub SameSeat : Row → Row → Type 0
SameSeat w v = (v.joined ≡ w.joined) × (v.station.own ≡ w.station.own)

unfoldable pub SameSeats : List Row → List Row → Type 0
SameSeats [] [] = Unit {0}
SameSeats [] (v ∷ vs) = ⊥
SameSeats (w ∷ ws) [] = ⊥
SameSeats (w ∷ ws) (v ∷ vs) = SameSeat w v × SameSeats ws vs

pub same_seat_of : (own : List ℕ) (w v : Row) → SameSeat w v → is_of own v ≡ is_of own w
same_seat_of own w v s = ap₂ (λ (b : Bool) (a : List ℕ). b && same own a) s.0 s.1

pub some_same : (own : List ℕ) (ws vs : List Row) → SameSeats ws vs → some_row (is_of own) vs ≡ some_row (is_of own) ws
unfolding SameSeats some_row
some_same own [] [] s = refl
some_same own [] (v ∷ vs) s = absurd s
some_same own (w ∷ ws) [] s = absurd s
some_same own (w ∷ ws) (v ∷ vs) s = ap₂ (λ (a b : Bool). a || b) (same_seat_of own w v s.0) (some_same own ws vs s.1)

pub apart_same : (ws vs : List Row) → SameSeats ws vs → Apart ws → Apart vs
unfolding SameSeats Apart
apart_same [] [] s a = tt
apart_same [] (v ∷ vs) s a = absurd s
apart_same (w ∷ ws) [] s a = absurd s
apart_same (w ∷ ws) (v ∷ vs) s a =
    (λ j. ap (λ (own : List ℕ). some_row (is_of own) vs) s.0.1 ∙ some_same w.station.own ws vs s.1 ∙ a.0 (sym s.0.0 ∙ j), apart_same ws vs s.1 a.1)

pub seats_self : (ws : List Row) → SameSeats ws ws
unfolding SameSeats
seats_self [] = tt
seats_self (w ∷ ws) = ((refl, refl), seats_self ws)

module _ (f : Row → Row) (keeps : (w : Row) → SameSeat w (f w)) where
  pub seats_map : (ws : List Row) → SameSeats ws (map f ws)
  unfolding SameSeats
  seats_map [] = tt
  seats_map (w ∷ ws) = (keeps w, seats_map ws)

  pub seats_on_first : (p : Row → Bool) (ws : List Row) → SameSeats ws (on_first p f ws)
  unfolding SameSeats on_first
  seats_on_first p [] = tt
  seats_on_first p (w ∷ ws) = by (p w) (seats_on_first p ws)
    where
      by : (b : Bool) → SameSeats ws (on_first p f ws) → SameSeats (w ∷ ws) (pick b (f w ∷ ws) (w ∷ on_first p f ws))
      by true rest = (keeps w, seats_self ws)
      by false rest = ((refl, refl), rest)

-- ---- a station leaves

-- where no row was of an address, none is after a row was changed into one that is not
none_changed : (own : List ℕ) (p : Row → Bool) (v : Row) → is_of own v ≡ false → (ws : List Row) → some_row (is_of own) ws ≡ false
    → some_row (is_of own) (on_first p (λ w. v) ws) ≡ false
unfolding some_row on_first
none_changed own p v n [] e = refl
none_changed own p v n (w ∷ ws) e = by (p w) (none_changed own p v n ws off.1)
  where
    off : (is_of own w ≡ false) × (some_row (is_of own) ws ≡ false)
    off = neither (is_of own w) (some_row (is_of own) ws) e

    by : (b : Bool) → some_row (is_of own) (on_first p (λ u. v) ws) ≡ false → some_row (is_of own) (pick b (v ∷ ws) (w ∷ on_first p (λ u. v) ws)) ≡ false
    by true rest = or_go (is_of own v) n ∙ off.1
    by false rest = or_go (is_of own w) off.0 ∙ rest

pub apart_left : (p : Row → Bool) (ws : List Row) → Apart ws → Apart (on_first p (λ w. free) ws)
unfolding Apart on_first
apart_left p [] a = tt
apart_left p (w ∷ ws) a = by (p w) (apart_left p ws a.1)
  where
    by : (b : Bool) → Apart (on_first p (λ u. free) ws) → Apart (pick b (free ∷ ws) (w ∷ on_first p (λ u. free) ws))
    by true rest = (λ j. clash (sym j), a.1)
    by false rest = (λ j. none_changed w.station.own p free refl ws (a.0 j), rest)

-- ---- a station joins whose address no row has

pub differ : (a b : List ℕ) → same a b ≡ false → same b a ≡ false
differ a b n =
    ⊎_elim
    (λ (y : same b a ≡ true). clash (sym (same_self a) ∙ ap (same a) (sym (same_is b a y)) ∙ n))
    (λ (m : same b a ≡ false). m)
    (either (same b a))

pub apart_joined : (s : Station) (ws : List Row) → some_row (is_of s.own) ws ≡ false → Apart ws → Apart (on_first is_free (λ w. seated s) ws)
unfolding Apart on_first some_row
apart_joined s [] e a = tt
apart_joined s (w ∷ ws) e a = by w.joined refl (apart_joined s ws off.1 a.1)
  where
    off : (is_of s.own w ≡ false) × (some_row (is_of s.own) ws ≡ false)
    off = neither (is_of s.own w) (some_row (is_of s.own) ws) e

    by : (b : Bool) → w.joined ≡ b → Apart (on_first is_free (λ u. seated s) ws)
        → Apart (pick (not b) (seated s ∷ ws) (w ∷ on_first is_free (λ u. seated s) ws))
    by false j rest = (λ _. off.1, a.1)
    by true j rest =
        let apart = differ s.own w.station.own (sym (and_go w.joined j) ∙ off.0) in
        (λ _. none_changed w.station.own is_free (seated s) apart ws (a.0 j), rest)
