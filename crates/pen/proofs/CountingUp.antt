-- The digits of the next number from those of a number: the nines at its end become zeros, and the digit before them one more. Assumes nothing.
use mathlib.Core.Bool.{Bool, true, false}
use mathlib.Core.Logic.{◌⊎◌, inl, inr, ⊎_elim}
use mathlib.Core.List.{List, [], ◌∷◌, ◌++◌, append-nil}
use mathlib.Core.Path.{◌≡◌, refl, sym, ap, ap₂, ◌∙◌}
use Prim.Native.Nat.{ℕ, ◌+◌, ◌/◌, ◌%◌, ◌-◌, ◌<◌, ◌≤◌}
use native.Mathlib.Omega.{arith}
use borrow.Author.Tests.{ltb-true, ltb-false}
use lib.Dec.{ltb}
use lib.ListN.{length, get_or, take, drop, set, length-append, length-set}
use lib.Seq.{append_snoc}
use Rattle.pen.specs.Decimals.{decimal}
use Rattle.pen.specs.Numerals.{numeral_end, numeral_room, Spells}
use Rattle.pen.proofs.InNumeral.{placed_digits, digit_read, digit_changed, digit_before}
use Rattle.pen.proofs.Spelling.{one_alone, last_of_many, some_digits}

-- ---- the last digit

-- the digits before the last, and what becomes of the number when it is counted up
record Last (m : ℕ) : Type 0 where
  pub front : List ℕ
  pub says : decimal m ≡ front ++ ((48 + m % 10) ∷ [])
  pub higher : m % 10 < 9 → decimal (m + 1) ≡ front ++ ((48 + m % 10 + 1) ∷ [])
  -- after a nine: alone, or with more digits in front
  pub over : m % 10 ≡ 9 → ((front ≡ []) × (decimal (m + 1) ≡ 49 ∷ 48 ∷ [])) ⊎ ((front ≡ decimal (m / 10)) × (decimal (m + 1) ≡ decimal (m / 10 + 1) ++ (48 ∷ [])))

-- a number of one digit
alone : (m : ℕ) → m < 10 → Last m
alone m h =
    record {
      front = [];
      says = one_alone m h ∙ ap (λ (k : ℕ). (48 + k) ∷ []) (let e : m ≡ m % 10 = omega arith in e);
      higher = λ low. one_alone (m + 1) (omega arith) ∙ ap (λ (k : ℕ). k ∷ []) (let e : 48 + (m + 1) ≡ 48 + m % 10 + 1 = omega arith in e);
      over = λ nine. inl (refl, ap decimal (let e : m + 1 ≡ 10 = omega arith in e) ∙ ten);
    }
  where
    ten : decimal 10 ≡ 49 ∷ 48 ∷ []
    ten = last_of_many 10 (omega arith) ∙ ap (λ (xs : List ℕ). xs ++ (48 ∷ [])) (one_alone 1 (omega arith))

-- a number of more
of_many : (m : ℕ) → 10 ≤ m → Last m
of_many m h =
    record {
      front = decimal (m / 10);
      says = last_of_many m h;
      higher = λ low.
          last_of_many (m + 1) (omega arith)
          ∙ ap₂ (λ (k d : ℕ). decimal k ++ (d ∷ [])) (let e : (m + 1) / 10 ≡ m / 10 = omega arith in e) (let e : 48 + (m + 1) % 10 ≡ 48 + m % 10 + 1 = omega arith in e);
      over = λ nine.
          inr (
            refl,
            last_of_many (m + 1) (omega arith)
                ∙ ap₂ (λ (k d : ℕ). decimal k ++ (d ∷ [])) (let e : (m + 1) / 10 ≡ m / 10 + 1 = omega arith in e) (let e : 48 + (m + 1) % 10 ≡ 48 = omega arith in e),
          );
    }

last : (m : ℕ) → Last m
last m = by (ltb m 10) refl
  where
    by : (t : Bool) → ltb m 10 ≡ t → Last m
    by true e = alone m (ltb-true m 10 e)
    by false e = of_many m (ltb-false m 10 e)

-- ---- digit by digit from the last

-- the digits after a place were nines and are zeros; those up to it still say a number, whose next is to stand in front of the zeros
pub record Counting (n from : ℕ) (s : List ℕ) (at : ℕ) : Type 0 where
  pub head : ℕ
  pub done : List ℕ
  pub stands : drop from (take numeral_end s) ≡ decimal head ++ done
  pub place : from + length (decimal head) ≡ at + 1
  pub becomes : decimal (n + 1) ≡ decimal (head + 1) ++ done

-- every digit was a nine and is a zero: the next number has a one in front of them
pub record Passed (n from : ℕ) (s : List ℕ) : Type 0 where
  pub done : List ℕ
  pub stands : drop from (take numeral_end s) ≡ done
  pub becomes : decimal (n + 1) ≡ 49 ∷ done

pub counting_begins : {n from : ℕ} {s : List ℕ} → Spells n s from → Counting n from s 19
counting_begins {n} {from} {s} p =
    record {
      head = n;
      done = [];
      stands = p.says ∙ sym (append-nil (decimal n));
      place = omega (arith, placed_digits p);
      becomes = sym (append-nil (decimal (n + 1)));
    }

module _ {n from : ℕ} {s : List ℕ} {at : ℕ} (c : Counting n from s at) (room : length s ≡ numeral_room) (inside : at < numeral_end) where
  abbrev m : ℕ
  m = c.head

  abbrev front : List ℕ
  front = (last m).front

  here : from + length front ≡ at
  here = omega (arith, c.place, ap length (last m).says, length-append front ((48 + m % 10) ∷ []))

  apart : drop from (take numeral_end s) ≡ front ++ ((48 + m % 10) ∷ c.done)
  apart = c.stands ∙ ap (λ (xs : List ℕ). xs ++ c.done) (last m).says ∙ append_snoc front (48 + m % 10) c.done

  the_digit : get_or s at 0 ≡ 48 + m % 10
  the_digit = digit_read s from at front (48 + m % 10) c.done here inside apart

  changed : (other : ℕ) → drop from (take numeral_end (set s at other)) ≡ front ++ (other ∷ c.done)
  changed = digit_changed s from at front (48 + m % 10) c.done here inside apart

  pub begun : from ≤ at
  begun = omega (arith, here)

  pub digit_low : get_or s at 0 ≤ 57
  digit_low = omega (arith, the_digit)

  -- a digit that is no nine
  pub counted : (get_or s at 0 ≡ 57 → ⊥) → Spells (n + 1) (set s at (get_or s at 0 + 1)) from
  counted low =
      let less : m % 10 < 9 = omega (arith, the_digit, low) in
      record {
        room = length-set s at _ ∙ room;
        says =
            changed (get_or s at 0 + 1)
            ∙ ap (λ (d : ℕ). front ++ (d ∷ c.done)) (let e : get_or s at 0 + 1 ≡ 48 + m % 10 + 1 = omega (arith, the_digit) in e)
            ∙ sym (append_snoc front (48 + m % 10 + 1) c.done)
            ∙ ap (λ (xs : List ℕ). xs ++ c.done) (sym ((last m).higher less))
            ∙ sym c.becomes;
      }

  module _ (nine : get_or s at 0 ≡ 57) where
    is_nine : m % 10 ≡ 9
    is_nine = omega (arith, the_digit)

    -- a nine after other digits
    pub carried : (at ≡ from → ⊥) → Counting n from (set s at 48) (at - 1)
    carried more = ⊎_elim (λ w. absurd (more (omega (arith, here, ap length w.0)))) after ((last m).over is_nine)
      where
        after : (front ≡ decimal (m / 10)) × (decimal (m + 1) ≡ decimal (m / 10 + 1) ++ (48 ∷ [])) → Counting n from (set s at 48) (at - 1)
        after w =
            record {
              head = m / 10;
              done = 48 ∷ c.done;
              stands = changed 48 ∙ ap (λ (xs : List ℕ). xs ++ (48 ∷ c.done)) w.0;
              place = let some = begun in omega (arith, here, ap length w.0, more);
              becomes = c.becomes ∙ ap (λ (xs : List ℕ). xs ++ c.done) w.1 ∙ append_snoc (decimal (m / 10 + 1)) 48 c.done;
            }

    -- the first digit of all
    pub all_nines : at ≡ from → Passed n from (set s at 48)
    all_nines first = ⊎_elim alone_now (λ w. absurd (omega (arith, here, ap length w.0, some_digits (m / 10)))) ((last m).over is_nine)
      where
        alone_now : (front ≡ []) × (decimal (m + 1) ≡ 49 ∷ 48 ∷ []) → Passed n from (set s at 48)
        alone_now w =
            record {
              done = 48 ∷ c.done;
              stands = changed 48 ∙ ap (λ (xs : List ℕ). xs ++ (48 ∷ c.done)) w.0;
              becomes = c.becomes ∙ ap (λ (xs : List ℕ). xs ++ c.done) w.1;
            }

-- the one
pub grown : {n from : ℕ} {s : List ℕ} → Passed n from s → length s ≡ numeral_room → 1 ≤ from → from ≤ numeral_end → Spells (n + 1) (set s (from - 1) 49) (from - 1)
grown {n} {from} {s} p room free inside =
    record {
      room = length-set s (from - 1) 49 ∙ room;
      says = digit_before s from 49 room free inside ∙ ap (λ (xs : List ℕ). 49 ∷ xs) p.stands ∙ sym p.becomes;
    }
