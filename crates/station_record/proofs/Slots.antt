-- The schedules in a record: how many octets they take, that what is read is what stands there, and that what is laid is read. Assumes nothing.
use mathlib.Core.List.{List, [], ◌∷◌, ◌++◌}
use mathlib.Core.Path.{◌≡◌, refl, sym, ap, ap₂, ◌∙◌}
use Prim.Native.Nat.{ℕ, zero, suc, ◌+◌, ◌*◌}
use native.Mathlib.Omega.{arith}
use lib.ListN.{length, length-append}
use Rattle.octets.proofs.JoinSplit.{join_split, split_number, number_bound, from_add, from_after}
use Rattle.octets.specs.Numbers.{Octets, join, octets_from, number}
use Rattle.schedule.specs.declared.Schedule.{Schedule}
use Rattle.station_record.specs.Fits.{ScheduleFits, AllFit}
use Rattle.station_record.specs.Held.{schedule_at, schedules_from}
use Rattle.station_record.specs.Records.{slot_length, slot_octets, slots_of}

-- ---- how many

-- as many schedules are read as are asked for
pub read_length : (n i : ℕ) (os : List ℕ) → length (schedules_from n i os) ≡ n
unfolding schedules_from
read_length zero i os = refl
read_length (suc n) i os = ap suc (read_length n (i + slot_length) os)

-- each schedule takes as many octets
pub slots_length : (xs : List Schedule) → length (slots_of xs) ≡ slot_length * length xs
unfolding slots_of
slots_length [] = refl
slots_length (x ∷ xs) = length-append (slot_octets x) (slots_of xs) ∙ omega (arith, slots_length xs)

-- ---- from octets to schedules and back

-- a schedule that was read has the octets that stand there
slot_lies : (i : ℕ) (os : List ℕ) → Octets os → slot_octets (schedule_at i os) ≡ octets_from slot_length i os
slot_lies i os o =
    ap₂ (λ (a r : List ℕ). a ++ r) (split_number 8 i os o)
    (ap₂ (λ (b c : List ℕ). b ++ c) (split_number 8 (i + 8) os o) (split_number 2 (i + 16) os o))
    ∙ ap (λ (r : List ℕ). octets_from 8 i os ++ r) rest
    ∙ sym (from_add 8 10 i os)
  where
    rest : octets_from 8 (i + 8) os ++ octets_from 2 (i + 16) os ≡ octets_from 10 (i + 8) os
    rest =
        let later : i + 16 ≡ i + 8 + 8 = omega arith in
        ap (λ (p : ℕ). octets_from 8 (i + 8) os ++ octets_from 2 p os) later ∙ sym (from_add 8 2 (i + 8) os)

-- and so have any number of them
pub slots_lie : (n i : ℕ) (os : List ℕ) → Octets os → slots_of (schedules_from n i os) ≡ octets_from (slot_length * n) i os
unfolding slots_of schedules_from
slots_lie zero i os o = refl
slots_lie (suc n) i os o =
    let one_more : slot_length + slot_length * n ≡ slot_length * suc n = omega arith in
    ap₂ (λ (a r : List ℕ). a ++ r) (slot_lies i os o) (slots_lie n (i + slot_length) os o)
    ∙ sym (from_add slot_length (slot_length * n) i os)
    ∙ ap (λ (k : ℕ). octets_from k i os) one_more

-- each number that was read fits the octets that it was read from
pub slots_fit : (n i : ℕ) (os : List ℕ) → Octets os → AllFit (schedules_from n i os)
unfolding schedules_from
slots_fit zero i os o = tt
slots_fit (suc n) i os o =
    ((number_bound 8 i os o, number_bound 8 (i + 8) os o, number_bound 2 (i + 16) os o), slots_fit n (i + slot_length) os o)

-- ---- from schedules to octets and back

-- schedules are the same whose numbers are
same_schedule : {a b c d e f : ℕ} → a ≡ b → c ≡ d → e ≡ f
    → ◌≡◌ {A = Schedule} (record { start = a; period = c; duration = e }) (record { start = b; period = d; duration = f })
same_schedule p q r = cc

module _ (xs ys : List ℕ) where
  -- past what stands in front, a number is that of the rest
  number_after : (k i j : ℕ) → number k (length xs + i + j) (xs ++ ys) ≡ number k (i + j) ys
  number_after k i j =
      let place : length xs + i + j ≡ length xs + (i + j) = omega arith in
      ap (λ (p : ℕ). number k p (xs ++ ys)) place ∙ ap join (from_after k (i + j) xs ys)

  -- and so is a schedule
  slot_after : (i : ℕ) → schedule_at (length xs + i) (xs ++ ys) ≡ schedule_at i ys
  slot_after i = same_schedule (ap join (from_after 8 i xs ys)) (number_after 8 i 8) (number_after 2 i 16)

-- and so are any number of them
pub read_after : (n i : ℕ) (xs ys : List ℕ) → schedules_from n (length xs + i) (xs ++ ys) ≡ schedules_from n i ys
unfolding schedules_from
read_after zero i xs ys = refl
read_after (suc n) i xs ys =
    let place : length xs + i + slot_length ≡ length xs + (i + slot_length) = omega arith in
    ap₂ (λ (x : Schedule) (r : List Schedule). x ∷ r)
    (slot_after xs ys i)
    (ap (λ (p : ℕ). schedules_from n p (xs ++ ys)) place ∙ read_after n (i + slot_length) xs ys)

-- a schedule that was laid is read again
slot_read : (x : Schedule) → ScheduleFits x → (rest : List ℕ) → schedule_at 0 (slot_octets x ++ rest) ≡ x
slot_read x f rest =
    same_schedule (join_split 8 x.start f.0) (join_split 8 x.period f.1) (join_split 2 x.duration f.2)

-- and so are any number of them
pub slots_read : (xs : List Schedule) → AllFit xs → (rest : List ℕ) → schedules_from (length xs) 0 (slots_of xs ++ rest) ≡ xs
unfolding slots_of schedules_from
slots_read [] f rest = refl
slots_read (x ∷ xs) f rest =
    ap₂ (λ (y : Schedule) (r : List Schedule). y ∷ r)
    (slot_read x f.0 (slots_of xs ++ rest))
    (read_after (length xs) 0 (slot_octets x) (slots_of xs ++ rest) ∙ slots_read xs f.1 rest)
