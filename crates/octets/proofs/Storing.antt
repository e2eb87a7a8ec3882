-- What a writer answers and what it leaves: where nothing is stored, where all is, and in front of a buffer, part after part. Assumes nothing.
use Rattle.std.specs.Prelude.{Ok, Err}
use mathlib.Core.Bool.{Bool, true, false}
use mathlib.Core.List.{List, [], ◌++◌}
use mathlib.Core.Path.{◌≡◌, refl, sym, ap, ap₂, ◌∙◌}
use Prim.Native.Nat.{ℕ, ◌+◌, ◌<◌, ◌≤◌}
use native.Mathlib.Omega.{arith}
use borrow.Author.Tests.{lt-ltb, le-ltb}
use lib.ListN.{length, take, drop, length-append, length-drop}
use lib.Seq.{length-take-le, take_at, take-append_seam, drop-append-add, drop-drop}
use Rattle.answer.proofs.Judged.{past, stop, done}
use Rattle.answer.specs.Checks.{Outcome}
use Rattle.answer.specs.declared.Refusal.{Refusal}
use Rattle.octets.specs.Writing.{room, wrote, over, after, filled, left, Written}

-- ---- nothing is stored

-- what may not be written leaves the buffer as it was
module _ (os : List ℕ) (at : ℕ) (buffer : List ℕ) where
  pub not_answer : {may : Bool} → may ≡ false → wrote may os at buffer ≡ Err Refusal.Impossible
  unfolding wrote room
  not_answer e = sym (stop _ _ _ (rw e))

  pub left_not : left false os at buffer ≡ buffer
  unfolding left
  left_not = ap (λ (o : Outcome ℕ). after o os at buffer) (not_answer refl)

  pub not_written : {may : Bool} → may ≡ false → Written may os at buffer (Err Refusal.Impossible) buffer
  unfolding left
  not_written e = record { answers = sym (not_answer e); leaves = sym (ap (λ (o : Outcome ℕ). after o os at buffer) (not_answer e)) }

module _ (os : List ℕ) (at : ℕ) (buffer : List ℕ) (short : length buffer < at + length os) where
  short_answer : wrote true os at buffer ≡ Err Refusal.BufferShort
  unfolding wrote room
  short_answer = sym (past _ _ _ refl (stop _ _ _ (lt-ltb (length buffer) (at + length os) short)))

  pub left_short : (may : Bool) → left may os at buffer ≡ buffer
  unfolding left
  left_short true = ap (λ (o : Outcome ℕ). after o os at buffer) short_answer
  left_short false = left_not os at buffer

  pub short_written : Written true os at buffer (Err Refusal.BufferShort) buffer
  short_written = record { answers = sym short_answer; leaves = sym (left_short true) }

-- ---- all is stored

module _ (os : List ℕ) (at : ℕ) (buffer : List ℕ) (fits : at + length os ≤ length buffer) where
  pub room_answer : wrote true os at buffer ≡ Ok (length os)
  unfolding wrote room
  room_answer = sym (past _ _ _ refl (past _ _ _ (le-ltb (length buffer) (at + length os) fits) (done _)))

  pub room_left : left true os at buffer ≡ over buffer at os
  unfolding left
  room_left = ap (λ (o : Outcome ℕ). after o os at buffer) room_answer

-- octets put at a place that has room for them
pub put_at : {part os : List ℕ} (at : ℕ) (buffer : List ℕ) {exit : List ℕ} → part ≡ os → at + length os ≤ length buffer → exit ≡ left true part at buffer
    → exit ≡ over buffer at os
put_at {part} {os} at buffer e fits w = w ∙ ap (λ (p : List ℕ). left true p at buffer) e ∙ room_left os at buffer fits

-- the buffer stays as long as it was
pub over_length : (buffer : List ℕ) (at : ℕ) (os : List ℕ) → at + length os ≤ length buffer → length (over buffer at os) ≡ length buffer
over_length buffer at os h =
    length-append (take at buffer ++ os) (drop (at + length os) buffer)
    ∙ omega (arith, length-take-le at buffer (omega arith), length-append (take at buffer) os, length-drop (at + length os) buffer)

-- ---- in front of a buffer

pub filled_length : (os buffer : List ℕ) → length os ≤ length buffer → length (filled os buffer) ≡ length buffer
filled_length os buffer h = length-append os (drop (length os) buffer) ∙ omega (arith, length-drop (length os) buffer)

-- more after what was filled in is all of it filled in
pub filled_again : (xs ys buffer : List ℕ) → filled (xs ++ ys) (filled xs buffer) ≡ filled (xs ++ ys) buffer
filled_again xs ys buffer =
    ap (λ (r : List ℕ). (xs ++ ys) ++ r)
    (ap (λ (n : ℕ). drop n (filled xs buffer)) (length-append xs ys)
    ∙ drop-append-add xs (drop (length xs) buffer) (length ys)
    ∙ drop-drop (length ys) (length xs) buffer
    ∙ ap (λ (n : ℕ). drop n buffer) (sym (length-append xs ys)))

module _ (os buffer exit : List ℕ) (e : exit ≡ filled os buffer) where
  pub filled_inside : length exit ≡ length buffer → length os ≤ length buffer
  filled_inside same = omega (arith, same, ap length e, length-append os (drop (length os) buffer))

  pub filled_front : (n : ℕ) → n ≡ length os → take n exit ≡ os
  filled_front n many = ap (take n) e ∙ take_at os (drop (length os) buffer) n (sym many)

-- ---- part after part

module _ (there os buffer : List ℕ) (fits : length there + length os ≤ length buffer) where
  pub after_answer : wrote true os (length there) (filled there buffer) ≡ Ok (length os)
  after_answer = room_answer os (length there) (filled there buffer) (omega (arith, filled_length there buffer (omega arith)))

  later : drop (length there + length os) (filled there buffer) ≡ drop (length (there ++ os)) buffer
  later =
      drop-append-add there (drop (length there) buffer) (length os)
      ∙ drop-drop (length os) (length there) buffer
      ∙ ap (λ (n : ℕ). drop n buffer) (sym (length-append there os))

  pub after_over : over (filled there buffer) (length there) os ≡ filled (there ++ os) buffer
  after_over =
      ap (λ (r : List ℕ). r ++ os ++ drop (length there + length os) (filled there buffer)) (take-append_seam there (drop (length there) buffer))
      ∙ ap (λ (r : List ℕ). there ++ os ++ r) later

  pub after_left : left true os (length there) (filled there buffer) ≡ filled (there ++ os) buffer
  after_left = room_left os (length there) (filled there buffer) (omega (arith, filled_length there buffer (omega arith))) ∙ after_over

pub front_left : (os buffer : List ℕ) → length os ≤ length buffer → left true os 0 buffer ≡ filled os buffer
front_left os buffer h = after_left [] os buffer (omega arith)

pub left_nothing : (may : Bool) (buffer : List ℕ) → left may [] 0 buffer ≡ buffer
left_nothing true buffer = front_left [] buffer (omega arith)
left_nothing false buffer = left_not [] 0 buffer

pub left_length : (may : Bool) (os buffer : List ℕ) → length os ≤ length buffer → length (left may os 0 buffer) ≡ length buffer
left_length true os buffer h = ap length (front_left os buffer h) ∙ filled_length os buffer h
left_length false os buffer h = ap length (left_not os 0 buffer)

-- two parts are as the whole
pub left_after : (may : Bool) (xs ys buffer : List ℕ) → length xs + length ys ≤ length buffer
    → left may ys (length xs) (left may xs 0 buffer) ≡ left may (xs ++ ys) 0 buffer
left_after true xs ys buffer h =
    ap (left true ys (length xs)) (front_left xs buffer (omega arith)) ∙ after_left xs ys buffer h
    ∙ sym (front_left (xs ++ ys) buffer (omega (arith, length-append xs ys)))
left_after false xs ys buffer h = left_not ys (length xs) _ ∙ left_not xs 0 buffer ∙ sym (left_not (xs ++ ys) 0 buffer)

-- `n` is the length of the first part
module _ (head body buffer : List ℕ) (n : ℕ) (size : n ≡ length head) (fits : n + length body ≤ length buffer) (middle exit : List ℕ)
    (first : middle ≡ left true head 0 buffer) (second : exit ≡ left true body n middle) where
  pub parts_written : Written true (head ++ body) 0 buffer (Ok (n + length body)) exit
  parts_written =
      let whole = length-append head body in
      record {
        answers =
            ap Ok (let e : n + length body ≡ length (head ++ body) = omega (arith, whole) in e)
            ∙ sym (room_answer (head ++ body) 0 buffer (omega (arith, whole)));
        leaves =
            second
            ∙ ap₂ (λ (k : ℕ) (b : List ℕ). left true body k b) size first
            ∙ left_after true head body buffer (omega arith);
      }

-- ---- any number of parts, one after the other from the front on

pub record Lies (parts buffer now : List ℕ) : Type 0 where
  pub inside : length parts ≤ length buffer
  pub stands : now ≡ filled parts buffer

pub none_lies : (buffer : List ℕ) → Lies [] buffer buffer
none_lies buffer = record { inside = omega arith; stands = refl }

module _ {parts buffer now : List ℕ} (l : Lies parts buffer now) where
  pub same_room : length now ≡ length buffer
  same_room = ap length l.stands ∙ filled_length parts buffer l.inside

  -- one more, at the place where those before it end
  pub part_put : (os exit : List ℕ) (at : ℕ) → at ≡ length parts → at + length os ≤ length buffer → exit ≡ left true os at now → Lies (parts ++ os) buffer exit
  part_put os exit at e fits w =
      record {
        inside = omega (arith, length-append parts os);
        stands = w ∙ ap₂ (λ (n : ℕ) (b : List ℕ). left true os n b) e l.stands ∙ after_left parts os buffer (omega arith);
      }

  pub all_written : (n : ℕ) → n ≡ length parts → Written true parts 0 buffer (Ok n) now
  all_written n e =
      record { answers = ap Ok e ∙ sym (room_answer parts 0 buffer (omega (arith, l.inside))); leaves = l.stands ∙ sym (front_left parts buffer l.inside) }
