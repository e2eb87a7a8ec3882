-- Octets that are copied over as many others: at a place, and where those before them end. Assumes nothing.
use mathlib.Core.List.{List, [], ◌∷◌, ◌++◌, append_assoc, append-nil}
use mathlib.Core.Path.{◌≡◌, refl, sym, ap, ap₂, ◌∙◌}
use Prim.Native.Nat.{ℕ, zero, suc, ◌+◌, ◌<◌, ◌≤◌}
use native.Mathlib.Omega.{arith}
use borrow.Rule.Slice.PartMut.{put_mid}
use lib.ListN.{length, take, drop, set, length-append, take-append-drop}
use lib.Seq.{length-take-le, take_at, drop_at, drop-drop}
use Rattle.octets.proofs.Storing.{over_length}
use Rattle.octets.specs.Writing.{over, filled}

pub copied_over : (at : ℕ) {n : ℕ} (buffer : List ℕ) {part os : List ℕ} → part ≡ os → n ≡ length os → put_mid at n buffer part ≡ over buffer at os
copied_over at {n} buffer {part} {os} e many =
    ap₂ (λ (xs rest : List ℕ). take at buffer ++ (xs ++ rest)) e
    (drop-drop n at buffer ∙ ap (λ (k : ℕ). drop k buffer) (let same : at + n ≡ at + length os = omega (arith, many) in same))
    ∙ sym (append_assoc (take at buffer) os (drop (at + length os) buffer))

-- in front
pub front_over : (n : ℕ) (buffer : List ℕ) {part os : List ℕ} → part ≡ os → n ≡ length os → part ++ drop n buffer ≡ over buffer 0 os
front_over n buffer {part} {os} e many =
    ap₂ (λ (xs : List ℕ) (k : ℕ). xs ++ drop k buffer) e (let same : n ≡ 0 + length os = omega (arith, many) in same)

pub over_front : (os buffer : List ℕ) → over buffer 0 os ≡ filled os buffer
over_front os buffer = ap (λ (n : ℕ). os ++ drop n buffer) (let same : 0 + length os ≡ length os = omega arith in same)

-- one octet
pub set_over : (at : ℕ) (buffer : List ℕ) (x : ℕ) → at < length buffer → set buffer at x ≡ over buffer at (x ∷ [])
set_over at [] x h = absurd (omega arith)
set_over zero (y ∷ buffer) x h = refl
set_over (suc at) (y ∷ buffer) x h =
    ap (λ (r : List ℕ). y ∷ r) (set_over at buffer x (omega arith))
    ∙ ap (λ (k : ℕ). (y ∷ take at buffer) ++ (x ∷ []) ++ drop k (y ∷ buffer)) (let same : suc (at + 1) ≡ suc at + 1 = omega arith in same)

-- what is put where other octets end is put with them
pub over_next : (at : ℕ) (xs ys buffer : List ℕ) → at + length xs + length ys ≤ length buffer → over (over buffer at xs) (at + length xs) ys ≡ over buffer at (xs ++ ys)
over_next at xs ys buffer fits =
    let front = take at buffer ++ xs in
    let rest = drop (at + length xs) buffer in
    let size : length front ≡ at + length xs = omega (arith, fits, length-append (take at buffer) xs, length-take-le at buffer (omega (arith, fits))) in
    let end : at + length xs + length ys ≡ at + length (xs ++ ys) = omega (arith, length-append xs ys) in
    ap₂ (λ (before after : List ℕ). before ++ ys ++ after)
    (take_at front rest (at + length xs) size)
    (ap (λ (k : ℕ). drop k (front ++ rest)) (let e : at + length xs + length ys ≡ length front + length ys = omega (arith, size) in e)
    ∙ later front rest (length ys)
    ∙ drop-drop (length ys) (at + length xs) buffer
    ∙ ap (λ (k : ℕ). drop k buffer) end)
    ∙ ap (λ (before : List ℕ). before ++ drop (at + length (xs ++ ys)) buffer) (append_assoc (take at buffer) xs ys)
  where
    later : (xs ys : List ℕ) (k : ℕ) → drop (length xs + k) (xs ++ ys) ≡ drop k ys
    later xs ys k = sym (drop-drop k (length xs) (xs ++ ys)) ∙ ap (drop k) (drop_at xs ys (length xs) refl)

-- ---- part after part

-- octets are put at a place
pub record Put (at : ℕ) (os buffer now : List ℕ) : Type 0 where
  pub fits : at + length os ≤ length buffer
  pub stands : now ≡ over buffer at os

pub nothing_put : (at : ℕ) (buffer : List ℕ) → at ≤ length buffer → Put at [] buffer buffer
nothing_put at buffer h =
    record {
      fits = omega arith;
      stands =
          sym (take-append-drop at buffer)
          ∙ ap₂ (λ (front : List ℕ) (k : ℕ). front ++ drop k buffer) (sym (append-nil (take at buffer))) (let same : at ≡ at + 0 = omega arith in same);
    }

-- the first
pub first_put : (at : ℕ) (os buffer : List ℕ) {now : List ℕ} → at + length os ≤ length buffer → now ≡ over buffer at os → Put at os buffer now
first_put at os buffer h e = record { fits = h; stands = e }

module _ {at : ℕ} {xs buffer now : List ℕ} (p : Put at xs buffer now) (n : ℕ) (here : n ≡ at + length xs) (os : List ℕ) (fits : at + length xs + length os ≤ length buffer) where
  -- the next
  pub next_put : {exit : List ℕ} → exit ≡ over now n os → Put at (xs ++ os) buffer exit
  next_put e =
      record {
        fits = omega (arith, fits, length-append xs os);
        stands = e ∙ ap₂ (λ (b : List ℕ) (k : ℕ). over b k os) p.stands here ∙ over_next at xs os buffer fits;
      }

  pub next_copied : {j : ℕ} {part : List ℕ} → part ≡ os → j ≡ length os → Put at (xs ++ os) buffer (put_mid n j now part)
  next_copied e many = next_put (copied_over n now e many)

pub same_size : {at : ℕ} {os buffer now : List ℕ} → Put at os buffer now → length now ≡ length buffer
same_size {at} {os} {buffer} p = ap length p.stands ∙ over_length buffer at os p.fits
