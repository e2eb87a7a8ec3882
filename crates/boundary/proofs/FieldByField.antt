-- Fields that are copied into an array of zeros, one after the other from the front on. Assumes nothing.
use mathlib.Core.List.{List, ◌++◌}
use mathlib.Core.Path.{◌≡◌, sym, ap, ap₂, ◌∙◌}
use Prim.Native.Nat.{ℕ, ◌+◌, ◌≤◌}
use native.Mathlib.Omega.{arith}
use borrow.Rule.Slice.PartMut.{put_mid}
use lib.ListN.{length, take, drop, length-append, length-drop}
use lib.Seq.{length-take-le, take_at, take_all}
use Rattle.std.proofs.lemmas.Slice.{take-put_mid}

-- the first n octets are the fields
pub record Begins (room : List ℕ) (n : ℕ) (fields now : List ℕ) : Type 0 where
  pub size : n ≡ length fields
  pub inside : n ≤ length room
  pub total : length now ≡ length room
  pub stands : take n now ≡ fields

pub first_field : (n : ℕ) (room : List ℕ) {part os : List ℕ} → part ≡ os → length os ≡ n → n ≤ length room → Begins room n os (part ++ drop n room)
first_field n room {part} {os} e many fits =
    record {
      size = sym many;
      inside = fits;
      total = length-append part (drop n room) ∙ omega (arith, ap length e, many, fits, length-drop n room);
      stands = take_at part (drop n room) n (ap length e ∙ many) ∙ e;
    }

-- one more, of k octets
pub next_field : {n : ℕ} {room fields now : List ℕ} → Begins room n fields now → (k : ℕ) {part os : List ℕ} → part ≡ os → length os ≡ k → n + k ≤ length room
    → Begins room (n + k) (fields ++ os) (put_mid n k now part)
next_field {n} {room} {fields} {now} b k {part} {os} e many fits =
    let rest = drop k (drop n now) in
    record {
      size = (let s : n + k ≡ length (fields ++ os) = omega (arith, b.size, many, length-append fields os) in s);
      inside = fits;
      total =
          length-append (take n now) (part ++ rest)
          ∙ omega (arith, ap length e, many, b.total, fits, length-append part rest, length-drop k (drop n now), length-drop n now, length-take-le n now (omega (arith, b.total, fits)));
      stands =
          take-put_mid n k now part (n + k) (omega (arith, ap length e, many)) (omega (arith, b.total, b.inside))
          ∙ ap₂ (λ (front os' : List ℕ). front ++ os') b.stands e;
    }

-- fields that fill the array are all there is
pub all_fields : {n : ℕ} {room fields now : List ℕ} → Begins room n fields now → length room ≡ n → now ≡ fields
all_fields {n} {room} {fields} {now} b whole = sym (take_all n now (omega (arith, b.total, whole))) ∙ b.stands
