-- A text stands whole in front of its room. Assumes nothing.
use mathlib.Core.List.{List, ◌++◌}
use mathlib.Core.Path.{◌≡◌, sym, ap, ap₂, ◌∙◌}
use Prim.Native.Nat.{ℕ, ◌+◌, ◌-◌, ◌≤◌}
use native.Mathlib.Omega.{arith}
use lib.ListN.{length, take, drop, replicate, length-append, length-replicate, replicate-append-replicate}
use lib.Seq.{take-append_seam, drop_at}
use Rattle.pen.specs.CodeTerms.Putting.{OctetsPut}
use Rattle.pen.specs.Rooms.{line_room, roomy, fronted}
use Rattle.pen.specs.declared.last_line.Text.{Text}

module _ (room : ℕ) (os : List ℕ) where
  front : take (length os) (roomy room os) ≡ os
  front = take-append_seam os (replicate (room - length os) 0)

  within : length os ≤ length (roomy room os)
  within = omega (arith, length-append os (replicate (room - length os) 0))

-- the octets of a text are the first ones
pub in_front_lem : (t : Text) (os : List ℕ) → t ≡ fronted os → take t.count t.bytes ≡ os
in_front_lem t os e = ap (λ (x : Text). take x.count x.bytes) e ∙ front line_room os

-- which lie in its room
pub count_within : (t : Text) (os : List ℕ) → t ≡ fronted os → t.count ≤ length t.bytes
count_within t os e = omega (arith, ap (λ (x : Text). x.count) e, ap (λ (x : Text). length x.bytes) e, within line_room os)

-- ---- octets that are put in front of an empty room

abbrev zeros : ℕ → List ℕ
zeros n = replicate n 0

zeros_left : (k n : ℕ) → drop k (zeros (k + n)) ≡ zeros n
zeros_left k n = ap (drop k) (sym (replicate-append-replicate k n 0)) ∙ drop_at (zeros k) (zeros n) k (length-replicate k 0)

pub put_in_front : {os : List ℕ} {count : ℕ} {bytes : List ℕ} → length os ≤ line_room → OctetsPut os 0 (zeros line_room) count bytes
    → ◌≡◌ {A = Text} (record { bytes = bytes; count = count }) (fronted os)
put_in_front {os} {count} {bytes} short p =
    let left : ℕ = line_room - length os in
    let rest : drop (0 + length os) (zeros line_room) ≡ zeros left =
    ap₂ (λ (k n : ℕ). drop k (zeros n)) (let e : 0 + length os ≡ length os = omega arith in e) (let e : line_room ≡ length os + left = omega arith in e) ∙ zeros_left (length os) left in
    ap₂ (λ (xs : List ℕ) (n : ℕ). record { bytes = xs; count = n }) (p.stands ∙ ap (λ (xs : List ℕ). os ++ xs) rest) (let e : count ≡ length os = omega (arith, p.ends) in e)
