-- Schedules one after the other, each read or laid where those before it end. Assumes nothing.
use mathlib.Core.List.{List, [], ◌∷◌, ◌++◌}
use mathlib.Core.Path.{◌≡◌, refl, sym, ap, ap₂, ◌∙◌}
use Prim.Native.Nat.{ℕ, zero, suc, ◌+◌, ◌*◌, ◌<◌}
use native.Mathlib.Numerals.{add-one}
use native.Mathlib.Omega.{arith}
use lib.ListN.{set}
use Rattle.beacon.proofs.Slots.{next_slot}
use Rattle.beacon.specs.Beacons.{quiet_limit}
use Rattle.schedule.specs.declared.Schedule.{Schedule}
use Rattle.station.specs.Stations.{no_schedule, slotted}
use Rattle.station_record.proofs.Slots.{read_length}
use Rattle.station_record.specs.Held.{schedule_at, schedules_from}
use Rattle.station_record.specs.Records.{head_length, slot_length, slot_octets, slots_of}

-- ---- read

one_more : (n i : ℕ) (os : List ℕ) → schedules_from (suc n) i os ≡ schedules_from n i os ++ (schedule_at (i + slot_length * n) os ∷ [])
unfolding schedules_from
one_more zero i os = ap (λ (j : ℕ). schedule_at j os ∷ []) (let e : i ≡ i + slot_length * 0 = omega arith in e)
one_more (suc n) i os =
    ap (λ (xs : List Schedule). schedule_at i os ∷ xs)
    (one_more n (i + slot_length) os
    ∙ ap (λ (j : ℕ). schedules_from n (i + slot_length) os ++ (schedule_at j os ∷ [])) (let e : i + slot_length + slot_length * n ≡ i + slot_length * suc n = omega arith in e))

one_more_read : (n : ℕ) (os : List ℕ) → n < quiet_limit
    → set (slotted (schedules_from n head_length os)) n (schedule_at (head_length + slot_length * n) os) ≡ slotted (schedules_from (n + 1) head_length os)
one_more_read n os h =
    let xs = schedules_from n head_length os in
    let x = schedule_at (head_length + slot_length * n) os in
    ap (λ (k : ℕ). set (slotted xs) k x) (sym (read_length n head_length os))
    ∙ next_slot xs x quiet_limit no_schedule (omega (arith, read_length n head_length os))
    ∙ ap slotted (sym (one_more n head_length os) ∙ ap (λ (k : ℕ). schedules_from k head_length os) (sym (add-one n)))

pub next_read : (n : ℕ) (os : List ℕ) {slots : List Schedule} {x : Schedule} → n < quiet_limit
    → slots ≡ slotted (schedules_from n head_length os) → x ≡ schedule_at (head_length + slot_length * n) os
    → set slots n x ≡ slotted (schedules_from (n + 1) head_length os)
next_read n os h e f =
    ap₂ (λ (slots : List Schedule) (x : Schedule). set slots n x) e f ∙ one_more_read n os h

-- ---- laid

pub slots_one_more : (xs : List Schedule) (x : Schedule) → slots_of (xs ++ (x ∷ [])) ≡ slots_of xs ++ slot_octets x
unfolding slots_of
slots_one_more [] x = refl
slots_one_more (y ∷ xs) x = ap (λ (os : List ℕ). slot_octets y ++ os) (slots_one_more xs x)
