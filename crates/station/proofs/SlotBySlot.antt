-- Schedules that take the place of others slot by slot: what a slot holds then, and the latest end of what the others began. Assumes nothing.
use mathlib.Core.List.{List, ◌++◌}
use mathlib.Core.Logic.{⊎_elim}
use mathlib.Core.Path.{◌≡◌, sym, ap, ◌∙◌}
use mathlib.Core.Bool.{true, false}
use Prim.Native.Nat.{ℕ, suc, ◌+◌, ◌-◌, ◌<◌, ◌≤◌}
use native.Mathlib.Numerals.{add-one}
use native.Mathlib.Omega.{arith}
use borrow.Author.Tests.{ltb-true, ltb-false}
use lib.Dec.{ltb}
use lib.ListN.{length, take, drop, get_or, set, replicate, length-append, length-replicate, length-map, get_or-replicate, get_or-append, get_or-map}
use lib.Seq.{take-suc, drop-cons, append_snoc, set_at, get_or_at, get_or-take, get_or-append-add, length-take-le, slice_empty}
use Rattle.answer.proofs.Booleans.{either}
use Rattle.answer.specs.Checks.{pick}
use Rattle.beacon.specs.Beacons.{quiet_limit}
use Rattle.element.specs.declared.quiet.Quiet.{Quiet}
use Rattle.schedule.specs.Schedules.{set_by, end_begun}
use Rattle.schedule.specs.declared.Schedule.{Schedule}
use Rattle.station.specs.CodeTerms.Changing.{overlaid}
use Rattle.station.specs.Stations.{no_schedule, slotted}
use Rattle.station.specs.Taking.{schedules_of, later, latest_end}
use Rattle.station.proofs.InUse.{here}

-- ---- schedules laid over others of the same number, up to slot i

module _ (xs ds : List Schedule) (i : ℕ) (d : Schedule) (h : i < length ds) (same : length xs ≡ length ds) where
  so_many : length (take i xs) ≡ i
  so_many = length-take-le i xs (omega arith)

  -- a slot that was not come to holds what it held
  pub not_yet : get_or (overlaid i xs ds) i d ≡ get_or ds i d
  not_yet =
      ap (λ (rest : List Schedule). get_or (take i xs ++ rest) i d) (drop-cons ds i d h)
      ∙ get_or_at (take i xs) (get_or ds i d) (drop (suc i) ds) d i so_many

  one_more : set (overlaid i xs ds) i (get_or xs i d) ≡ overlaid (i + 1) xs ds
  one_more =
      ap (λ (rest : List Schedule). set (take i xs ++ rest) i (get_or xs i d)) (drop-cons ds i d h)
      ∙ set_at (take i xs) (get_or ds i d) (drop (suc i) ds) (get_or xs i d) i so_many
      ∙ sym (append_snoc (take i xs) (get_or xs i d) (drop (suc i) ds))
      ∙ ap (λ (front : List Schedule). front ++ drop (suc i) ds) (sym (take-suc xs i d (omega arith)))
      ∙ ap (λ (n : ℕ). overlaid n xs ds) (sym (add-one i))

-- ---- what the slots hold of which `used` are in use

module _ (k b : ℕ) (quiets : List Quiet) (used : ℕ) (few : used ≤ quiet_limit) (eight : length quiets ≡ quiet_limit) where
  in_use_lem : List Schedule
  in_use_lem = schedules_of k b (take used quiets)

  pub as_many : length (schedules_of k b (take used quiets)) ≡ used
  as_many = length-map (take used quiets) (λ q. set_by q k b) ∙ length-take-le used quiets (omega arith)

  blanks : List Schedule
  blanks = replicate (quiet_limit - length (schedules_of k b (take used quiets))) no_schedule

  pub all_slots : length (slotted (schedules_of k b (take used quiets))) ≡ quiet_limit
  all_slots =
      length-append (schedules_of k b (take used quiets)) (replicate (quiet_limit - length (schedules_of k b (take used quiets))) no_schedule)
      ∙ omega (arith, as_many, length-replicate (quiet_limit - length (schedules_of k b (take used quiets))) no_schedule)

  module _ (i : ℕ) (z : Quiet) (room : i < quiet_limit) where
    held : get_or (slotted (schedules_of k b (take used quiets))) i (set_by z k b) ≡ pick (ltb i used) (set_by (get_or quiets i z) k b) no_schedule
    unfolding in_use_lem blanks
    held =
        ⊎_elim
        (λ (y : ltb i used ≡ true). simp y
        (get_or-append in_use_lem blanks (set_by z k b) i (omega (arith, as_many, ltb-true i used y))
        ∙ get_or-map (λ q. set_by q k b) (take used quiets) i z
        ∙ ap (λ (q : Quiet). set_by q k b) (get_or-take used quiets i z (ltb-true i used y))))
        (λ (n : ltb i used ≡ false). simp n
        (ap (λ (j : ℕ). get_or (in_use_lem ++ blanks) j (set_by z k b)) (let e : i ≡ length in_use_lem + (i - used) = omega (arith, as_many, ltb-false i used n) in e)
        ∙ get_or-append-add in_use_lem blanks (i - used) (set_by z k b)
        ∙ get_or-replicate (quiet_limit - length in_use_lem) (i - used) no_schedule (set_by z k b) (omega (arith, as_many, ltb-false i used n))))
        (either (ltb i used))

    -- one slot more
    pub slot_replaced : (ds : List Schedule) → length ds ≡ quiet_limit
        → set (overlaid i (slotted (schedules_of k b (take used quiets))) ds) i (pick (ltb i used) (set_by (get_or quiets i z) k b) no_schedule)
        ≡ overlaid (i + 1) (slotted (schedules_of k b (take used quiets))) ds
    slot_replaced ds e =
        ap (set (overlaid i (slotted (schedules_of k b (take used quiets))) ds) i) (sym held)
        ∙ one_more (slotted (schedules_of k b (take used quiets))) ds i (set_by z k b) (omega arith) (all_slots ∙ sym e)

-- ---- the latest end at t of what the schedules began from slot i on and before slot n

module _ (ds : List Schedule) (n i t e : ℕ) where
  pub counted_here : n ≤ length ds → i < n
      → latest_end t (later e (end_begun (get_or ds i no_schedule) t)) (drop (i + 1) (take n ds)) ≡ latest_end t e (drop i (take n ds))
  unfolding latest_end
  counted_here f h = sym (ap (latest_end t e) (here ds n i f h))

  pub all_counted : i ≡ n → latest_end t e (drop i (take n ds)) ≡ e
  unfolding latest_end
  all_counted h = ap (λ (j : ℕ). latest_end t e (drop j (take n ds))) h ∙ ap (latest_end t e) (slice_empty n ds)
