-- The rows of columns: how many there are, and what a schedule that is put into its row leaves. Assumes nothing.
use mathlib.Core.List.{List, [], ◌∷◌, ◌++◌, map, map-append}
use mathlib.Core.Bool.{true, false}
use mathlib.Core.Logic.{⊎_elim}
use mathlib.Core.Path.{◌≡◌, refl, sym, ap, ap₂, ◌∙◌}
use Prim.Native.Nat.{ℕ, zero, suc, ◌+◌, ◌-◌, ◌<◌, ◌≤◌}
use native.Mathlib.Numerals.{add-one}
use native.Mathlib.Omega.{arith}
use borrow.Author.Tests.{ltb-true, ltb-false}
use lib.Dec.{ltb}
use lib.ListN.{length, take, drop, get_or, set, replicate, length-append, length-set, length-map, get_or-map}
use lib.Seq.{take-suc, drop-cons, length-take-le, get_or-set_same, get_or-set_other, set_at, append_snoc}
use Rattle.answer.proofs.Booleans.{either}
use Rattle.beacon.specs.Beacons.{quiet_limit}
use Rattle.element.specs.declared.quiet.Quiet.{Quiet}
use Rattle.schedule.specs.Schedules.{set_by, end_begun}
use Rattle.schedule.specs.declared.Schedule.{Schedule}
use Rattle.station.proofs.OneWay.{latest_append}
use Rattle.station.specs.Stations.{no_schedule}
use Rattle.station.specs.Taking.{schedules_of, later, latest_end}
use Rattle.apart.specs.Columns.{schedule_at, schedules_in, with_row, rows_over}
use Rattle.apart.specs.declared.columns.Columns.{Columns}

-- every slot of a station has its row
pub record Roomy (c : Columns) : Type 0 where
  pub starts : length c.starts ≡ quiet_limit
  pub periods : length c.periods ≡ quiet_limit
  pub durations : length c.durations ≡ quiet_limit

pub rows_many : (n : ℕ) (c : Columns) → length (schedules_in n c) ≡ n
unfolding schedules_in
rows_many zero c = refl
rows_many (suc n) c = length-append (schedules_in n c) (schedule_at c n ∷ []) ∙ ap (λ (k : ℕ). k + 1) (rows_many n c) ∙ add-one n

-- one row more
pub row_more : (n : ℕ) (c : Columns) → schedules_in (n + 1) c ≡ schedules_in n c ++ (schedule_at c n ∷ [])
unfolding schedules_in
row_more n c = ap (λ (k : ℕ). schedules_in k c) (add-one n)

-- ---- a schedule in its row

module _ (c : Columns) (row : ℕ) (x : Schedule) where
  pub still_roomy : Roomy c → Roomy (with_row c row x)
  still_roomy r =
      record {
        starts = length-set c.starts row x.start ∙ r.starts;
        periods = length-set c.periods row x.period ∙ r.periods;
        durations = length-set c.durations row x.duration ∙ r.durations;
      }

  row_here : Roomy c → row < quiet_limit → schedule_at (with_row c row x) row ≡ x
  row_here r h =
      rw (
        get_or-set_same c.starts row x.start 0 (omega (arith, r.starts)),
        get_or-set_same c.periods row x.period 0 (omega (arith, r.periods)),
        get_or-set_same c.durations row x.duration 0 (omega (arith, r.durations)),
      )
      refl

  row_kept : (n : ℕ) → n < row → schedule_at (with_row c row x) n ≡ schedule_at c n
  row_kept n h =
      rw (
        get_or-set_other c.starts row n x.start 0 (λ e. absurd (omega (arith, e))),
        get_or-set_other c.periods row n x.period 0 (λ e. absurd (omega (arith, e))),
        get_or-set_other c.durations row n x.duration 0 (λ e. absurd (omega (arith, e))),
      )
      refl

  rows_kept : (n : ℕ) → n ≤ row → schedules_in n (with_row c row x) ≡ schedules_in n c
  unfolding schedules_in
  rows_kept zero h = refl
  rows_kept (suc n) h = ap₂ (λ (xs : List Schedule) (y : Schedule). xs ++ (y ∷ [])) (rows_kept n (omega arith)) (row_kept n h)

-- ---- rows that are filled one after the other

-- one number more in a column
number_more : (f : Schedule → ℕ) (xs : List Schedule) (x : Schedule) (ns : List ℕ) → length xs < length ns
    → set (map f xs ++ drop (length xs) ns) (length xs) (f x) ≡ map f (xs ++ (x ∷ [])) ++ drop (length (xs ++ (x ∷ []))) ns
number_more f xs x ns h =
    ap (λ (rest : List ℕ). set (map f xs ++ rest) (length xs) (f x)) (drop-cons ns (length xs) 0 h)
    ∙ set_at (map f xs) (get_or ns (length xs) 0) (drop (suc (length xs)) ns) (f x) (length xs) (length-map xs f)
    ∙ sym (append_snoc (map f xs) (f x) (drop (suc (length xs)) ns))
    ∙ ap₂ (λ (front : List ℕ) (k : ℕ). front ++ drop k ns) (sym (map-append f xs (x ∷ []))) (sym (length-append xs (x ∷ []) ∙ add-one (length xs)))

-- and in each of them
over_more : (xs : List Schedule) (x : Schedule) (c : Columns) (row : ℕ) → Roomy c → length xs ≡ row → row < quiet_limit → with_row (rows_over xs c) row x ≡ rows_over (xs ++ (x ∷ [])) c
unfolding rows_over
over_more xs x c row r e h =
    ap (λ (n : ℕ). with_row (rows_over xs c) n x) (sym e)
    ∙ rw (
      number_more (λ y. y.start) xs x c.starts (omega (arith, e, r.starts)),
      number_more (λ y. y.period) xs x c.periods (omega (arith, e, r.periods)),
      number_more (λ y. y.duration) xs x c.durations (omega (arith, e, r.durations)),
    )
    refl

over_none : (c : Columns) → rows_over [] c ≡ c
unfolding rows_over
over_none c = refl

-- the first rows, so many, hold the first of the schedules, and the others are as they were
pub record Filled (first : Columns) (xs : List Schedule) (row : ℕ) (c : Columns) : Type 0 where
  pub roomy : Roomy c
  pub same : (n : ℕ) → n ≤ row → schedules_in n c ≡ take n xs
  pub over : c ≡ rows_over (take row xs) first

pub none_filled : (xs : List Schedule) (c : Columns) → Roomy c → Filled c xs 0 c
unfolding schedules_in
none_filled xs c r =
    record { roomy = r; same = λ n h. ap (λ (k : ℕ). schedules_in k c) (none n h) ∙ ap (λ (k : ℕ). take k xs) (sym (none n h)); over = sym (over_none c) }
  where
    none : (n : ℕ) → n ≤ 0 → n ≡ 0
    none n h = omega arith

module _ (first : Columns) (room : Roomy first) (xs : List Schedule) (row : ℕ) (c : Columns) (x : Schedule) (f : Filled first xs row c) (h : row < quiet_limit) (eight : length xs ≡ quiet_limit) (d : Schedule) (e : get_or xs row d ≡ x) where
  one_taken : take row xs ++ (x ∷ []) ≡ take (row + 1) xs
  one_taken =
      ap (λ (y : Schedule). take row xs ++ (y ∷ [])) (sym e) ∙ sym (take-suc xs row d (omega (arith, eight))) ∙ ap (λ (k : ℕ). take k xs) (sym (add-one row))

  all_so_far : schedules_in (row + 1) (with_row c row x) ≡ take (row + 1) xs
  all_so_far =
      row_more row (with_row c row x)
      ∙ ap₂ (λ (ys : List Schedule) (y : Schedule). ys ++ (y ∷ [])) (rows_kept c row x row (omega arith) ∙ f.same row (omega arith)) (row_here c row x f.roomy h)
      ∙ one_taken

  same_so_far : (n : ℕ) → n ≤ row + 1 → schedules_in n (with_row c row x) ≡ take n xs
  same_so_far n l =
      ⊎_elim
      (λ (y : ltb row n ≡ true). let last : n ≡ row + 1 = omega (arith, ltb-true row n y) in
      ap (λ (k : ℕ). schedules_in k (with_row c row x)) last ∙ all_so_far ∙ ap (λ (k : ℕ). take k xs) (sym last))
      (λ (y : ltb row n ≡ false). rows_kept c row x n (ltb-false row n y) ∙ f.same n (ltb-false row n y))
      (either (ltb row n))

  pub fills : Filled first xs (row + 1) (with_row c row x)
  fills =
      record {
        roomy = still_roomy c row x f.roomy;
        same = same_so_far;
        over =
            ap (λ (y : Columns). with_row y row x) f.over
            ∙ over_more (take row xs) x first row room (length-take-le row xs (omega (arith, eight))) h
            ∙ ap (λ (ys : List Schedule). rows_over ys first) one_taken;
      }

-- ---- slots that are filled one after the other, of which the rest are blank

pub one_slot_more : (c : Columns) (row : ℕ) → row < quiet_limit
    → set (schedules_in row c ++ replicate (quiet_limit - row) no_schedule) row (schedule_at c row) ≡ schedules_in (row + 1) c ++ replicate (quiet_limit - (row + 1)) no_schedule
one_slot_more c row h =
    ap (λ (n : ℕ). set (schedules_in row c ++ replicate n no_schedule) row (schedule_at c row)) (let e : quiet_limit - row ≡ suc (quiet_limit - (row + 1)) = omega arith in e)
    ∙ set_at (schedules_in row c) no_schedule (replicate (quiet_limit - (row + 1)) no_schedule) (schedule_at c row) row (rows_many row c)
    ∙ sym (append_snoc (schedules_in row c) (schedule_at c row) (replicate (quiet_limit - (row + 1)) no_schedule))
    ∙ ap (λ (xs : List Schedule). xs ++ replicate (quiet_limit - (row + 1)) no_schedule) (sym (row_more row c))

-- ---- the latest end of what the rows have begun

pub no_end : (t e : ℕ) (c : Columns) → e ≡ latest_end t e (schedules_in 0 c)
unfolding schedules_in latest_end
no_end t e c = refl

pub end_more : (t e : ℕ) (c : Columns) (row : ℕ)
    → later (latest_end t e (schedules_in row c)) (end_begun (schedule_at c row) t) ≡ latest_end t e (schedules_in (row + 1) c)
unfolding latest_end
end_more t e c row = sym (ap (latest_end t e) (row_more row c) ∙ latest_append t e (schedules_in row c) (schedule_at c row ∷ []))

-- ---- the schedules that Quiet elements set

module _ (k b : ℕ) (quiets : List Quiet) where
  pub eight_set : length quiets ≡ quiet_limit → length (schedules_of k b quiets) ≡ quiet_limit
  eight_set e = length-map quiets (λ q. set_by q k b) ∙ e

  pub set_here : (row : ℕ) (z : Quiet) → get_or (schedules_of k b quiets) row (set_by z k b) ≡ set_by (get_or quiets row z) k b
  set_here row z = get_or-map (λ q. set_by q k b) quiets row z

pub first_set : (k b : ℕ) (quiets : List Quiet) (n : ℕ) → take n (schedules_of k b quiets) ≡ schedules_of k b (take n quiets)
first_set k b [] zero = refl
first_set k b [] (suc n) = refl
first_set k b (q ∷ qs) zero = refl
first_set k b (q ∷ qs) (suc n) = ap (λ (xs : List Schedule). set_by q k b ∷ xs) (first_set k b qs n)
