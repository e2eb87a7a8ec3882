-- Who is joined, and so exactly which calls are refused with 24, 25 and 26, by the calls of a table and their answers alone (02, Six). Assumes nothing.
use Rattle.std.specs.Prelude.{Ok, Err}
use mathlib.Core.Bool.{Bool, true, false, not, ◌&&◌}
use mathlib.Core.List.{List, [], ◌∷◌, map}
use mathlib.Core.Logic.{◌↔◌, ⊎_elim}
use mathlib.Core.Path.{◌≡◌, refl, sym, ap, ap₂, ◌∙◌, subst}
use Prim.Native.Nat.{ℕ, zero, suc, ◌+◌, ◌≤◌}
use native.Mathlib.Omega.{arith}
use borrow.Author.Tests.{not-false, eqb-true, eqb-false, eq-eqb, ne_eqb}
use lib.Dec.{eqb}
use lib.ListN.{replicate}
use Rattle.answer.proofs.Booleans.{clash, either}
use Rattle.answer.proofs.Judged.{passed, kept}
use Rattle.answer.specs.Checks.{Outcome, pick, ◌⇒◌, checked, and_then, answer_of, Answer}
use Rattle.answer.specs.declared.Refusal.{Refusal}
use Rattle.frame.specs.Frames.{Sent}
use Rattle.header.proofs.Addresses.{same_is}
use Rattle.header.specs.Headers.{same, da}
use Rattle.row.specs.Rows.{row_count, free, seated, is_of, is_free, row_ticked}
use Rattle.row.specs.declared.Row.{Row}
use Rattle.station.specs.Asking.{permission_of}
use Rattle.station.specs.Starting.{start_forbids as station_forbids}
use Rattle.station.specs.declared.Station.{Station}
use Rattle.station.specs.declared.asking.Permission.{Permission}
use Rattle.table.proofs.Neighbours.{found_some}
use Rattle.table.proofs.Outcomes.{same_forbids}
use Rattle.table.proofs.StaysApart.{SameSeats, some_same, seats_self, seats_map, seats_on_first}
use Rattle.table.proofs.StaysValid.{hearing_seat, ticked_seat}
use Rattle.table.specs.Tables.{with_rows, some_row, on_first, is_joined, station_of, stepped, newcomer, join_forbids, join_means, leave_means, tick_means, hearing, ask_means}
use Rattle.table.specs.Validity.{ValidTable}
use Rattle.table.specs.declared.Table.{Table}
use Rattle.claims.specs.Joinings.{accepts, comes, goes, joined_after, joined_in, accepted_of, anybody, is_full, join_answer, leave_answer}
use Rattle.claims.specs.Runs.{GoesOn, Ran}
use Rattle.claims.specs.TableRuns.{TableCall, join, leave, tick, take, question, tpc, measurement, TableAnswer, answered, asked, TableMade, started_with, Does, table}
use Rattle.claims.proofs.JoinedRows.{some_found, is_in, not_found, none_left, seats, seats_within, seats_same, one_more, one_less, none_free}
use Rattle.claims.proofs.RunsMeant.{throughout}
use Rattle.claims.proofs.TableMeans.{table_answers, table_after, table_means, TableMeant, through_checks, through_take, does_means, ap_kept, interval_kept, starts_empty}
use Rattle.claims.proofs.TableRows.{joined_apart, left_apart}
use Rattle.claims.proofs.TableStays.{reaches, join_seats}

-- ---- one call

module _ (t : Table) (v : ValidTable t) where
  -- ticks and frames leave everybody where it sits
  ticked_seats : (n : ℕ) → SameSeats t.rows (table_after t (tick n)).rows
  unfolding tick_means
  ticked_seats n = through_checks (λ u. SameSeats t.rows u.rows) t _ (seats_self t.rows) (seats_map (row_ticked n) (ticked_seat n) t.rows) _

  pub heard_seats : (f : List ℕ) → SameSeats t.rows (table_after t (take f)).rows
  heard_seats f = through_take (λ u. SameSeats t.rows u.rows) t f (seats_self t.rows) (λ x. by x x.to_all)
    where
      by : (x : Sent) (b : Bool)
          → SameSeats t.rows (pick b (map (hearing x.kind) t.rows) (on_first (is_of (da f)) (hearing x.kind) t.rows))
      by x true = seats_map (hearing x.kind) (hearing_seat x.kind) t.rows
      by x false = seats_on_first (hearing x.kind) (hearing_seat x.kind) (is_of (da f)) t.rows

  -- who is joined after a call
  module _ (own : List ℕ) where
    after_join : (a : List ℕ) (channel : ℕ) → is_joined (table_after t (join a channel)) own ≡ joined_after own (join a channel) (table_answers t (join a channel)) (is_joined t own)
    after_join a channel = by (join_means t a channel) refl
      where
        by : (o : Outcome Table) → join_means t a channel ≡ o
            → is_joined (stepped t o).table own ≡ joined_after own (join a channel) (answered (stepped t o).answer) (is_joined t own)
        by (Err r) e = refl
        by (Ok next) e =
            ⊎_elim
            (λ (y : same a own ≡ true).
            ap (λ (b : List ℕ). is_joined next b) (sym (same_is a own y))
            ∙ found_some (is_of a) next.rows (newcomer t a channel)
            (ap (λ (o : Outcome Table). station_of (stepped t o).table a) (sym e) ∙ join_seats t a channel (ap (λ (o : Outcome Table). (stepped t o).answer) e))
            ∙ ap (λ (b : Bool). pick b true (is_joined t own)) (sym y))
            (λ (n : same a own ≡ false).
            some_found (is_of own) next.rows
            ∙ ap is_in (ap (λ (o : Outcome Table). station_of (stepped t o).table own) (sym e) ∙ joined_apart t v own a channel n)
            ∙ sym (some_found (is_of own) t.rows) ∙ ap (λ (b : Bool). pick b true (is_joined t own)) (sym n))
            (either (same a own))

    leaver : (a : List ℕ) (next : Table) → leave_means t a ≡ Ok next → (is_joined t a ≡ true) × (with_rows t (on_first (is_of a) (λ w. free) t.rows) ≡ next)
    unfolding leave_means
    leaver a next e = let w = passed _ _ _ e in (not-false (is_joined t a) w.0, kept _ w.1)

    after_leave : (a : List ℕ) → is_joined (table_after t (leave a)) own ≡ joined_after own (leave a) (table_answers t (leave a)) (is_joined t own)
    after_leave a = by (leave_means t a) refl
      where
        by : (o : Outcome Table) → leave_means t a ≡ o
            → is_joined (stepped t o).table own ≡ joined_after own (leave a) (answered (stepped t o).answer) (is_joined t own)
        by (Err r) e = refl
        by (Ok next) e =
            ⊎_elim
            (λ (y : same a own ≡ true).
            ap₂ (λ (u : Table) (b : List ℕ). is_joined u b) (sym (leaver a next e).1) (sym (same_is a own y)) ∙ none_left a t.rows v.apart
            ∙ ap (λ (b : Bool). pick b false (is_joined t own)) (sym y))
            (λ (n : same a own ≡ false).
            some_found (is_of own) next.rows
            ∙ ap is_in (ap (λ (o : Outcome Table). station_of (stepped t o).table own) (sym e) ∙ left_apart t v own a n)
            ∙ sym (some_found (is_of own) t.rows) ∙ ap (λ (b : Bool). pick b false (is_joined t own)) (sym n))
            (either (same a own))

    -- of a call that nobody joins or leaves by
    nobody : (r : TableAnswer) (before : Bool) → before ≡ pick (accepts r && false) true (pick (accepts r && false) false before)
    nobody r before = by (accepts r)
      where
        by : (b : Bool) → before ≡ pick (b && false) true (pick (b && false) false before)
        by true = refl
        by false = refl

    joined_after_lem : (c : TableCall) → is_joined (table_after t c) own ≡ joined_after own c (table_answers t c) (is_joined t own)
    joined_after_lem (join a channel) = after_join a channel
    joined_after_lem (leave a) = after_leave a
    joined_after_lem (tick n) = some_same own t.rows (table_after t (tick n)).rows (ticked_seats n) ∙ nobody (table_answers t (tick n)) (is_joined t own)
    joined_after_lem (take f) = some_same own t.rows (table_after t (take f)).rows (heard_seats f) ∙ nobody (table_answers t (take f)) (is_joined t own)
    joined_after_lem (question a n) = refl
    joined_after_lem (tpc f report buffer) = refl
    joined_after_lem (measurement f index readings buffer) = refl

  -- how many are joined after a call: each accepted joining is one more, and each accepted leaving one less
  abbrev Counted : TableCall → Type 0
  Counted c =
      (joins leaves : ℕ) → seats t.rows + leaves ≡ joins
      → seats (table_after t c).rows + pick (accepts (table_answers t c) && goes anybody c) (suc leaves) leaves
      ≡ pick (accepts (table_answers t c) && comes anybody c) (suc joins) joins

  counted_same : (vs : List Row) → SameSeats t.rows vs → (r : TableAnswer) (joins leaves : ℕ) → seats t.rows + leaves ≡ joins
      → seats vs + pick (accepts r && false) (suc leaves) leaves ≡ pick (accepts r && false) (suc joins) joins
  counted_same vs s r joins leaves e = by (accepts r)
    where
      by : (b : Bool) → seats vs + pick (b && false) (suc leaves) leaves ≡ pick (b && false) (suc joins) joins
      by true = ap (λ (n : ℕ). n + leaves) (seats_same t.rows vs s) ∙ e
      by false = ap (λ (n : ℕ). n + leaves) (seats_same t.rows vs s) ∙ e

  joiner : (a : List ℕ) (channel : ℕ) (next : Table) → join_means t a channel ≡ Ok next
      → (some_row is_free t.rows ≡ true) × (with_rows t (on_first is_free (λ w. seated (newcomer t a channel)) t.rows) ≡ next)
  unfolding join_means
  joiner a channel next e =
      let third = passed _ _ _ (passed _ _ _ (passed _ _ _ e).1).1 in (not-false (some_row is_free t.rows) third.0, kept _ third.1)

  counted_join : (a : List ℕ) (channel : ℕ) → Counted (join a channel)
  counted_join a channel joins leaves e = by (join_means t a channel) refl
    where
      by : (o : Outcome Table) → join_means t a channel ≡ o
          → seats (stepped t o).table.rows + pick (accepts (answered (stepped t o).answer) && false) (suc leaves) leaves
          ≡ pick (accepts (answered (stepped t o).answer) && true) (suc joins) joins
      by (Err r) g = e
      by (Ok next) g =
          let w = joiner a channel next g in
          let more = one_more (newcomer t a channel) t.rows w.0 in
          ap (λ (u : Table). seats u.rows + leaves) (sym w.1) ∙ (let sum : seats (on_first is_free (λ w. seated (newcomer t a channel)) t.rows) + leaves ≡ suc joins = omega (arith, more, e) in sum)

  counted_leave : (a : List ℕ) → Counted (leave a)
  counted_leave a joins leaves e = by (leave_means t a) refl
    where
      by : (o : Outcome Table) → leave_means t a ≡ o
          → seats (stepped t o).table.rows + pick (accepts (answered (stepped t o).answer) && true) (suc leaves) leaves
          ≡ pick (accepts (answered (stepped t o).answer) && false) (suc joins) joins
      by (Err r) g = e
      by (Ok next) g =
          let w = leaver a a next g in
          let less = one_less a t.rows w.0 in
          ap (λ (u : Table). seats u.rows + suc leaves) (sym w.1) ∙ (let sum : seats (on_first (is_of a) (λ w. free) t.rows) + suc leaves ≡ joins = omega (arith, less, e) in sum)

  counted_after : (c : TableCall) → Counted c
  counted_after (join a channel) = counted_join a channel
  counted_after (leave a) = counted_leave a
  counted_after (tick n) = counted_same (table_after t (tick n)).rows (ticked_seats n) (table_answers t (tick n))
  counted_after (take f) = counted_same (table_after t (take f)).rows (heard_seats f) (table_answers t (take f))
  counted_after (question a n) = λ joins leaves e. e
  counted_after (tpc f report buffer) = λ joins leaves e. e
  counted_after (measurement f index readings buffer) = λ joins leaves e. e

-- ---- a run

nobody_joined : (own : List ℕ) (n : ℕ) → some_row (is_of own) (replicate n free) ≡ false
unfolding some_row
nobody_joined own n = by n
  where
    by : (n : ℕ) → some_row (is_of own) (replicate n free) ≡ false
    by zero = refl
    by (suc n) = by n

module _ (first : Table) (v : ValidTable first) where
  joined_on : (own : List ℕ) → is_joined first own ≡ false → {ms : List TableMade} {t : Table} → GoesOn table first ms t → is_joined t own ≡ joined_in own ms
  unfolding joined_in
  joined_on own none rest =
      (throughout table table_means ValidTable does_means (λ ms u. is_joined u own ≡ joined_in own ms)
      (λ ms u c w next k. joined_after_lem u w own c ∙ ap (joined_after own c (table_answers u c)) k) v none rest).1

  counted_on : seats first.rows ≡ 0 → {ms : List TableMade} {t : Table} → GoesOn table first ms t
      → seats t.rows + accepted_of (goes anybody) ms ≡ accepted_of (comes anybody) ms
  unfolding accepted_of
  counted_on none rest =
      (throughout table table_means ValidTable does_means (λ ms u. seats u.rows + accepted_of (goes anybody) ms ≡ accepted_of (comes anybody) ms)
      (λ ms u c w next k. counted_after u w c _ _ k) v (let sum : seats first.rows + 0 ≡ 0 = omega (arith, none) in sum) rest).1

module _ (ap' : List ℕ) (b : ℕ) (ms : List TableMade) (t : Table) (ran : Ran table (started_with ap' b) ms t) where
  valid : ValidTable t
  valid = (reaches ap' b ms t ran).valid

  -- a row is of an address exactly if that has joined and has not left since
  pub joined_exactly : (own : List ℕ) → is_joined t own ≡ joined_in own ms
  joined_exactly own =
      let s = starts_empty ap' b ran.0 ran.1 in
      joined_on ran.0 s.1 own (ap (λ (u : Table). is_joined u own) s.0 ∙ nobody_joined own row_count) ran.2

  -- no row is free exactly if sixteen more have joined than have left
  pub full_exactly : not (some_row is_free t.rows) ≡ is_full ms
  unfolding seats
  full_exactly =
      let s = starts_empty ap' b ran.0 ran.1 in
      let sum = counted_on ran.0 s.1 (ap (λ (u : Table). seats u.rows) s.0) ran.2 in
      none_free t.rows ∙ ap (eqb (seats t.rows)) valid.sixteen ∙ shifted (seats t.rows) (accepted_of (goes anybody) ms) (accepted_of (comes anybody) ms) sum
    where
      shifted : (n leaves joins : ℕ) → n + leaves ≡ joins → eqb n 16 ≡ eqb joins (leaves + 16)
      shifted n leaves joins e =
          ⊎_elim
          (λ (y : eqb n 16 ≡ true). y ∙ sym (eq-eqb joins (leaves + 16) (let m = eqb-true n 16 y in omega (arith, m, e))))
          (λ (k : eqb n 16 ≡ false). k ∙ sym (ne_eqb joins (leaves + 16) (λ z. eqb-false n 16 k (omega (arith, z, e)))))
          (either (eqb n 16))

  -- ---- 24, 25 and 26

  pub join_exactly : (own : List ℕ) (channel : ℕ) (r : TableAnswer) (next : Table) → Does t (join own channel) r next → r ≡ answered (join_answer ap' b ms own channel)
  unfolding join_means checked
  join_exactly own channel r next does =
      (does_means t (join own channel) r next valid does).answers ∙ ap answered (by_rows ∙ ap₂ (by_all (join_forbids own channel)) (joined_exactly own) full_exactly ∙ ap (λ (bad : Bool). by_all bad (joined_in own ms) (is_full ms)) forbids)
    where
      by_all : Bool → Bool → Bool → Answer
      by_all bad again full = answer_of {A = Unit {0}} (checked (bad ⇒ Refusal.BadStart ∷ again ⇒ Refusal.AlreadyJoined ∷ full ⇒ Refusal.NoFreeRow ∷ []) (Ok tt))

      forbids : join_forbids own channel ≡ station_forbids own ap' b channel
      forbids =
          let k = reaches ap' b ms t ran in
          sym (same_forbids t valid own channel) ∙ ap₂ (λ (p : List ℕ) (i : ℕ). station_forbids own p i channel) k.its_ap k.its_interval

      by_rows : (stepped t (join_means t own channel)).answer ≡ by_all (join_forbids own channel) (is_joined t own) (not (some_row is_free t.rows))
      by_rows = each (join_forbids own channel) (is_joined t own) (not (some_row is_free t.rows))
        where
          each : (x y z : Bool) → (stepped t (pick x (Err Refusal.BadStart) (pick y (Err Refusal.AlreadyJoined) (pick z (Err Refusal.NoFreeRow)
              (Ok (with_rows t (on_first is_free (λ w. seated (newcomer t own channel)) t.rows))))))).answer
              ≡ answer_of {A = Unit {0}} (pick x (Err Refusal.BadStart) (pick y (Err Refusal.AlreadyJoined) (pick z (Err Refusal.NoFreeRow) (Ok tt))))
          each true y z = refl
          each false true z = refl
          each false false true = refl
          each false false false = refl

  pub leave_exactly : (own : List ℕ) (r : TableAnswer) (next : Table) → Does t (leave own) r next → r ≡ answered (leave_answer ms own)
  unfolding leave_means checked
  leave_exactly own r next does = (does_means t (leave own) r next valid does).answers ∙ ap answered (by_rows ∙ ap by_test_lem (joined_exactly own))
    where
      by_test_lem : Bool → Answer
      by_test_lem joined = answer_of {A = Unit {0}} (checked (not joined ⇒ Refusal.NotJoined ∷ []) (Ok tt))

      by_rows : (stepped t (leave_means t own)).answer ≡ by_test_lem (is_joined t own)
      by_rows = each (not (is_joined t own))
        where
          each : (x : Bool) → (stepped t (pick x (Err Refusal.NotJoined) (Ok (with_rows t (on_first (is_of own) (λ w. free) t.rows))))).answer
              ≡ answer_of {A = Unit {0}} (pick x (Err Refusal.NotJoined) (Ok tt))
          each true = refl
          each false = refl

  -- of a station that is joined TableDemand3 says what else is answered
  pub question_exactly : (own : List ℕ) (n : ℕ) (r : TableAnswer) (next : Table) → Does t (question own n) r next → (r ≡ asked (Err Refusal.NotJoined)) ↔ (joined_in own ms ≡ false)
  unfolding ask_means
  question_exactly own n r next does = (λ e. by (station_of t own) refl e, λ none. is ∙ ap answer_by (not_found (is_of own) t.rows (joined_exactly own ∙ none)))
    where
      answer_by : Outcome Station → TableAnswer
      answer_by o = asked (and_then o (λ s. Ok (permission_of s n)))

      is : r ≡ answer_by (station_of t own)
      is = (does_means t (question own n) r next valid does).answers

      told_never : {A : Type 0} {p : Permission} {x : Refusal} → asked (Ok p) ≡ asked (Err x) → A
      told_never {A} {p} {x} z = absurd (let f : ◌≡◌ {A = ℕ} 0 1 = cc in omega arith)

      by : (o : Outcome Station) → station_of t own ≡ o → r ≡ asked (Err Refusal.NotJoined) → joined_in own ms ≡ false
      by (Err x) g e = sym (joined_exactly own) ∙ some_found (is_of own) t.rows ∙ ap is_in g
      by (Ok s) g e = told_never (sym (ap answer_by g) ∙ sym is ∙ e)

  -- "A row that was left is used again": right after a leaving there is room
  pub used_again : (a : List ℕ) (left : Table) → Does t (leave a) (answered (Ok tt)) left
      → (own : List ℕ) (channel : ℕ) (r : TableAnswer) (next : Table) → Does left (join own channel) r next
      → station_forbids own ap' b channel ≡ false → is_joined left own ≡ false → r ≡ answered (Ok tt)
  unfolding join_means checked
  used_again a left leaves own channel r next does may none =
      let m = does_means t (leave a) (answered (Ok tt)) left valid leaves in
      (does_means left (join own channel) r next m.valid does).answers
      ∙ ap answered (by (join_forbids own channel) (is_joined left own) (not (some_row is_free left.rows)) (sym (same_forbids left m.valid own channel) ∙ ap₂ (λ (p : List ℕ) (i : ℕ). station_forbids own p i channel) (its_ap m) (its_interval m) ∙ may) none (room m))
    where
      by : (x y z : Bool) → x ≡ false → y ≡ false → z ≡ false
          → (stepped left (pick x (Err Refusal.BadStart) (pick y (Err Refusal.AlreadyJoined) (pick z (Err Refusal.NoFreeRow)
          (Ok (with_rows left (on_first is_free (λ w. seated (newcomer left own channel)) left.rows))))))).answer ≡ Ok tt
      by true y z e f g = clash e
      by false true z e f g = clash f
      by false false true e f g = clash g
      by false false false e f g = refl

      its_ap : TableMeant t (leave a) (answered (Ok tt)) left → left.ap ≡ ap'
      its_ap m = ap (λ (u : Table). u.ap) m.leaves ∙ ap_kept t (leave a) ∙ (reaches ap' b ms t ran).its_ap

      its_interval : TableMeant t (leave a) (answered (Ok tt)) left → left.interval ≡ b
      its_interval m = ap (λ (u : Table). u.interval) m.leaves ∙ interval_kept t (leave a) ∙ (reaches ap' b ms t ran).its_interval

      room : TableMeant t (leave a) (answered (Ok tt)) left → not (some_row is_free left.rows) ≡ false
      room m =
          let w = leaver t valid a a left (left_accepted m) in
          let less = one_less a t.rows w.0 in
          let few : seats t.rows ≤ 16 = subst (λ (n : ℕ). seats t.rows ≤ n) valid.sixteen (seats_within t.rows) in
          none_free left.rows ∙ ap (eqb (seats left.rows)) m.valid.sixteen
          ∙ ne_eqb (seats left.rows) 16 (λ e. let same = ap (λ (u : Table). seats u.rows) w.1 in omega (arith, e, same, less, few))
        where
          left_accepted : TableMeant t (leave a) (answered (Ok tt)) left → leave_means t a ≡ Ok left
          left_accepted m = of_outcome (leave_means t a) (sym m.answers) m.leaves
            where
              refused_never : {A : Type 0} {x : Refusal} → answered (Err x) ≡ answered (Ok tt) → A
              refused_never {A} {x} z = absurd (let f : ◌≡◌ {A = ℕ} 0 1 = cc in omega arith)

              of_outcome : (o : Outcome Table) → answered (stepped t o).answer ≡ answered (Ok tt) → left ≡ (stepped t o).table → o ≡ Ok left
              of_outcome (Err x) e f = refused_never e
              of_outcome (Ok u) e f = ap Ok (sym f)
