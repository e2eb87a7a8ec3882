-- What a call of a table answers and leaves, by its meaning. Assumes nothing.
use Rattle.std.specs.Prelude.{Ok, Err, IfOk}
use mathlib.Core.Bool.{Bool, true, false, ◌||◌}
use mathlib.Core.List.{List, [], ◌∷◌}
use mathlib.Core.Path.{◌≡◌, refl, sym, ap, ap₂, ◌∙◌, subst}
use Prim.Native.Nat.{ℕ, ◌+◌}
use lib.Dec.{ltb}
use Rattle.answer.proofs.Judged.{passed, kept}
use Rattle.answer.specs.Checks.{Outcome, pick, Check, checked, and_then, Answer}
use Rattle.answer.specs.Faults.{Placed}
use Rattle.answer.specs.declared.Refusal.{Refusal}
use Rattle.frame.specs.Frames.{Sent, frame_means}
use Rattle.octets.specs.Writing.{wrote}
use Rattle.reply.specs.Replies.{left_by, Replied}
use Rattle.station.specs.Stations.{unit_limit, clock_limit}
use Rattle.row.specs.Rows.{is_of}
use Rattle.table.proofs.Outcomes.{join_forbidden, join_seats, join_valid, tick_refused, tick_accepted, take_valid}
use Rattle.table.proofs.StaysValid.{valid_left}
use Rattle.table.specs.Replies.{tpc_reply_of, measurement_reply_of}
use Rattle.table.specs.Tables.{with_rows, heard_rows, stepped, empty, start_means, join_forbids, join_means, join_of, leave_means, leave_of, ticked_table, tick_means, tick_of, reader_of, take_means, taken, take_of, ask_means}
use Rattle.table.specs.Validity.{ValidTable}
use Rattle.table.specs.declared.Stepped.{Stepped}
use Rattle.table.specs.declared.Table.{Table}
use Rattle.table.specs.declared.taking.Taken.{Taken}
use Rattle.claims.specs.Histories.{History, too_far, clock_from}
use Rattle.claims.specs.TableHistories.{advance_in}
use Rattle.claims.specs.TableRuns.{TableCall, join, leave, tick, take, question, tpc, measurement, TableAnswer, answered, judged, asked, replied, started_with, TableStarts, Does, table}
use Rattle.claims.proofs.RunsMeant.{Meaning, Meant, Exactly, Meets, meets_exactly}

pub answered_once : {x y : Answer} → answered x ≡ answered y → x ≡ y
answered_once {x} {y} e = cc

-- a reply, and the buffer after it
abbrev pub replied_with : Outcome (List ℕ) → List ℕ → TableAnswer
replied_with o buffer = replied (and_then o (λ os. wrote true os 0 buffer)) (left_by o buffer)

abbrev pub table_answers : Table → TableCall → TableAnswer
table_answers t (join own channel) = answered (join_of t own channel).answer
table_answers t (leave own) = answered (leave_of t own).answer
table_answers t (tick n) = answered (tick_of t n).answer
table_answers t (take f) = judged (take_of t f).verdict
table_answers t (question own n) = asked (ask_means t own n)
table_answers t (tpc f report buffer) = replied_with (tpc_reply_of t report f) buffer
table_answers t (measurement f index readings buffer) = replied_with (measurement_reply_of t index readings f) buffer

abbrev pub table_after : Table → TableCall → Table
table_after t (join own channel) = (join_of t own channel).table
table_after t (leave own) = (leave_of t own).table
table_after t (tick n) = (tick_of t n).table
table_after t (take f) = (take_of t f).table
table_after t (question own n) = t
table_after t (tpc f report buffer) = t
table_after t (measurement f index readings buffer) = t

abbrev pub table_means : Meaning Table TableCall TableAnswer
table_means = record { answers = table_answers; leaves = table_after }

abbrev pub TableMeant : Table → TableCall → TableAnswer → Table → Type 0
TableMeant t c r next = Meant table_means ValidTable t c r next

-- a call with a result of an answer and a table
of_step : (t : Table) (c : TableCall) (x m : Stepped) (r : TableAnswer) (next : Table) → x ≡ m → answered m.answer ≡ table_answers t c → m.table ≡ table_after t c
    → ValidTable x.table → answered x.answer ≡ r → x.table ≡ next → TableMeant t c r next
of_step t c x m r next e is leaves v told result = record {
  answers = sym told ∙ ap (λ (y : Stepped). answered y.answer) e ∙ is;
  leaves = sym result ∙ ap (λ (y : Stepped). y.table) e ∙ leaves;
  valid = subst ValidTable result v;
}

of_reply : (o : Outcome (List ℕ)) (buffer exit : List ℕ) (x : Outcome ℕ) → Replied o buffer x exit → replied x exit ≡ replied_with o buffer
of_reply o buffer exit x w = ap₂ replied w.answers w.leaves

pub does_means : (t : Table) (c : TableCall) (r : TableAnswer) (next : Table) → ValidTable t → Does t c r next → TableMeant t c r next
does_means t (join own channel) r next v (κs, a, x, e, promise, (self, address, number, told, result)) =
    of_step t (join own channel) x (join_of t own channel) r next (rw (← self, ← address, ← number) promise.0) refl refl promise.1 told result
does_means t (leave own) r next v (κs, a, x, e, promise, (self, address, told, result)) =
    of_step t (leave own) x (leave_of t own) r next (rw (← self, ← address) promise.0) refl refl promise.1 told result
does_means t (tick n) r next v (κs, a, x, e, promise, (self, units, told, result)) =
    of_step t (tick n) x (tick_of t n) r next (rw (← self, ← units) promise.0) refl refl promise.1 told result
does_means t (take f) r next v (κs, a, x, e, promise, (self, octets, told, result)) =
    let same : x ≡ take_of t f = rw (← self, ← octets) promise.0 in
    record {
      answers = sym told ∙ ap (λ (y : Taken). judged y.verdict) same;
      leaves = sym result ∙ ap (λ (y : Taken). y.table) same;
      valid = subst ValidTable result promise.1;
    }
does_means t (question own n) r next v (κs, a, x, e, promise, (self, address, units, told, result)) =
    let same : x ≡ ask_means t own n = rw (← self, ← address, ← units) promise in
    record { answers = sym told ∙ ap asked same; leaves = sym result; valid = subst ValidTable result v }
does_means t (tpc f report buffer) r next v (κs, a, x, e, promise, (self, octets, found, lent, told, result)) =
    record {
      answers = sym told ∙ of_reply (tpc_reply_of t report f) buffer _ x (rw (← self, ← octets, ← found, ← lent) promise);
      leaves = sym result;
      valid = subst ValidTable result v;
    }
does_means t (measurement f index readings buffer) r next v (κs, a, x, e, promise, (self, octets, at, found, lent, told, result)) =
    record {
      answers = sym told ∙ of_reply (measurement_reply_of t index readings f) buffer _ x (rw (← self, ← octets, ← at, ← found, ← lent) promise);
      leaves = sym result;
      valid = subst ValidTable result v;
    }

-- ---- what no call changes, and the clock

abbrev pub far : Table → ℕ → Bool
far t n = ltb unit_limit n || ltb clock_limit (t.clock + n)

-- what holds of a table and of the one that an accepted call leaves holds whatever the checks say
pub through_checks : (P : Table → Type 0) (t next : Table) → P t → P next → (cs : List (Check Refusal)) → P (stepped t (checked cs (Ok next))).table
unfolding checked
through_checks P t next p q [] = q
through_checks P t next p q (c ∷ cs) = by c.fails (through_checks P t next p q cs)
  where
    by : (b : Bool) → P (stepped t (checked cs (Ok next))).table → P (stepped t (pick b (Err c.gives) (checked cs (Ok next)))).table
    by true rest = p
    by false rest = rest

-- the same whether a frame is accepted or not
pub through_take : (P : Table → Type 0) (t : Table) (f : List ℕ) → P t → ((x : Sent) → P (with_rows t (heard_rows f x t.rows))) → P (take_of t f).table
unfolding take_means
through_take P t f p q = by (frame_means (reader_of t f) t.ap t.interval f)
  where
    by : (o : Placed Sent) → P (taken t (and_then o (λ x. Ok (with_rows t (heard_rows f x t.rows))))).table
    by (Err r) = p
    by (Ok x) = q x

pub ap_kept : (t : Table) (c : TableCall) → (table_after t c).ap ≡ t.ap
unfolding join_means leave_means tick_means
ap_kept t (join own channel) = through_checks (λ u. u.ap ≡ t.ap) t _ refl refl _
ap_kept t (leave own) = through_checks (λ u. u.ap ≡ t.ap) t _ refl refl _
ap_kept t (tick n) = through_checks (λ u. u.ap ≡ t.ap) t _ refl refl _
ap_kept t (take f) = through_take (λ u. u.ap ≡ t.ap) t f refl (λ x. refl)
ap_kept t (question own n) = refl
ap_kept t (tpc f report buffer) = refl
ap_kept t (measurement f index readings buffer) = refl

pub interval_kept : (t : Table) (c : TableCall) → (table_after t c).interval ≡ t.interval
unfolding join_means leave_means tick_means
interval_kept t (join own channel) = through_checks (λ u. u.interval ≡ t.interval) t _ refl refl _
interval_kept t (leave own) = through_checks (λ u. u.interval ≡ t.interval) t _ refl refl _
interval_kept t (tick n) = through_checks (λ u. u.interval ≡ t.interval) t _ refl refl _
interval_kept t (take f) = through_take (λ u. u.interval ≡ t.interval) t f refl (λ x. refl)
interval_kept t (question own n) = refl
interval_kept t (tpc f report buffer) = refl
interval_kept t (measurement f index readings buffer) = refl

tick_clock : (t : Table) (n : ℕ) → (tick_of t n).table.clock ≡ pick (too_far t.clock n) t.clock (t.clock + n)
unfolding tick_means checked
tick_clock t n = by (far t n)
  where
    by : (b : Bool) → (stepped t (pick b (Err Refusal.PastClock)
        (Ok (ticked_table t n)))).table.clock ≡ pick b t.clock (t.clock + n)
    by true = refl
    by false = refl

-- the clock goes on by accepted advances alone
pub clock_after_lem : (t : Table) (c : TableCall) (u : ℕ) (h : History) → t.clock ≡ clock_from u h → (table_after t c).clock ≡ clock_from u (advance_in c h)
unfolding join_means leave_means clock_from
clock_after_lem t (join own channel) u h e = through_checks (λ n. n.clock ≡ clock_from u h) t _ e e _
clock_after_lem t (leave own) u h e = through_checks (λ n. n.clock ≡ clock_from u h) t _ e e _
clock_after_lem t (tick n) u h e = tick_clock t n ∙ ap (λ (m : ℕ). pick (too_far m n) m (m + n)) e
clock_after_lem t (take f) u h e = through_take (λ n. n.clock ≡ clock_from u h) t f e (λ x. e)
clock_after_lem t (question own n) u h e = e
clock_after_lem t (tpc f report buffer) u h e = e
clock_after_lem t (measurement f index readings buffer) u h e = e

-- ---- a call leaves a table valid

module _ (t : Table) (v : ValidTable t) where
  joined_valid : (own : List ℕ) (channel : ℕ) → ValidTable (join_of t own channel).table
  joined_valid own channel = by (join_forbids own channel) refl
    where
      by : (bad : Bool) → join_forbids own channel ≡ bad → ValidTable (join_of t own channel).table
      by true e = subst (λ (x : Stepped). ValidTable x.table) (join_forbidden t v own channel e) v
      by false e = subst (λ (x : Stepped). ValidTable x.table) (join_seats t v own channel e) (join_valid t v own channel e)

  ticked_valid : (n : ℕ) → ValidTable (tick_of t n).table
  ticked_valid n = by (far t n) refl
    where
      by : (b : Bool) → far t n ≡ b → ValidTable (tick_of t n).table
      by true e = let w = tick_refused t v n e in subst (λ (x : Stepped). ValidTable x.table) w.0 w.1
      by false e = let w = tick_accepted t v n e _ refl in subst (λ (x : Stepped). ValidTable x.table) w.0 w.1

  taken_valid : (f : List ℕ) → ValidTable (take_of t f).table
  unfolding take_means
  taken_valid f = by (frame_means (reader_of t f) t.ap t.interval f) refl
    where
      by : (o : Placed Sent) → frame_means (reader_of t f) t.ap t.interval f ≡ o
          → ValidTable (taken t (and_then o (λ x. Ok (with_rows t (heard_rows f x t.rows))))).table
      by (Err r) e = v
      by (Ok x) e = take_valid t v f x e

  pub valid_after : (c : TableCall) → ValidTable (table_after t c)
  unfolding leave_means
  valid_after (join own channel) = joined_valid own channel
  valid_after (leave own) = through_checks ValidTable t _ v (valid_left t v (is_of own)) _
  valid_after (tick n) = ticked_valid n
  valid_after (take f) = taken_valid f
  valid_after (question own n) = v
  valid_after (tpc f report buffer) = v
  valid_after (measurement f index readings buffer) = v

-- ---- a refused call changes nothing, in the whole table

abbrev pub Refuses : TableAnswer → Type 0
Refuses (answered (Ok tt)) = ⊥
Refuses (answered (Err r)) = Unit {0}
Refuses (judged (Ok tt)) = ⊥
Refuses (judged (Err x)) = Unit {0}
Refuses (asked x) = Unit {0}
Refuses (replied w buffer) = Unit {0}

of_outcome : (t : Table) (o : Outcome Table) → Refuses (answered (stepped t o).answer) → (stepped t o).table ≡ t
of_outcome t (Err r) x = refl
of_outcome t (Ok next) x = absurd x

of_placed : (t : Table) (o : Placed Table) → Refuses (judged (taken t o).verdict) → (taken t o).table ≡ t
of_placed t (Err r) x = refl
of_placed t (Ok next) x = absurd x

unchanged : (t : Table) (c : TableCall) → Refuses (table_answers t c) → table_after t c ≡ t
unchanged t (join own channel) x = of_outcome t (join_means t own channel) x
unchanged t (leave own) x = of_outcome t (leave_means t own) x
unchanged t (tick n) x = of_outcome t (tick_means t n) x
unchanged t (take f) x = of_placed t (take_means t f) x
unchanged t (question own n) x = refl
unchanged t (tpc f report buffer) x = refl
unchanged t (measurement f index readings buffer) x = refl

-- questions and replies change nothing either
pub refused_keeps : (t : Table) (c : TableCall) (r : TableAnswer) (next : Table) → ValidTable t → Does t c r next → Refuses r → next ≡ t
refused_keeps t c r next v d x =
    let m = does_means t c r next v d in
    m.leaves ∙ unchanged t c (subst Refuses m.answers x)

-- ---- start

pub starts_empty : (ap' : List ℕ) (b : ℕ) (t : Table) → TableStarts (started_with ap' b) t → Exactly ValidTable t (empty ap' b)
unfolding start_means
starts_empty ap' b t (κs, a, x, e, promise, (address, interval, accepts)) =
    let same : x ≡ start_means ap' b = rw (← address, ← interval) promise.0 in
    let p = passed _ _ _ (sym same ∙ accepts) in
    (sym (kept (empty ap' b) p.1), subst (λ (o : Outcome Table). IfOk o ValidTable) accepts promise.1)

pub table_meets : (ap' : List ℕ) (b : ℕ) → Meets table table_means (Exactly ValidTable) (started_with ap' b) (empty ap' b)
table_meets ap' b = meets_exactly table table_means ValidTable does_means (started_with ap' b) (empty ap' b) (starts_empty ap' b)
