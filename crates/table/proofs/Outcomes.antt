-- Each way out of a call is what the call means, and leaves a valid table. Assumes nothing.
use Rattle.std.specs.Prelude.{Ok, Err, Some, None, Option, position}
use mathlib.Core.Bool.{Bool, true, false, not, ◌||◌}
use mathlib.Core.List.{List, map}
use mathlib.Core.Path.{◌≡◌, refl, sym, ap, ◌∙◌, subst}
use Prim.Native.Nat.{ℕ, ◌+◌, ◌<◌}
use native.Mathlib.Omega.{arith}
use borrow.Author.Tests.{ne_eqb}
use lib.Dec.{ltb, eqb}
use lib.ListN.{get_or, set}
use Rattle.answer.proofs.Booleans.{both, or_go}
use Rattle.answer.proofs.Judged.{never, past, stop, done}
use Rattle.answer.specs.Checks.{Outcome, pick, checked, and_then}
use Rattle.answer.specs.Faults.{Placed}
use Rattle.answer.specs.declared.Fault.{Fault}
use Rattle.answer.specs.declared.Refusal.{Refusal}
use Rattle.channel.specs.Centres.{highest}
use Rattle.frame.proofs.Allowing.{frame_allowed}
use Rattle.frame.specs.Allowed.{KindAllowed}
use Rattle.frame.specs.Frames.{Sent, frame_means}
use Rattle.frame.specs.Laid.{frame_laid}
use Rattle.frame.specs.declared.Received.{Received}
use Rattle.header.specs.Headers.{same, da}
use Rattle.octets.specs.Numbers.{bit, octet}
use Rattle.row.specs.Rows.{row_count, free, seated, is_of, is_free, row_heard, ticked}
use Rattle.row.specs.declared.Row.{Row}
use Rattle.station.proofs.Received.{laid_means}
use Rattle.station.specs.Asking.{permission_of}
use Rattle.station.specs.Starting.{start_forbids as station_forbids, start_means}
use Rattle.station.specs.Stations.{clock_limit, unit_limit, fresh, with_clock}
use Rattle.station.specs.Taking.{taken as station_taken}
use Rattle.station.specs.Validity.{Valid}
use Rattle.station.specs.declared.Station.{Station}
use Rattle.table.specs.CodeTerms.Hearing.{PlaceWithin, reader_at, rows_after}
use Rattle.table.specs.CodeTerms.Seating.{seat_among, seat_means}
use Rattle.table.specs.Tables.{with_rows, some_row, on_first, is_joined, stepped, newcomer, join_forbids, join_means, join_of, leave_means, leave_of, tick_means, tick_of, reader_of, hearing, heard_rows, take_means, taken, take_of, ask_means}
use Rattle.table.specs.Validity.{Sits, Holds, RowOf, ValidTable}
use Rattle.table.specs.declared.Stepped.{Stepped}
use Rattle.table.specs.declared.Table.{Table}
use Rattle.table.proofs.FirstRow.{found_at, none_such}
use Rattle.table.proofs.Readers.{sent_to_all, to_all_ones, single_alone}
use Rattle.table.proofs.Readers.{reader_else, reader_placed}
use Rattle.table.proofs.StaysValid.{newcomer_sits, valid_joined, valid_left, valid_all, valid_one, valid_ticked}

-- ---- the row at the place of an address

module _ (t : Table) (v : ValidTable t) (own : List ℕ) (i : ℕ) (e : position (is_of own) t.rows ≡ Some i) where
  pub place_fits : i < row_count
  place_fits = omega (arith, v.sixteen, (found_at (is_of own) t.rows i e).within)

  module _ (d : Row) where
    abbrev sitting : Row
    sitting = get_or t.rows i d

    pub its_row : RowOf t sitting
    its_row = v.each i d (found_at (is_of own) t.rows i e).within

    is_of_lem : (sitting.joined ≡ true) × (same own sitting.station.own ≡ true)
    is_of_lem = both sitting.joined (same own sitting.station.own) ((found_at (is_of own) t.rows i e).is_such d)

    pub its_station : Sits t.ap t.interval t.clock sitting.station
    its_station = subst (λ (b : Bool). Holds t.ap t.interval t.clock b sitting.station) is_of_lem.0 its_row

    pub its_address : same own sitting.station.own ≡ true
    its_address = is_of_lem.1

    pub its_valid : Valid sitting.station
    its_valid = its_station.valid

-- ---- joining

refusal_is : {A : Type 0} {r q : Refusal} → ◌≡◌ {A = Outcome A} (Err r) (Err q) → r ≡ q
refusal_is e = cc

module _ (t : Table) (s : Station) where
  abbrev already : Option ℕ
  already = position (is_of s.own) t.rows

  abbrev vacant : Option ℕ
  vacant = position is_free t.rows

  again : (i : ℕ) → already ≡ Some i → Err Refusal.AlreadyJoined ≡ seat_means t s
  unfolding seat_means
  again i e = stop _ _ _ (found_at (is_of s.own) t.rows i e).there

  full : already ≡ None → vacant ≡ None → Err Refusal.NoFreeRow ≡ seat_means t s
  unfolding seat_means
  full new e = past _ _ _ (none_such (is_of s.own) t.rows new).0 (stop _ _ _ (ap (λ (b : Bool). not b) (none_such is_free t.rows e).0))

  taken_at : (i : ℕ) → already ≡ None → vacant ≡ Some i → Ok (with_rows t (set t.rows i (seated s))) ≡ seat_means t s
  unfolding seat_means
  taken_at i new e =
      let found = found_at is_free t.rows i e in
      past _ _ _ (none_such (is_of s.own) t.rows new).0
      (past _ _ _ (ap (λ (b : Bool). not b) found.there) (ap (λ (ws : List Row). Ok (with_rows t ws)) (sym (found.changed free (λ w. seated s))) ∙ done _))

  -- by the places that were found
  module _ (p q : Option ℕ) (is_already : p ≡ already) (is_vacant : q ≡ vacant) where
    pub seat_refused : (r : Refusal) → Err r ≡ seat_among p q → (x : Stepped) → x ≡ stepped t (Err r) → x ≡ stepped t (seat_means t s)
    seat_refused r e x is = is ∙ ap (stepped t) (by p q (sym is_already) (sym is_vacant) e)
      where
        by : (p q : Option ℕ) → already ≡ p → vacant ≡ q → Err r ≡ seat_among p q → Err r ≡ seat_means t s
        by (Some i) q a v e = ap Err (refusal_is e) ∙ again i a
        by None None a v e = ap Err (refusal_is e) ∙ full a v
        by None (Some i) a v e = absurd (never e)

    seat_found : (i : ℕ) → Ok i ≡ seat_among p q → (already ≡ None) × (vacant ≡ Some i)
    seat_found i e = by p q (sym is_already) (sym is_vacant) (sym e)
      where
        by : (p q : Option ℕ) → already ≡ p → vacant ≡ q → seat_among p q ≡ Ok i → (already ≡ None) × (vacant ≡ Some i)
        by (Some j) q a v e = absurd (never e)
        by None None a v e = absurd (never e)
        by None (Some j) a v e = (a, v ∙ (let same : j ≡ i = cc in ap Some same))

    pub seat_within : (i : ℕ) → Ok i ≡ seat_among p q → ValidTable t → i < row_count
    seat_within i e v = omega (arith, v.sixteen, (found_at is_free t.rows i (seat_found i e).1).within)

    pub seat_taken : (i : ℕ) → Ok i ≡ seat_among p q → (x : Stepped) (next : Table) (w : Row) → x ≡ stepped t (Ok next) → next ≡ with_rows t (set t.rows i w)
        → w ≡ seated s → x ≡ stepped t (seat_means t s)
    seat_taken i e x next w is goes taken =
        let found = seat_found i e in
        is ∙ ap (stepped t) (ap Ok (goes ∙ ap (λ (r : Row). with_rows t (set t.rows i r)) taken) ∙ taken_at i found.0 found.1)

module _ (t : Table) (v : ValidTable t) (own : List ℕ) (channel : ℕ) where
  -- in a valid table 01's start refuses what joining does
  pub same_forbids : station_forbids own t.ap t.interval channel ≡ join_forbids own channel
  same_forbids =
      or_go (eqb t.interval 0) (ne_eqb t.interval 0 (λ e. let p = v.interval_positive in omega (arith, e, p)))
      ∙ ap (λ (b : Bool). ltb highest channel || (bit 0 (octet 0 own) || b)) v.ap_single ∙ swapped (bit 0 (octet 0 own)) (ltb highest channel)
    where
      swapped : (x y : Bool) → (y || (x || false)) ≡ (x || y)
      swapped true true = refl
      swapped true false = refl
      swapped false true = refl
      swapped false false = refl

  pub join_forbidden : join_forbids own channel ≡ true → stepped t (Err Refusal.BadStart) ≡ join_of t own channel
  unfolding join_means
  join_forbidden y = ap (stepped t) (stop _ _ _ y)

  module _ (n : join_forbids own channel ≡ false) where
    pub join_seats : stepped t (seat_means t (newcomer t own channel)) ≡ join_of t own channel
    unfolding join_means seat_means
    join_seats = ap (stepped t) (past _ _ _ n refl)

    pub join_valid : ValidTable (stepped t (seat_means t (newcomer t own channel))).table
    unfolding seat_means checked
    join_valid = by (is_joined t own) refl
      where
        by_room : (full : Bool) → is_joined t own ≡ false
            → ValidTable (stepped t (pick full (Err Refusal.NoFreeRow) (Ok (with_rows t (on_first is_free (λ w. seated (newcomer t own channel)) t.rows))))).table
        by_room true none = v
        by_room false none = valid_joined t v (newcomer t own channel) (newcomer_sits t v own channel n) none

        by : (again : Bool) → is_joined t own ≡ again
            → ValidTable
            (stepped t
            (pick again (Err Refusal.AlreadyJoined)
            (pick (not (some_row is_free t.rows)) (Err Refusal.NoFreeRow)
            (Ok (with_rows t (on_first is_free (λ w. seated (newcomer t own channel)) t.rows)))))).table
        by true e = v
        by false e = by_room (not (some_row is_free t.rows)) e

  -- by what 01's start answered
  abbrev begun : Outcome Station
  begun = start_means own t.ap t.interval channel

  pub join_refused : (r : Refusal) → Err r ≡ begun → (x : Stepped) → x ≡ stepped t (Err r) → x ≡ join_of t own channel
  unfolding start_means checked
  join_refused r e x is = is ∙ by (station_forbids own t.ap t.interval channel) refl e
    where
      by : (bad : Bool) → station_forbids own t.ap t.interval channel ≡ bad → Err r ≡ pick bad (Err Refusal.BadStart) (Ok (fresh own t.ap t.interval channel))
          → stepped t (Err r) ≡ join_of t own channel
      by true y e = ap (λ (q : Refusal). stepped t (Err q)) (refusal_is e) ∙ join_forbidden (sym same_forbids ∙ y)
      by false n e = absurd (never e)

  begun_as : (s : Station) → Ok s ≡ begun → (join_forbids own channel ≡ false) × (s ≡ fresh own t.ap t.interval channel)
  unfolding start_means checked
  begun_as s e = by (station_forbids own t.ap t.interval channel) refl (sym e)
    where
      by : (bad : Bool) → station_forbids own t.ap t.interval channel ≡ bad → pick bad (Err Refusal.BadStart) (Ok (fresh own t.ap t.interval channel)) ≡ Ok s
          → (join_forbids own channel ≡ false) × (s ≡ fresh own t.ap t.interval channel)
      by true y e = absurd (never e)
      by false n e = (sym same_forbids ∙ n, let same : s ≡ fresh own t.ap t.interval channel = cc in same)

  module _ (s : Station) (e : Ok s ≡ begun) (x : Stepped) (is : x ≡ stepped t (seat_means t (with_clock s t.clock))) where
    seated_as : x ≡ stepped t (seat_means t (newcomer t own channel))
    seated_as = is ∙ ap (λ (y : Station). stepped t (seat_means t (with_clock y t.clock))) (begun_as s e).1

    pub join_accepted : x ≡ join_of t own channel
    join_accepted = seated_as ∙ join_seats (begun_as s e).0

    pub join_kept : ValidTable x.table
    join_kept = subst (λ (y : Stepped). ValidTable y.table) (sym seated_as) (join_valid (begun_as s e).0)

-- ---- leaving

module _ (t : Table) (v : ValidTable t) (own : List ℕ) where
  pub leave_none : position (is_of own) t.rows ≡ None → (stepped t (Err Refusal.NotJoined) ≡ leave_of t own) × ValidTable t
  unfolding leave_means
  leave_none e = (ap (stepped t) (stop _ _ _ (ap (λ (b : Bool). not b) (none_such (is_of own) t.rows e).0)), v)

  pub leave_one : (i : ℕ) → position (is_of own) t.rows ≡ Some i
      → (stepped t (Ok (with_rows t (set t.rows i free))) ≡ leave_of t own) × ValidTable (with_rows t (set t.rows i free))
  unfolding leave_means
  leave_one i e =
      let found = found_at (is_of own) t.rows i e in
      let rows : on_first (is_of own) (λ w. free) t.rows ≡ set t.rows i free = found.changed free (λ w. free) in (
        ap (stepped t)
            (past _ _ _ (ap (λ (b : Bool). not b) found.there) (ap (λ (ws : List Row). Ok (with_rows t ws)) (sym rows) ∙ done _)),
        subst (λ (ws : List Row). ValidTable (with_rows t ws)) rows (valid_left t v (is_of own)),
      )

  pub leave_kept : (i : ℕ) → position (is_of own) t.rows ≡ Some i → (x : Stepped) (next : Table) (w : Row)
      → x ≡ stepped t (Ok next) → next ≡ with_rows t (set t.rows i w) → w ≡ free → ValidTable x.table
  leave_kept i e x next w is left none =
      subst ValidTable (sym (ap (λ (y : Stepped). y.table) is ∙ left ∙ ap (λ (r : Row). with_rows t (set t.rows i r)) none)) (leave_one i e).1

-- ---- questions

module _ (t : Table) (own : List ℕ) (n : ℕ) where
  pub ask_none : position (is_of own) t.rows ≡ None → Err Refusal.NotJoined ≡ ask_means t own n
  unfolding ask_means
  ask_none e = ap (λ (o : Outcome Station). and_then o (λ s. Ok (permission_of s n))) (sym (none_such (is_of own) t.rows e).1)

  pub ask_one : (i : ℕ) (d : Row) → position (is_of own) t.rows ≡ Some i → Ok (permission_of (get_or t.rows i d).station n) ≡ ask_means t own n
  unfolding ask_means
  ask_one i d e = ap (λ (o : Outcome Station). and_then o (λ s. Ok (permission_of s n))) (sym ((found_at (is_of own) t.rows i e).station d))

-- ---- the clock

module _ (t : Table) (v : ValidTable t) (n : ℕ) where
  abbrev far : Bool
  far = ltb unit_limit n || ltb clock_limit (t.clock + n)

  pub tick_refused : far ≡ true → (stepped t (Err Refusal.PastClock) ≡ tick_of t n) × ValidTable t
  unfolding tick_means
  tick_refused y = (ap (stepped t) (stop _ _ _ y), v)

  abbrev later : List Row → Table
  later ws = record { ap = t.ap; interval = t.interval; clock = t.clock + n; rows = ws }

  pub tick_accepted : far ≡ false → (ws : List Row) → ws ≡ ticked n t.rows → (stepped t (Ok (later ws)) ≡ tick_of t n) × ValidTable (later ws)
  unfolding tick_means
  tick_accepted near ws e = (
    ap (λ (vs : List Row). stepped t (Ok (later vs))) e ∙ ap (stepped t) (past _ _ _ near (done _)),
    subst (λ (vs : List Row). ValidTable (later vs)) (sym e) (valid_ticked t v n near),
  )

-- ---- frames

-- what is read goes to a row as what the frame means
heard_row : (x : Sent) (w : Row) → row_heard (frame_laid (Ok x)) w ≡ hearing x.kind w
unfolding row_heard hearing
heard_row x w = ap (λ o. pick w.joined (seated (station_taken w.station o).station) w) (laid_means w.station (Ok x))

-- a frame that was refused, or read
read_refused : (o : Placed Sent) (x : Fault) → frame_laid o ≡ Err x → o ≡ Err x
read_refused (Err y) x e = let same : y ≡ x = cc in ap Err same
read_refused (Ok y) x e = absurd (never (sym e))

read_accepted : (o : Placed Sent) (g : Received) → frame_laid o ≡ Ok g → (x : Sent) × (o ≡ Ok x)
read_accepted (Err y) g e = absurd (never e)
read_accepted (Ok y) g e = (y, refl)

module _ (t : Table) (v : ValidTable t) (f : List ℕ) where
  abbrev read : Placed Sent
  read = frame_means (reader_of t f) t.ap t.interval f

  pub fits : (q : Option ℕ) → position (is_of (da f)) t.rows ≡ q → PlaceWithin q
  fits (Some i) e = place_fits t v (da f) i e
  fits None e = tt

  module _ (x : Sent) (is : read ≡ Ok x) where
    -- sent to one station: not to all ones
    to_one_lem : (i : ℕ) → position (is_of (da f)) t.rows ≡ Some i → x.to_all ≡ false
    to_one_lem i e =
        sym (sent_to_all (reader_of t f) t.ap t.interval f x is)
        ∙ single_alone f (get_or t.rows i free).station.own (its_address t v (da f) i e free) (its_station t v (da f) i e free).valid.own_single

    -- sent to no station of the table: to all ones
    to_all_lem : position (is_of (da f)) t.rows ≡ None → x.to_all ≡ true
    to_all_lem e =
        to_all_ones t.ap t.interval f x
        (ap (λ (own : List ℕ). frame_means own t.ap t.interval f) (sym (reader_else t f (none_such (is_of (da f)) t.rows e).0)) ∙ is)

    abbrev by_test : Bool → List Row
    by_test b = pick b (map (hearing x.kind) t.rows) (on_first (is_of (da f)) (hearing x.kind) t.rows)

    pub placed_rows : (q : Option ℕ) → position (is_of (da f)) t.rows ≡ q → rows_after q (frame_laid (Ok x)) t.rows ≡ heard_rows f x t.rows
    placed_rows (Some i) e =
        ap (λ (w : Row). set t.rows i w) (heard_row x (get_or t.rows i free))
        ∙ sym ((found_at (is_of (da f)) t.rows i e).changed free (hearing x.kind)) ∙ ap by_test (sym (to_one_lem i e))
    placed_rows None e = (λ i. map (λ w. heard_row x w i) t.rows) ∙ ap by_test (sym (to_all_lem e))

    pub take_accepted : Ok (with_rows t (heard_rows f x t.rows)) ≡ take_means t f
    unfolding take_means
    take_accepted = ap (λ (o : Placed Sent). and_then o (λ y. Ok (with_rows t (heard_rows f y t.rows)))) (sym is)

    pub take_valid : ValidTable (with_rows t (heard_rows f x t.rows))
    take_valid = by x.to_all
      where
        allowed : KindAllowed t.interval x.kind
        allowed = frame_allowed t.interval (reader_of t f) t.ap f x is

        by : (b : Bool) → ValidTable (with_rows t (pick b (map (hearing x.kind) t.rows) (on_first (is_of (da f)) (hearing x.kind) t.rows)))
        by true = valid_all t v x.kind allowed
        by false = valid_one t v x.kind allowed (is_of (da f))

  -- by the station as which it was read, and what was read
  module _ (to own : List ℕ) (place : Option ℕ) (o : Placed Received) (is_to : to ≡ da f) (sits : place ≡ position (is_of to) t.rows)
      (reads : own ≡ reader_at place to) (laid : o ≡ frame_laid (frame_means own t.ap t.interval f)) where
    placed : position (is_of (da f)) t.rows ≡ place
    placed = sym (sits ∙ ap (λ (a : List ℕ). position (is_of a) t.rows) is_to)

    read_laid : frame_laid read ≡ o
    read_laid =
        ap (λ (a : List ℕ). frame_laid (frame_means a t.ap t.interval f)) (sym (reads ∙ ap (reader_at place) is_to ∙ reader_placed t f place placed)) ∙ sym laid

    pub take_refused : (x : Fault) → o ≡ Err x → record { verdict = Err x; table = t } ≡ take_of t f
    unfolding take_means
    take_refused x e =
        ap (λ (p : Placed Sent). taken t (and_then p (λ y. Ok (with_rows t (heard_rows f y t.rows))))) (sym (read_refused read x (read_laid ∙ e)))

    module _ (g : Received) (e : o ≡ Ok g) (next : Table) (goes : next ≡ with_rows t (rows_after place o t.rows)) where
      its_reading : (x : Sent) × (read ≡ Ok x)
      its_reading = read_accepted read g (read_laid ∙ e)

      goes_as : next ≡ with_rows t (heard_rows f its_reading.0 t.rows)
      goes_as =
          goes ∙ ap (λ (p : Placed Received). with_rows t (rows_after place p t.rows)) (sym read_laid ∙ ap frame_laid its_reading.1)
          ∙ ap (with_rows t) (placed_rows its_reading.0 its_reading.1 place placed)

      pub take_heard : record { verdict = Ok tt; table = next } ≡ take_of t f
      take_heard = ap (λ (y : Table). record { verdict = Ok tt; table = y }) goes_as ∙ ap (taken t) (take_accepted its_reading.0 its_reading.1)

      pub take_kept : ValidTable next
      take_kept = subst ValidTable (sym goes_as) (take_valid its_reading.0 its_reading.1)

-- ---- what the calls go by

pub ruleset leaving = (place_fits, leave_none, leave_one)

pub ruleset asking = (place_fits, ask_none, ask_one)

pub ruleset taking = (fits, take_heard, take_kept)
