-- A call for the station of an address does to it, and answers, what document 01's station does and answers; any other call leaves it. Assumes nothing.
use Rattle.std.specs.Prelude.{Ok, Err}
use mathlib.Core.Bool.{Bool, true, false, ◌||◌}
use mathlib.Core.List.{List, map}
use mathlib.Core.Logic.{⊎_elim}
use mathlib.Core.Path.{◌≡◌, refl, sym, ap, ap₂, ◌∙◌, subst}
use Prim.Native.Nat.{ℕ, ◌+◌}
use lib.Dec.{ltb}
use Rattle.answer.proofs.Booleans.{clash, either, both, neither, or_go, or_stop}
use Rattle.answer.proofs.Judged.{past, stop}
use Rattle.answer.specs.Checks.{Outcome, pick, checked, and_then}
use Rattle.answer.specs.Faults.{Placed}
use Rattle.answer.specs.declared.Refusal.{Refusal}
use Rattle.frame.specs.Frames.{Kind, Sent, frame_means}
use Rattle.header.proofs.Addresses.{same_self, same_is}
use Rattle.header.specs.Headers.{same, da, to_all}
use Rattle.reply.specs.Replies.{tpc_reply, measurement_reply}
use Rattle.row.specs.Rows.{free, seated, is_of, is_free, row_ticked}
use Rattle.row.specs.declared.Row.{Row}
use Rattle.station.specs.Asking.{permission_of}
use Rattle.station.specs.Clock.{stepped as station_stepped, reached, clock_advance, advanced_to, advance_means, advance_of}
use Rattle.station.specs.Stations.{unit_limit, clock_limit}
use Rattle.station.specs.Taking.{heard, taken as station_taken, take_means as station_takes, take_of as station_take}
use Rattle.station.specs.declared.Station.{Station}
use Rattle.station.specs.declared.clock.Stepped.{Stepped}
use Rattle.station.specs.declared.taking.Taken.{Taken}
use Rattle.table.proofs.Neighbours.{step_found, every_steps, own_steps, other_leaves, of_another, free_of_none, found_some, found_such}
use Rattle.table.proofs.Readers.{reader_joined, sent_to_all, read_alike}
use Rattle.table.proofs.StaysApart.{same_seat_of, differ}
use Rattle.table.proofs.StaysValid.{hearing_seat, ticked_seat}
use Rattle.table.specs.Tables.{with_rows, on_first, first_such, is_joined, station_of, stepped, newcomer, join_forbids, join_means, leave_means, ticked_table, tick_means, tick_of, reader_of, hearing, heard_rows, take_means, taken, take_of, ask_means}
use Rattle.table.specs.Validity.{Sits, Holds, RowOf, ValidTable}
use Rattle.table.specs.declared.Table.{Table}
use Rattle.table.specs.declared.taking.Taken.{Taken as TableTaken}
use Rattle.claims.specs.TableHistories.{concerns, Leaves}
use Rattle.claims.specs.TableRuns.{TableCall, join, leave, tick, take, question, tpc, measurement, TableAnswer, answered, judged, asked}
use Rattle.claims.proofs.TableMeans.{replied_with, table_answers, table_after, far, through_checks}

-- ---- what document 01's station does and answers

abbrev pub row_after : Station → TableCall → Station
row_after r (tick n) = (advance_of r n).station
row_after r (take f) = (station_take r f).station
row_after r (join a channel) = r
row_after r (leave a) = r
row_after r (question a n) = r
row_after r (tpc f report buffer) = r
row_after r (measurement f index readings buffer) = r

-- of joining again and of leaving nothing is said here: neither is a call for it
abbrev pub row_answers : Station → TableCall → TableAnswer
row_answers r (tick n) = answered (advance_of r n).answer
row_answers r (take f) = judged (station_take r f).verdict
row_answers r (question a n) = asked (Ok (permission_of r n))
row_answers r (tpc f report buffer) = replied_with (tpc_reply r.own r.ap report f) buffer
row_answers r (measurement f index readings buffer) = replied_with (measurement_reply r.own r.ap r.clock index readings f) buffer
row_answers r (join a channel) = answered (Err (pick (join_forbids a channel) Refusal.BadStart Refusal.AlreadyJoined))
row_answers r (leave a) = answered (Ok tt)

-- ---- an advance by whether it is too far

module _ (r : Station) (n : ℕ) where
  abbrev advanced_by : Bool → Stepped
  advanced_by b = station_stepped r (and_then (pick b (Err Refusal.PastClock) (Ok (reached (r.clock + n) r.pending))) (λ a. Ok (advanced_to r a)))

  pub by_far : advance_of r n ≡ advanced_by (ltb unit_limit n || ltb clock_limit (r.clock + n))
  unfolding advance_means clock_advance checked
  by_far = refl

  pub goes_accepted : (advanced_by false).answer ≡ Ok tt
  goes_accepted = refl

-- ---- a row of the station's address does what its station does

pub ticked_station : (own : List ℕ) (n : ℕ) (w : Row) → is_of own w ≡ true → (row_ticked n w).station ≡ (advance_of w.station n).station
unfolding row_ticked
ticked_station own n w y = ap (λ (b : Bool). (pick b (seated (advance_of w.station n).station) w).station) (both w.joined (same own w.station.own) y).0

pub hearing_station : (own : List ℕ) (k : Kind) (w : Row) → is_of own w ≡ true → (hearing k w).station ≡ heard w.station k
unfolding hearing
hearing_station own k w y = ap (λ (b : Bool). (pick b (seated (heard w.station k)) w).station) (both w.joined (same own w.station.own) y).0

pub hearing_keeps : (own : List ℕ) (k : Kind) (w : Row) → is_of own (hearing k w) ≡ is_of own w
hearing_keeps own k w = same_seat_of own w (hearing k w) (hearing_seat k w)

module _ (t : Table) (v : ValidTable t) (own : List ℕ) where
  -- ---- what is for others

  newcomer_apart : (a : List ℕ) (channel : ℕ) → same a own ≡ false → station_of (with_rows t (on_first is_free (λ w. seated (newcomer t a channel)) t.rows)) own ≡ station_of t own
  newcomer_apart a channel n =
      other_leaves (is_of own) is_free (λ w. seated (newcomer t a channel)) (λ w y. (free_of_none own w y, differ a own n)) t.rows

  leaver_apart : (a : List ℕ) → same a own ≡ false → station_of (with_rows t (on_first (is_of a) (λ w. free) t.rows)) own ≡ station_of t own
  leaver_apart a n = other_leaves (is_of own) (is_of a) (λ w. free) (λ w y. (of_another own a n w y, refl)) t.rows

  -- a frame to another is no frame to all ones
  pub to_another : (f : List ℕ) → (to_all f || same (da f) own) ≡ false → station_of (take_of t f).table own ≡ station_of t own
  unfolding take_means
  to_another f e = by (frame_means (reader_of t f) t.ap t.interval f) refl
    where
      off : (to_all f ≡ false) × (same (da f) own ≡ false)
      off = neither (to_all f) (same (da f) own) e

      by : (o : Placed Sent) → frame_means (reader_of t f) t.ap t.interval f ≡ o
          → station_of (taken t (and_then o (λ x. Ok (with_rows t (heard_rows f x t.rows))))).table own ≡ station_of t own
      by (Err x) g = refl
      by (Ok x) g =
          ap (λ (b : Bool). first_such (is_of own) (pick b (map (hearing x.kind) t.rows) (on_first (is_of (da f)) (hearing x.kind) t.rows)))
          (sym (sent_to_all (reader_of t f) t.ap t.interval f x g) ∙ off.0)
          ∙ other_leaves (is_of own) (is_of (da f)) (hearing x.kind)
          (λ w y. (of_another own (da f) off.1 w y, hearing_keeps own x.kind w ∙ of_another own (da f) off.1 w y)) t.rows

  pub joined_apart : (a : List ℕ) (channel : ℕ) → same a own ≡ false → station_of (table_after t (join a channel)) own ≡ station_of t own
  unfolding join_means
  joined_apart a channel n = through_checks (λ u. station_of u own ≡ station_of t own) t _ refl (newcomer_apart a channel n) _

  pub left_apart : (a : List ℕ) → same a own ≡ false → station_of (table_after t (leave a)) own ≡ station_of t own
  unfolding leave_means
  left_apart a n = through_checks (λ u. station_of u own ≡ station_of t own) t _ refl (leaver_apart a n) _

  -- ---- the station of an address

  module _ (r : Station) (is : station_of t own ≡ Ok r) where
    pub is_joined_lem : is_joined t own ≡ true
    is_joined_lem = found_some (is_of own) t.rows r is

    its_row : (w : Row) × (is_of own w ≡ true) × RowOf t w × (w.station ≡ r)
    its_row = found_such (is_of own) (RowOf t) t.rows r v.each is

    pub sits : Sits t.ap t.interval t.clock r
    sits =
        let x = its_row in
        let j = both x.0.joined (same own x.0.station.own) x.1 in
        subst (Sits t.ap t.interval t.clock) x.3 (subst (λ (b : Bool). Holds t.ap t.interval t.clock b x.0.station) j.0 x.2)

    pub own_address : r.own ≡ own
    own_address =
        let x = its_row in
        let j = both x.0.joined (same own x.0.station.own) x.1 in
        ap (λ (s : Station). s.own) (sym x.3) ∙ sym (same_is own x.0.station.own j.1)

    -- ---- the clock

    abbrev ticks : ℕ → Bool → Table
    ticks n b = (stepped t (pick b (Err Refusal.PastClock) (Ok (ticked_table t n)))).table

    ticked_answer : (n : ℕ) → (tick_of t n).answer ≡ (advance_of r n).answer
    unfolding tick_means checked
    ticked_answer n =
        by (far t n) ∙ ap (λ (m : ℕ). (advanced_by r n (ltb unit_limit n || ltb clock_limit (m + n))).answer) (sym sits.same_clock) ∙ ap (λ (x : Stepped). x.answer) (sym (by_far r n))
      where
        by : (b : Bool) → (stepped t (pick b (Err Refusal.PastClock)
            (Ok (ticked_table t n)))).answer ≡ (advanced_by r n b).answer
        by true = refl
        by false = sym (goes_accepted r n)

    ticked_row : (n : ℕ) → station_of (tick_of t n).table own ≡ Ok (advance_of r n).station
    unfolding tick_means checked
    ticked_row n =
        by (far t n) refl
      where
        same_far : far t n ≡ (ltb unit_limit n || ltb clock_limit (r.clock + n))
        same_far = ap (λ (m : ℕ). ltb unit_limit n || ltb clock_limit (m + n)) (sym sits.same_clock)

        by : (b : Bool) → far t n ≡ b → station_of (ticks n b) own ≡ Ok (advance_of r n).station
        by true e = is ∙ ap (λ (x : Stepped). Ok x.station) (sym (by_far r n ∙ ap (advanced_by r n) (sym same_far ∙ e)))
        by false e =
            every_steps (is_of own) (row_ticked n) (λ s. (advance_of s n).station) (λ w. same_seat_of own w (row_ticked n w) (ticked_seat n w)) (ticked_station own n) t.rows
            ∙ ap (step_found (λ s. (advance_of s n).station)) is

    -- ---- a frame to all ones or to the station

    module _ (f : List ℕ) (reaches : (to_all f || same (da f) own) ≡ true) where
      -- it is read as the station reads it
      read_as_lem : frame_means (reader_of t f) t.ap t.interval f ≡ frame_means r.own r.ap r.interval f
      read_as_lem =
          read_alike t.ap f t.interval (reader_of t f) r.own (reached ∙ sym (swapped (to_all f) (same (da f) r.own) (ap (λ (a : List ℕ). to_all f || same (da f) a) own_address ∙ reaches)))
          ∙ ap₂ (λ (a : List ℕ) (b : ℕ). frame_means r.own a b f) (sym sits.same_ap) (sym sits.same_interval)
        where
          swapped : (x y : Bool) → (x || y) ≡ true → (y || x) ≡ true
          swapped true true e = refl
          swapped true false e = refl
          swapped false true e = refl
          swapped false false e = e

          reached : (same (da f) (reader_of t f) || to_all f) ≡ true
          reached =
              ⊎_elim
              (λ (y : to_all f ≡ true). swapped (to_all f) (same (da f) (reader_of t f)) (or_stop (to_all f) _ y))
              (λ (n : to_all f ≡ false).
              let to_own : same (da f) own ≡ true = sym (or_go (to_all f) n) ∙ reaches in
              let here : is_joined t (da f) ≡ true = ap (λ (a : List ℕ). is_joined t a) (same_is (da f) own to_own) ∙ is_joined_lem in
              or_stop (same (da f) (reader_of t f)) (to_all f) (ap (same (da f)) (reader_joined t f here) ∙ same_self (da f)))
              (either (to_all f))

      abbrev table_by : Placed Sent → TableTaken
      table_by o = taken t (and_then o (λ x. Ok (with_rows t (heard_rows f x t.rows))))

      abbrev station_by : Placed Sent → Taken
      station_by o = station_taken r (and_then o (λ x. Ok (heard r x.kind)))

      table_by_lem : take_of t f ≡ table_by (frame_means (reader_of t f) t.ap t.interval f)
      unfolding take_means
      table_by_lem = refl

      station_by_lem : station_take r f ≡ station_by (frame_means r.own r.ap r.interval f)
      unfolding station_takes
      station_by_lem = refl

      -- it goes to its row
      heard_row : (x : Sent) → frame_means (reader_of t f) t.ap t.interval f ≡ Ok x
          → first_such (is_of own) (heard_rows f x t.rows) ≡ Ok (heard r x.kind)
      heard_row x e =
          ⊎_elim
          (λ (y : to_all f ≡ true).
          ap (λ (b : Bool). first_such (is_of own) (rows_by b)) (sym to ∙ y)
          ∙ every_steps (is_of own) (hearing x.kind) (λ s. heard s x.kind) (hearing_keeps own x.kind) (hearing_station own x.kind) t.rows
          ∙ ap (step_found (λ s. heard s x.kind)) is)
          (λ (n : to_all f ≡ false).
          ap (λ (b : Bool). first_such (is_of own) (rows_by b)) (sym to ∙ n)
          ∙ ap (λ (a : List ℕ). first_such (is_of own) (on_first (is_of a) (hearing x.kind) t.rows)) (same_is (da f) own (sym (or_go (to_all f) n) ∙ reaches))
          ∙ own_steps (is_of own) (hearing x.kind) (λ s. heard s x.kind) (hearing_keeps own x.kind) (hearing_station own x.kind) t.rows
          ∙ ap (step_found (λ s. heard s x.kind)) is)
          (either (to_all f))
        where
          rows_by : Bool → List Row
          rows_by b = pick b (map (hearing x.kind) t.rows) (on_first (is_of (da f)) (hearing x.kind) t.rows)

          to : to_all f ≡ x.to_all
          to = sent_to_all (reader_of t f) t.ap t.interval f x e

      taken_alike : (judged (take_of t f).verdict ≡ judged (station_take r f).verdict) × (station_of (take_of t f).table own ≡ Ok (station_take r f).station)
      taken_alike = by (frame_means (reader_of t f) t.ap t.interval f) refl
        where
          by : (o : Placed Sent) → frame_means (reader_of t f) t.ap t.interval f ≡ o
              → (judged (take_of t f).verdict ≡ judged (station_take r f).verdict) × (station_of (take_of t f).table own ≡ Ok (station_take r f).station)
          by (Err x) e =
              let mine = station_by_lem ∙ ap station_by (sym read_as_lem ∙ e) in
              let whole = table_by_lem ∙ ap table_by e in (
                ap (λ (y : TableTaken). judged y.verdict) whole ∙ ap (λ (y : Taken). judged y.verdict) (sym mine),
                ap (λ (y : TableTaken). station_of y.table own) whole ∙ is ∙ ap (λ (y : Taken). Ok y.station) (sym mine),
              )
          by (Ok x) e =
              let mine = station_by_lem ∙ ap station_by (sym read_as_lem ∙ e) in
              let whole = table_by_lem ∙ ap table_by e in (
                ap (λ (y : TableTaken). judged y.verdict) whole ∙ ap (λ (y : Taken). judged y.verdict) (sym mine),
                ap (λ (y : TableTaken). station_of y.table own) whole ∙ heard_row x e ∙ ap (λ (y : Taken). Ok y.station) (sym mine),
              )

    -- ---- any call for the station

    pub record Concerned (c : TableCall) : Type 0 where
      pub answers : table_answers t c ≡ row_answers r c
      pub leaves : station_of (table_after t c) own ≡ Ok (row_after r c)

    -- its address is joined, so it cannot join again
    again : (a : List ℕ) (channel : ℕ) → same a own ≡ true → join_means t a channel ≡ Err (pick (join_forbids a channel) Refusal.BadStart Refusal.AlreadyJoined)
    unfolding join_means
    again a channel e =
        ⊎_elim
        (λ (y : join_forbids a channel ≡ true). sym (stop _ _ _ y) ∙ ap (λ (b : Bool). Err (pick b Refusal.BadStart Refusal.AlreadyJoined)) (sym y))
        (λ (n : join_forbids a channel ≡ false).
        sym (past _ _ _ n (stop _ _ _ (ap (λ (b : List ℕ). is_joined t b) (same_is a own e) ∙ is_joined_lem)))
        ∙ ap (λ (b : Bool). Err (pick b Refusal.BadStart Refusal.AlreadyJoined)) (sym n))
        (either (join_forbids a channel))

    -- a frame to it is read as by it
    reads : (f : List ℕ) → same (da f) own ≡ true → reader_of t f ≡ r.own
    reads f e =
        let to = same_is (da f) own e in
        reader_joined t f (ap (λ (a : List ℕ). is_joined t a) to ∙ is_joined_lem) ∙ to ∙ sym own_address

    pub concerned : (c : TableCall) → concerns own c ≡ true → (Leaves own c → ⊥) → Concerned c
    unfolding ask_means
    concerned (join a channel) e stays = clash (sym e)
    concerned (leave a) e stays = clash (sym e)
    concerned (tick n) e stays = record { answers = ap answered (ticked_answer n); leaves = ticked_row n }
    concerned (take f) e stays = let w = taken_alike f e in record { answers = w.0; leaves = w.1 }
    concerned (question a n) e stays = record {
      answers =
          ap (λ (o : Outcome Station). asked (and_then o (λ s. Ok (permission_of s n))))
          (ap (λ (b : List ℕ). station_of t b) (same_is a own e) ∙ is);
      leaves = is;
    }
    concerned (tpc f report buffer) e stays = record {
      answers = ap₂ (λ (a b : List ℕ). replied_with (tpc_reply a b report f) buffer) (reads f e) (sym sits.same_ap);
      leaves = is;
    }
    concerned (measurement f index readings buffer) e stays = record {
      answers =
          ap₂ (λ (a b : List ℕ). replied_with (measurement_reply a b t.clock index readings f) buffer) (reads f e) (sym sits.same_ap)
          ∙ ap (λ (n : ℕ). replied_with (measurement_reply r.own r.ap n index readings f) buffer) (sym sits.same_clock);
      leaves = is;
    }

    -- any other call leaves its row, its own joining again among them
    pub unconcerned : (c : TableCall) → concerns own c ≡ false → (Leaves own c → ⊥) → station_of (table_after t c) own ≡ station_of t own
    unconcerned (join a channel) e stays =
        ⊎_elim
        (λ (y : same a own ≡ true). ap (λ (o : Outcome Table). station_of (stepped t o).table own) (again a channel y))
        (λ (n : same a own ≡ false). joined_apart a channel n)
        (either (same a own))
    unconcerned (leave a) e stays =
        ⊎_elim
        (λ (y : same a own ≡ true). absurd (stays (same_is a own y)))
        (λ (n : same a own ≡ false). left_apart a n)
        (either (same a own))
    unconcerned (tick n) e stays = clash e
    unconcerned (take f) e stays = to_another f e
    unconcerned (question a n) e stays = refl
    unconcerned (tpc f report buffer) e stays = refl
    unconcerned (measurement f index readings buffer) e stays = refl
