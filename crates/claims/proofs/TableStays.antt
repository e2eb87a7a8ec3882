-- A station that joined a table and has not left: from its joining on its row is the record that its own calls make of a fresh station, and each of these calls is
-- answered by that record, whatever else is called. Assumes nothing.
use Rattle.std.specs.Prelude.{Ok, Err}
use mathlib.Core.Bool.{Bool, true, false}
use mathlib.Core.List.{List, [], ◌∷◌}
use mathlib.Core.Logic.{⊎_elim}
use mathlib.Core.Path.{◌≡◌, refl, sym, ap, ap₂, ◌∙◌}
use Prim.Native.Nat.{ℕ}
use native.Mathlib.Omega.{arith}
use borrow.Author.Tests.{not-false}
use Rattle.answer.proofs.Booleans.{either}
use Rattle.answer.proofs.Judged.{passed, kept}
use Rattle.answer.specs.Checks.{Outcome, pick}
use Rattle.row.specs.Rows.{seated, is_free}
use Rattle.station.specs.Stations.{fresh, with_clock}
use Rattle.station.specs.declared.Station.{Station}
use Rattle.table.proofs.Neighbours.{newcomer_found}
use Rattle.table.specs.Tables.{with_rows, some_row, on_first, station_of, stepped, newcomer, join_means, join_of}
use Rattle.table.specs.Validity.{ValidTable}
use Rattle.table.specs.declared.Table.{Table}
use Rattle.capture_record.specs.declared.entry.Settings.{Settings}
use Rattle.claims.specs.Histories.{clock_from, clock_after}
use Rattle.claims.specs.Records.{record_from}
use Rattle.claims.specs.Runs.{calls_of, GoesOn, Ran}
use Rattle.claims.specs.TableHistories.{concerns, made_for, advances_of, history_of, Leaves, NeverLeaves, Stay, joined_at, settings_of}
use Rattle.claims.specs.TableRuns.{TableCall, join, leave, tick, take, question, tpc, measurement, TableAnswer, answered, TableMade, started_with, table}
use Rattle.claims.proofs.RunsMeant.{Meaning, kept_after, made_of, made_after, throughout}
use Rattle.claims.proofs.TableMeans.{answered_once, table_after, table_means, does_means, ap_kept, interval_kept, clock_after_lem, starts_empty}
use Rattle.claims.proofs.TableRows.{row_after, row_answers, concerned, unconcerned}

-- ---- any run

pub record Reached (ap' : List ℕ) (b : ℕ) (ms : List TableMade) (t : Table) : Type 0 where
  pub valid : ValidTable t
  pub its_ap : t.ap ≡ ap'
  pub its_interval : t.interval ≡ b
  pub its_clock : t.clock ≡ clock_after (advances_of (calls_of ms))

-- every table that is reached is valid, and its clock is what the advances say
pub reaches : (ap' : List ℕ) (b : ℕ) (ms : List TableMade) (t : Table) → Ran table (started_with ap' b) ms t → Reached ap' b ms t
unfolding advances_of clock_from
reaches ap' b ms t (first, starts, rest) =
    let s = starts_empty ap' b first starts in
    (throughout table table_means ValidTable does_means (Reached ap' b)
    (λ ns u c v next k. record {
      valid = next;
      its_ap = ap_kept u c ∙ k.its_ap;
      its_interval = interval_kept u c ∙ k.its_interval;
      its_clock = clock_after_lem u c 0 (advances_of (calls_of ns)) k.its_clock;
    })
    s.1
    (record {
      valid = s.1;
      its_ap = ap (λ (u : Table). u.ap) s.0;
      its_interval = ap (λ (u : Table). u.interval) s.0;
      its_clock = ap (λ (u : Table). u.clock) s.0;
    })
    rest).1

-- ---- joining

module _ (t : Table) (own : List ℕ) (channel : ℕ) where
  abbrev seated_in : Table
  seated_in = with_rows t (on_first is_free (λ w. seated (newcomer t own channel)) t.rows)

  of_outcome : (o : Outcome Table) → (stepped t o).answer ≡ Ok tt → o ≡ Ok (stepped t o).table
  of_outcome (Err r) e = absurd (let z : ◌≡◌ {A = ℕ} 0 1 = cc in omega arith)
  of_outcome (Ok next) e = refl

  -- an accepted joining seats a fresh station, whatever the row held before
  pub join_seats : (join_of t own channel).answer ≡ Ok tt → station_of (join_of t own channel).table own ≡ Ok (newcomer t own channel)
  unfolding join_means
  join_seats e =
      let is = of_outcome (join_means t own channel) e in
      let first = passed _ _ _ is in
      let second = passed _ _ _ first.1 in
      let third = passed _ _ _ second.1 in
      ap (λ (u : Table). station_of u own) (sym (kept seated_in third.1))
      ∙ newcomer_found (newcomer t own channel) t.rows (not-false (some_row is_free t.rows) third.0) second.0

-- ---- from its joining on

-- a call for it means what it means to its station
abbrev pub row_means : Meaning Station TableCall TableAnswer
row_means = record { answers = row_answers; leaves = row_after }

module _ (m : ℕ) (ap' : List ℕ) (b : ℕ) (own : List ℕ) (channel : ℕ) where
  abbrev s : Settings
  s = settings_of ap' b own channel

  pub one_more : (c : TableCall) (cs : List TableCall) → row_after (record_from m s (history_of cs)) c ≡ record_from m s (history_of (c ∷ cs))
  unfolding history_of record_from
  one_more (join a n) cs = refl
  one_more (leave a) cs = refl
  one_more (tick n) cs = refl
  one_more (take f) cs = refl
  one_more (question a n) cs = refl
  one_more (tpc f report buffer) cs = refl
  one_more (measurement f index readings buffer) cs = refl

  -- the record of its calls' history is what they leave of the one at its joining
  pub recorded : (cs : List TableCall) → kept_after row_means (record_from m s []) cs ≡ record_from m s (history_of cs)
  unfolding kept_after history_of
  recorded [] = refl
  recorded (c ∷ cs) = ap (λ (r : Station). row_after r c) (recorded cs) ∙ one_more c cs

  abbrev row_of : List TableMade → Outcome Station
  row_of ms = Ok (kept_after row_means (record_from m s []) (calls_of ms))

  abbrev told_to : List TableMade → List TableMade
  told_to ms = made_after row_means (record_from m s []) (calls_of ms)

  pub record Followed (ms : List TableMade) (t : Table) : Type 0 where
    pub valid : ValidTable t
    pub row : station_of t own ≡ row_of (made_for own ms)
    pub told : made_for own ms ≡ told_to (made_for own ms)

  abbrev filtered : Bool → TableMade → List TableMade → List TableMade
  filtered b x ms = pick b (x ∷ made_for own ms) (made_for own ms)

  module _ (ms : List TableMade) (t : Table) (c : TableCall) (v : ValidTable t) (next : ValidTable (table_after t c)) (f : Followed ms t) (stays : Leaves own c → ⊥) where
    abbrev made : TableMade
    made = made_of table_means t c

    -- a call for it
    with_it : concerns own c ≡ true → Followed (made ∷ ms) (table_after t c)
    unfolding made_for kept_after made_after
    with_it y =
        let w = concerned t v own _ f.row c y stays in
        let here : made_for own (made ∷ ms) ≡ (made ∷ made_for own ms) = ap (λ (b : Bool). filtered b made ms) y in
        record {
          valid = next;
          row = w.leaves ∙ ap row_of (sym here);
          told =
              here ∙ ap₂ (λ (a : TableAnswer) (ns : List TableMade). record { call = c; answer = a } ∷ ns) w.answers f.told ∙ ap told_to (sym here);
        }

    -- another call
    without_it : concerns own c ≡ false → Followed (made ∷ ms) (table_after t c)
    unfolding made_for
    without_it n =
        let here : made_for own (made ∷ ms) ≡ made_for own ms = ap (λ (b : Bool). filtered b made ms) n in
        record {
          valid = next;
          row = unconcerned t v own _ f.row c n stays ∙ f.row ∙ ap row_of (sym here);
          told = here ∙ f.told ∙ ap told_to (sym here);
        }

    followed_on : Followed (made ∷ ms) (table_after t c)
    followed_on = ⊎_elim with_it without_it (either (concerns own c))

  pub follows : (first : Table) → Followed [] first → (ms : List TableMade) (t : Table) → GoesOn table first ms t → NeverLeaves own ms → Followed ms t
  unfolding NeverLeaves
  follows first f ms t rest =
      (throughout table table_means ValidTable does_means (λ ns u. NeverLeaves own ns → Followed ns u)
      (λ ns u c v next k stays. followed_on ns u c v next (k stays.1) stays.0) f.valid (λ stays. f) rest).1

module _ (ap' : List ℕ) (b : ℕ) (own : List ℕ) (channel : ℕ) (before after : List TableMade) (t : Table) (stay : Stay ap' b own channel before after t) where
  at_joining : Followed (joined_at before) ap' b own channel [] stay.joined
  unfolding made_for history_of record_from kept_after made_after
  at_joining =
      let r = reaches ap' b before stay.joining stay.ran in
      let e = does_means stay.joining (join own channel) (answered (Ok tt)) stay.joined r.valid stay.joins in
      record {
        valid = e.valid;
        row =
            ap (λ (u : Table). station_of u own) e.leaves ∙ join_seats stay.joining own channel (answered_once (sym e.answers))
            ∙ ap₂ (λ (a : List ℕ) (n : ℕ). Ok (with_clock (fresh own a n channel) stay.joining.clock)) r.its_ap r.its_interval
            ∙ ap (λ (n : ℕ). Ok (with_clock (fresh own ap' b channel) n)) r.its_clock;
        told = refl;
      }

  -- its row is the record of its own calls, and its answers are that record's
  pub followed : Followed (joined_at before) ap' b own channel after t
  followed = follows (joined_at before) ap' b own channel stay.joined at_joining after t stay.goes_on stay.never_leaves
