-- What a table answers by who is joined (02, Six): to a start, to a tick, to a frame and to a frame that a reply is asked for. Assumes nothing.
use Rattle.std.specs.Prelude.{Ok, Err}
use mathlib.Core.Bool.{Bool, true, false, not, ◌||◌}
use mathlib.Core.List.{List, []}
use mathlib.Core.Logic.{⊎_elim}
use mathlib.Core.Path.{◌≡◌, refl, sym, ap, ap₂, ◌∙◌}
use Prim.Native.Nat.{ℕ, ◌≤◌}
use borrow.Author.Tests.{le-ltb}
use lib.Dec.{eqb}
use Rattle.answer.proofs.Booleans.{either}
use Rattle.answer.specs.Checks.{Outcome, pick, and_then, checked, answer_of}
use Rattle.answer.specs.Faults.{Placed, fault_nowhere, nowhere, placed_past, verdict_of}
use Rattle.answer.specs.declared.Refusal.{Refusal}
use Rattle.channel.specs.Centres.{highest}
use Rattle.element.specs.declared.tpc_report.TpcReport.{TpcReport}
use Rattle.frame.specs.Frames.{Sent, kind_of, sent, frame_means}
use Rattle.header.proofs.Addresses.{same_self}
use Rattle.header.specs.Headers.{header_length, body_of, same, da, bssid, to_all, foreign_sender, foreign_address, management_means, address_means, header_means}
use Rattle.header.specs.declared.Head.{Head}
use Rattle.header.specs.declared.address.Cell.{Cell}
use Rattle.header.specs.declared.management.Subtype.{Subtype}
use Rattle.measured_report.specs.declared.Readings.{Readings}
use Rattle.octets.specs.Numbers.{bit, octet}
use Rattle.reply.specs.Due.{after_header, due_in}
use Rattle.reply.specs.Replies.{owed_to, tpc_answer_to, measurement_answer_to, tpc_reply_in, measurement_reply_in}
use Rattle.station.specs.Stations.{fresh}
use Rattle.station.specs.Starting.{start_forbids as station_forbids, start_means as station_starts}
use Rattle.table.proofs.Readers.{reader_joined, reader_else, read_alike}
use Rattle.table.specs.Tables.{with_rows, is_joined, stepped, empty, start_forbids, start_means, ticked_table, tick_means, heard_rows, reader_of, take_means, taken}
use Rattle.table.specs.Validity.{ValidTable}
use Rattle.table.specs.declared.Table.{Table}
use Rattle.claims.specs.Histories.{too_far}
use Rattle.claims.specs.Joinings.{joined_in, tick_answer, OnlyJoined}
use Rattle.claims.specs.Runs.{Ran}
use Rattle.claims.specs.TableRuns.{tick, take, tpc, measurement, TableAnswer, answered, judged, replied, TableMade, started_with, TableStartGives, Does, table}
use Rattle.claims.proofs.TableMeans.{replied_with, does_means}
use Rattle.claims.proofs.TableStays.{reaches}
use Rattle.claims.proofs.WhoIsJoined.{joined_exactly}

-- ---- a start is refused exactly where document 01's is, whatever individual address and channel up to 200 the station has

same_start : (own ap' : List ℕ) (b channel : ℕ) → bit 0 (octet 0 own) ≡ false → channel ≤ highest → start_forbids ap' b ≡ station_forbids own ap' b channel
same_start own ap' b channel single known =
    ap₂ (λ (x y : Bool). eqb b 0 || (x || (y || bit 0 (octet 0 ap')))) (sym (le-ltb highest channel known)) (sym single)

pub start_exactly : (ap' own : List ℕ) (b channel : ℕ) (o : Outcome Table) → bit 0 (octet 0 own) ≡ false → channel ≤ highest
    → TableStartGives (started_with ap' b) o → answer_of o ≡ answer_of (station_starts own ap' b channel)
unfolding start_means station_starts checked
start_exactly ap' own b channel o single known (κs, a, x, e, promise, (address, interval, told)) =
    let mine : x ≡ start_means ap' b = rw (← address, ← interval) promise.0 in
    ap answer_of (sym told ∙ mine) ∙ by (start_forbids ap' b)
    ∙ ap (λ (bad : Bool). answer_of {A = Unit {0}} (pick bad (Err Refusal.BadStart) (Ok tt))) (same_start own ap' b channel single known) ∙ by_station (station_forbids own ap' b channel)
  where
    by : (bad : Bool) → answer_of (pick bad (Err Refusal.BadStart) (Ok (empty ap' b))) ≡ answer_of {A = Unit {0}} (pick bad (Err Refusal.BadStart) (Ok tt))
    by true = refl
    by false = refl

    by_station : (bad : Bool) → answer_of {A = Unit {0}} (pick bad (Err Refusal.BadStart) (Ok tt)) ≡ answer_of (pick bad (Err Refusal.BadStart) (Ok (fresh own ap' b channel)))
    by_station true = refl
    by_station false = refl

-- ---- a header that names no station

foreign_head : (ap' f own : List ℕ) → same (da f) own ≡ false → to_all f ≡ false → (s : Subtype) → management_means f ≡ Ok s → header_means Cell.Ap own ap' f ≡ Err Refusal.ForeignAddress
unfolding header_means address_means foreign_address checked
foreign_head ap' f own other alone s sound =
    ap (λ (o : Outcome Subtype). and_then o (λ x. and_then (address_means Cell.Ap own ap' f) (λ a. Ok (record { subtype = x; to_all = a })))) sound
    ∙ ap (λ (c : Bool). and_then {A = Bool} (pick c (Err Refusal.ForeignAddress) (Ok (to_all f))) (λ a. Ok (record { subtype = s; to_all = a })))
    (by (foreign_sender Cell.Ap ap' f) (not (same (bssid f) ap')) (same (da f) own) (to_all f) other alone)
  where
    by : (x y z w : Bool) → z ≡ false → w ≡ false → (x || (y || not (z || w))) ≡ true
    by true y z w e g = refl
    by false true z w e g = refl
    by false false z w e g = ap₂ (λ (c d : Bool). not (c || d)) e g

-- ---- a run

module _ (ap' : List ℕ) (b : ℕ) (ms : List TableMade) (t : Table) (ran : Ran table (started_with ap' b) ms t) where
  valid : ValidTable t
  valid = (reaches ap' b ms t ran).valid

  joined_as : (own : List ℕ) → is_joined t own ≡ joined_in own ms
  joined_as own = joined_exactly ap' b ms t ran own

  -- 14 by the advances alone, whether anybody is joined or not
  pub tick_exactly : (n : ℕ) (r : TableAnswer) (next : Table) → Does t (tick n) r next → r ≡ answered (tick_answer ms n)
  unfolding tick_means checked
  tick_exactly n r next does =
      (does_means t (tick n) r next valid does).answers
      ∙ ap answered (by (too_far t.clock n) ∙ ap (λ (c : ℕ). pick (too_far c n) (Err Refusal.PastClock) (Ok tt)) (reaches ap' b ms t ran).its_clock)
    where
      by : (far : Bool) → (stepped t (pick far (Err Refusal.PastClock) (Ok (ticked_table t n)))).answer ≡ pick far (Err Refusal.PastClock) (Ok tt)
      by true = refl
      by false = refl

  -- ---- a frame is judged as by document 01's station, of any address that it reaches exactly if it reaches some row or all ones

  pub take_exactly : (f : List ℕ) (r : TableAnswer) (next : Table) → Does t (take f) r next
      → (own : List ℕ) → (same (da f) own || to_all f) ≡ (joined_in (da f) ms || to_all f) → r ≡ judged (verdict_of (frame_means own ap' b f))
  unfolding take_means to_all
  take_exactly f r next does own alike =
      (does_means t (take f) r next valid does).answers ∙ ap judged (by (frame_means (reader_of t f) t.ap t.interval f) ∙ ap verdict_of read)
    where
      by : (o : Placed Sent) → (taken t (and_then o (λ x. Ok (with_rows t (heard_rows f x t.rows))))).verdict ≡ verdict_of o
      by (Err x) = refl
      by (Ok x) = refl

      reader : (same (da f) (reader_of t f) || to_all f) ≡ (is_joined t (da f) || to_all f)
      reader =
          ⊎_elim
          (λ (y : is_joined t (da f) ≡ true). ap (λ (b : Bool). b || to_all f) (ap (same (da f)) (reader_joined t f y) ∙ same_self (da f) ∙ sym y))
          (λ (n : is_joined t (da f) ≡ false). ap (λ (a : List ℕ). same (da f) a || to_all f) (reader_else t f n) ∙ once (to_all f) ∙ ap (λ (b : Bool). b || to_all f) (sym n))
          (either (is_joined t (da f)))
        where
          once : (x : Bool) → (x || x) ≡ (false || x)
          once true = refl
          once false = refl

      read : frame_means (reader_of t f) t.ap t.interval f ≡ frame_means own ap' b f
      read =
          let k = reaches ap' b ms t ran in
          ap₂ (λ (a : List ℕ) (n : ℕ). frame_means (reader_of t f) a n f) k.its_ap k.its_interval
          ∙ read_alike ap' f b (reader_of t f) own (reader ∙ ap (λ (x : Bool). x || to_all f) (joined_as (da f)) ∙ sym alike)

  -- to all ones: as by any station, also where nobody is joined
  pub all_ones_judged : (f : List ℕ) (r : TableAnswer) (next : Table) → Does t (take f) r next → to_all f ≡ true → (own : List ℕ) → r ≡ judged (verdict_of (frame_means own ap' b f))
  all_ones_judged f r next does all own = take_exactly f r next does own (ap (λ (y : Bool). same (da f) own || y) all ∙ stop (same (da f) own) (joined_in (da f) ms) ∙ ap (λ (y : Bool). joined_in (da f) ms || y) (sym all))
    where
      stop : (x y : Bool) → (x || true) ≡ (y || true)
      stop true true = refl
      stop true false = refl
      stop false true = refl
      stop false false = refl

  -- where one station alone is joined, every frame as by it
  pub only_judged : (f : List ℕ) (r : TableAnswer) (next : Table) → Does t (take f) r next → (own : List ℕ) → OnlyJoined own ms → r ≡ judged (verdict_of (frame_means own ap' b f))
  only_judged f r next does own only = take_exactly f r next does own (ap (λ (x : Bool). x || to_all f) (sym (only (da f))))

  -- "and is 4 where that address is not joined": of a frame that is none of 1 to 3
  module _ (f : List ℕ) (alone : to_all f ≡ false) (none : joined_in (da f) ms ≡ false) (s : Subtype) (sound : management_means f ≡ Ok s) where
    pub stranger_refused : (r : TableAnswer) (next : Table) → Does t (take f) r next → r ≡ judged (Err (fault_nowhere Refusal.ForeignAddress))
    unfolding frame_means
    stranger_refused r next does =
        take_exactly f r next does [] (ap (λ (c : Bool). c || to_all f) (sym none))
        ∙ ap (λ (o : Outcome Head). judged (verdict_of (and_then (nowhere o) (λ h. sent h.to_all (placed_past header_length (kind_of b h.subtype (body_of f)))))))
        (foreign_head ap' f [] refl alone s sound)

    reader_head : header_means Cell.Ap (reader_of t f) t.ap f ≡ Err Refusal.ForeignAddress
    unfolding to_all
    reader_head = foreign_head t.ap f (reader_of t f) (ap (same (da f)) (reader_else t f (joined_as (da f) ∙ none)) ∙ alone) alone s sound

    -- nor is a reply made to it: the buffer stays as it was
    pub stranger_unanswered : (report : TpcReport) (buffer : List ℕ) (r : TableAnswer) (next : Table) → Does t (tpc f report buffer) r next
        → r ≡ replied (Err Refusal.ForeignAddress) buffer
    unfolding tpc_reply_in due_in
    stranger_unanswered report buffer r next does =
        (does_means t (tpc f report buffer) r next valid does).answers
        ∙ ap (λ (o : Outcome Head). replied_with (and_then (and_then o (after_header f)) (owed_to (reader_of t f) t.ap t.ap (tpc_answer_to (reader_of t f) t.ap t.ap report))) buffer) reader_head

    pub stranger_unmeasured : (index : ℕ) (readings : Readings) (buffer : List ℕ) (r : TableAnswer) (next : Table) → Does t (measurement f index readings buffer) r next
        → r ≡ replied (Err Refusal.ForeignAddress) buffer
    unfolding measurement_reply_in due_in
    stranger_unmeasured index readings buffer r next does =
        (does_means t (measurement f index readings buffer) r next valid does).answers
        ∙ ap (λ (o : Outcome Head). replied_with (and_then (and_then o (after_header f)) (owed_to (reader_of t f) t.ap t.ap (measurement_answer_to (reader_of t f) t.ap t.ap t.clock index readings))) buffer) reader_head
