-- Demand 3 for each station of a table, "from its joining" (02, Six): whatever calls were made of the table, its row is the record that the history of its own calls speaks of,
-- which begins at the clock of its joining, and each question is answered as that history says. Assumes nothing.
use Rattle.std.specs.Prelude.{Ok, Err}
use mathlib.Core.Bool.{Bool, true, false, ◌||◌}
use mathlib.Core.List.{List, [], ◌∷◌}
use mathlib.Core.Logic.{◌↔◌, ⊎_elim}
use mathlib.Core.Path.{◌≡◌, refl, sym, ap, ap₂, ◌∙◌, subst}
use Prim.Native.Nat.{ℕ, ◌≤◌}
use Rattle.answer.proofs.Booleans.{clash, either, neither}
use Rattle.answer.specs.Checks.{pick, and_then, Answer}
use Rattle.answer.specs.Faults.{Placed, Verdict}
use Rattle.frame.specs.Frames.{Sent, frame_means}
use Rattle.header.proofs.Addresses.{same_self}
use Rattle.header.specs.Headers.{same, da, to_all}
use Rattle.station.specs.Asking.{permission_number, permission_of}
use Rattle.station.specs.Stations.{fresh, with_clock}
use Rattle.station.specs.Taking.{heard, taken, take_means, take_of}
use Rattle.station.specs.Validity.{Valid}
use Rattle.station.specs.declared.Station.{Station}
use Rattle.station.specs.declared.asking.Permission.{Permission}
use Rattle.table.proofs.Readers.{reached}
use Rattle.table.specs.Tables.{station_of}
use Rattle.table.specs.declared.Table.{Table}
use Rattle.capture_record.specs.declared.entry.Settings.{Settings}
use Rattle.claims.specs.Histories.{Call, History, listener_from}
use Rattle.claims.specs.OpenUnits.{AllOpen, Applies}
use Rattle.claims.specs.Records.{record_from, AgreesFrom}
use Rattle.claims.specs.Runs.{Made, calls_of, no_calls, Ran}
use Rattle.claims.specs.StationRuns.{Said, Takes, Advances, Asks, station}
use Rattle.claims.specs.TableHistories.{concerns, made_for, calls_for, history_of, history_for, NeverLeaves, Stay, joined_at, settings_of}
use Rattle.claims.specs.TableRuns.{TableCall, join, leave, tick, take, question, tpc, measurement, TableAnswer, answered, judged, asked, TableMade, started_with, Does, table}
use Rattle.claims.proofs.Agreement.{agrees_from}
use Rattle.claims.proofs.Asked.{answered_from, granted_from}
use Rattle.claims.proofs.Demand3.{arrives}
use Rattle.claims.proofs.OneRecord.{one_record_from}
use Rattle.claims.proofs.Same.{accepted_once}
use Rattle.claims.proofs.StationMeans.{takes_means, advances_means, asks_means}
use Rattle.claims.proofs.TableMeans.{answered_once, does_means}
use Rattle.claims.proofs.TableRows.{row_after, sits, concerned}
use Rattle.claims.proofs.TableStays.{reaches, one_more, recorded, followed}

asked_once : {p q : Permission} → asked (Ok p) ≡ asked (Ok q) → p ≡ q
asked_once {p} {q} e = cc

judged_once : {v w : Verdict} → judged v ≡ judged w → v ≡ w
judged_once {v} {w} e = cc

module _ (ap' : List ℕ) (b : ℕ) (own : List ℕ) (channel : ℕ) (before after : List TableMade) (t : Table) (stay : Stay ap' b own channel before after t) where
  abbrev s : Settings
  s = settings_of ap' b own channel

  abbrev h : History
  h = history_for own after

  abbrev begins : ℕ
  begins = joined_at before

  -- the row's station is the record of its history, and valid
  pub row_arrives : station_of t own ≡ Ok (record_from begins s h)
  row_arrives = (followed ap' b own channel before after t stay).row ∙ ap Ok (recorded begins ap' b own channel (calls_for own after))

  pub row_valid : Valid (record_from begins s h)
  row_valid = (sits t (followed ap' b own channel before after t stay).valid own (record_from begins s h) row_arrives).valid

  interval_positive : 1 ≤ b
  interval_positive =
      let r = reaches ap' b before stay.joining stay.ran in
      subst (λ (n : ℕ). 1 ≤ n) r.its_interval r.valid.interval_positive

  -- every field of it is what the history says, and only one valid record agrees with the history
  pub row_agrees : (r : Station) → station_of t own ≡ Ok r → AgreesFrom begins s h r
  row_agrees r e = subst (AgreesFrom begins s h) (accepted_once (sym row_arrives ∙ e)) (agrees_from begins s interval_positive h)

  pub one_row : (r : Station) → Valid r → AgreesFrom begins s h r → station_of t own ≡ Ok r
  one_row r v agrees =
      row_arrives ∙ ap Ok (one_record_from begins s interval_positive h (record_from begins s h) r row_valid v (agrees_from begins s interval_positive h) agrees)

  -- a question for it is answered by its station
  pub answers_question : (n : ℕ) (x : TableAnswer) (next : Table) → Does t (question own n) x next → x ≡ asked (Ok (permission_of (record_from begins s h) n))
  answers_question n x next does =
      let f = followed ap' b own channel before after t stay in
      (does_means t (question own n) x next f.valid does).answers
      ∙ (concerned t f.valid own (record_from begins s h) row_arrives (question own n) (same_self own) (λ e. e)).answers

  module _ (n : ℕ) (p : Permission) (next : Table) (does : Does t (question own n) (asked (Ok p)) next) where
    answer_is : p ≡ permission_of (record_from begins s h) n
    answer_is = asked_once (answers_question n (asked (Ok p)) next does)

    -- each of the answers is given exactly where the history says so
    pub row_asked : (q : Permission) → (p ≡ q) ↔ Applies (listener_from begins s) h n q
    row_asked q =
        let w = answered_from begins s interval_positive h n q in
        (λ e. w.0 (sym answer_is ∙ e), λ y. answer_is ∙ w.1 y)

    -- a question to send for 1 to 65,535 TU is granted exactly if each unit that it would cover is open
    pub row_granted : 1 ≤ n → n ≤ 65535 → (permission_number p ≡ 0) ↔ AllOpen (listener_from begins s) h n
    row_granted lo hi =
        let w = granted_from begins s interval_positive h n lo hi in
        let same = ap permission_number answer_is in
        (λ e. w.0 (sym same ∙ e), λ o. same ∙ w.1 o)

-- ---- what document 01's station makes of the calls for others: frames that do not reach it are refused

not_reached : (r : Station) (own f : List ℕ) → r.own ≡ own → (to_all f || same (da f) own) ≡ false → (take_of r f).station ≡ r
unfolding take_means
not_reached r own f is n = by (frame_means r.own r.ap r.interval f) refl
  where
    off : (to_all f ≡ false) × (same (da f) own ≡ false)
    off = neither (to_all f) (same (da f) own) n

    by : (o : Placed Sent) → frame_means r.own r.ap r.interval f ≡ o → (taken r (and_then o (λ x. Ok (heard r x.kind)))).station ≡ r
    by (Err x) e = refl
    by (Ok x) e =
        clash
        (sym (reached r.own r.ap r.interval f x e) ∙ ap (λ (a : List ℕ). same (da f) a || to_all f) is ∙ ap₂ (λ (y z : Bool). y || z) off.1 off.0)

module _ (ap' : List ℕ) (b : ℕ) (pos : 1 ≤ b) (own : List ℕ) (channel m : ℕ) where
  abbrev record_of : List TableMade → Station
  record_of ms = record_from m (settings_of ap' b own channel) (history_of (calls_of ms))

  unconcerned_call : (c : TableCall) (h : History) → concerns own c ≡ false → row_after (record_from m (settings_of ap' b own channel) h) c ≡ record_from m (settings_of ap' b own channel) h
  unconcerned_call (join a n) h e = refl
  unconcerned_call (leave a) h e = refl
  unconcerned_call (tick n) h e = clash e
  unconcerned_call (take f) h e = not_reached _ own f (agrees_from m (settings_of ap' b own channel) pos h).same_own e
  unconcerned_call (question a n) h e = refl
  unconcerned_call (tpc f report buffer) h e = refl
  unconcerned_call (measurement f index readings buffer) h e = refl

  -- so it has the same record after all the calls of the table
  pub others_nothing : (ms : List TableMade) → record_of ms ≡ record_of (made_for own ms)
  unfolding made_for
  others_nothing [] = refl
  others_nothing (x ∷ ms) =
      sym (one_more m ap' b own channel x.call (calls_of ms))
      ∙ ⊎_elim
      (λ (y : concerns own x.call ≡ true).
      ap (λ (r : Station). row_after r x.call) (others_nothing ms) ∙ one_more m ap' b own channel x.call (calls_of (made_for own ms))
      ∙ ap (λ (c : Bool). record_of (pick c (x ∷ made_for own ms) (made_for own ms))) (sym y))
      (λ (n : concerns own x.call ≡ false).
      unconcerned_call x.call (history_of (calls_of ms)) n ∙ others_nothing ms
      ∙ ap (λ (c : Bool). record_of (pick c (x ∷ made_for own ms) (made_for own ms))) (sym n))
      (either (concerns own x.call))

-- ---- a station that is joined from moment 0 on, whoever else is joined: its row is document 01's station after the same calls, and its answers are those of that station's own
-- functions

module _
    (ap' : List ℕ)
    (b : ℕ)
    (own : List ℕ)
    (channel : ℕ)
    (before after : List TableMade)
    (t : Table)
    (stay : Stay ap' b own channel before after t)
    (at_start : joined_at before ≡ 0)
    (ms : List (Made Call Said))
    (r : Station)
    (ran : Ran station (settings_of ap' b own channel) ms r)
    (same-calls : calls_of ms ≡ history_of (calls_of after))
  where
    pub same_as_one : station_of t own ≡ Ok r
    same_as_one =
        row_arrives ap' b own channel before after t stay
        ∙ ap (λ (m : ℕ). Ok (record_from m (settings_of ap' b own channel) (history_for own after))) at_start
        ∙ ap Ok (sym (others_nothing ap' b (interval_positive ap' b own channel before after t stay) own channel 0 after))
        ∙ ap (λ (h : History). Ok (record_from 0 (settings_of ap' b own channel) h)) (sym same-calls)
        ∙ ap Ok (sym (arrives (settings_of ap' b own channel) ms r ran).0)

    pub same_verdict : (f : List ℕ) → (to_all f || same (da f) own) ≡ true → (v w : Verdict) (next : Table) (left : Station)
        → Does t (take f) (judged v) next → Takes r f w left → v ≡ w
    same_verdict f reaches v w next left does takes =
        let k = followed ap' b own channel before after t stay in
        judged_once ((does_means t (take f) (judged v) next k.valid does).answers ∙ (concerned t k.valid own r same_as_one (take f) reaches (λ y. y)).answers)
        ∙ sym (takes_means takes).0

    pub same_step : (n : ℕ) (v w : Answer) (next : Table) (left : Station) → Does t (tick n) (answered v) next → Advances r n w left → v ≡ w
    same_step n v w next left does advances =
        let k = followed ap' b own channel before after t stay in
        answered_once ((does_means t (tick n) (answered v) next k.valid does).answers ∙ (concerned t k.valid own r same_as_one (tick n) refl (λ y. y)).answers)
        ∙ sym (advances_means advances).0

    pub same_permission : (n : ℕ) (p q : Permission) (next : Table) → Does t (question own n) (asked (Ok p)) next → Asks r n q → p ≡ q
    same_permission n p q next does asks =
        let k = followed ap' b own channel before after t stay in
        asked_once
        ((does_means t (question own n) (asked (Ok p)) next k.valid does).answers
        ∙ (concerned t k.valid own r same_as_one (question own n) (same_self own) (λ y. y)).answers)
        ∙ sym (asks_means asks)

-- ---- joining, after leaving too: whatever the calls before were, the station is fresh, at the present clock, on the channel named

pub fresh_at_joining : (ap' : List ℕ) (b : ℕ) (own : List ℕ) (channel : ℕ) (before : List TableMade) (t next : Table) → Ran table (started_with ap' b) before t
    → Does t (join own channel) (answered (Ok tt)) next → station_of next own ≡ Ok (with_clock (fresh own ap' b channel) (joined_at before))
unfolding made_for history_of record_from NeverLeaves
fresh_at_joining ap' b own channel before t next ran does =
    row_arrives ap' b own channel before [] next (record { joining = t; ran = ran; joined = next; joins = does; goes_on = no_calls; never_leaves = tt })
