-- Each line of a file's list is what the history of the station that it belongs to says (00, demand 3; 01, "Capture blocks and the evening list").
-- Assumes nothing.
use Rattle.std.specs.Prelude.{Ok, Err, Some, None}
use mathlib.Core.Bool.{Bool, true, false}
use mathlib.Core.List.{List, [], ◌∷◌, ◌++◌, append-nil}
use mathlib.Core.Logic.{inl, inr}
use mathlib.Core.Path.{◌≡◌, refl, sym, ap, ap₂, ◌∙◌, subst}
use Prim.Native.Nat.{ℕ, ◌+◌, ◌≤◌}
use native.Mathlib.Omega.{arith}
use borrow.Author.Tests.{eqb-false}
use lib.Dec.{eqb}
use lib.ListN.{length, length-append}
use Rattle.answer.proofs.Booleans.{neither}
use Rattle.answer.specs.Checks.{Outcome, pick, checked, and_then}
use Rattle.answer.specs.Faults.{Placed, verdict_offset, Verdict}
use Rattle.answer.specs.Numbers.{answer_number, verdict_number}
use Rattle.answer.specs.declared.Refusal.{Refusal}
use Rattle.capture.specs.Lists as Lists
use Rattle.block.specs.Blocks.{used_length, is_damaged, used_part, block_means}
use Rattle.capture.specs.Listers.{fresh, one_block_more}
use Rattle.capture.specs.Lists.{Told, line, before, started, stepped, no_station, bad_record, noted, is_malformed, recorded, damaged_told, judged, block_told, blocks_in, blocks_told, list_of}
use Rattle.capture.specs.declared.lister.Lister.{Lister}
use Rattle.capture.specs.declared.response.Response.{Response}
use Rattle.frame.specs.Frames.{frame_means}
use Rattle.capture_record.specs.Entries.{Noted, malformed, starting, advancing, hearing, asking, entry_means}
use Rattle.capture_record.specs.Records.{Records, end, cut, more, records_in}
use Rattle.station.specs.Asking.{permission_number, permission_of}
use Rattle.station.specs.Clock.{clock_advance, advance_means, advance_of}
use Rattle.station.specs.Clock as Clock
use Rattle.station.specs.Starting.{start_forbids, start_means}
use Rattle.station.specs.Stations as Stations
use Rattle.station.specs.Taking.{taken, take_means, take_of}
use Rattle.station.specs.declared.Station.{Station}
use Rattle.station.specs.declared.clock.Advanced.{Advanced}
use Rattle.pen.specs.Lines.{line_of, closing_of}
use Rattle.pen.specs.declared.words.Word.{Word}
use Rattle.capture_record.specs.declared.entry.Settings.{Settings}
use Rattle.claims.specs.Histories.{History, too_far}
use Rattle.claims.specs.HistoryLines.{Followed, nobody, since, refuses_start, followed_after, says, says_frame, Tells, TellsRecords, TellsBlock, TellsBlocks, ToldByHistories}
use Rattle.claims.specs.Numbered.{Said, numbered_from}
use Rattle.claims.specs.Records.{record_from, record_after, Agrees}
use Rattle.claims.proofs.Agreement.{agrees}
use Rattle.claims.proofs.Asked.{answered_from}
use Rattle.claims.proofs.ListedFiles.{numbered_append, blocks_counted}

-- the lister follows the station of this history, or none
Matches : Lister → Followed → Type 0
Matches l nobody = l.active ≡ false
Matches l (since s h) = (l.active ≡ true) × (l.station ≡ record_after s h) × (1 ≤ s.interval)

-- ---- what the calls answer

start_refused : (own ap' : List ℕ) (b channel : ℕ) → start_forbids own ap' b channel ≡ true → start_means own ap' b channel ≡ Err Refusal.BadStart
unfolding start_means checked
start_refused own ap' b channel e = simp e

start_accepted : (own ap' : List ℕ) (b channel : ℕ) → start_forbids own ap' b channel ≡ false → start_means own ap' b channel ≡ Ok (Stations.fresh own ap' b channel)
unfolding start_means checked
start_accepted own ap' b channel e = simp e

interval_positive : (own ap' : List ℕ) (b channel : ℕ) → start_forbids own ap' b channel ≡ false → 1 ≤ b
interval_positive own ap' b channel e = let w = eqb-false b 0 (neither (eqb b 0) _ e).0 in omega (arith, w)

advance_number : (r : Station) (n : ℕ) → answer_number (advance_of r n).answer ≡ pick (too_far r.clock n) 14 0
unfolding advance_means clock_advance checked
advance_number r n = by_test_lem (too_far r.clock n)
  where
    goes_on : Advanced
    goes_on = Clock.reached (r.clock + n) r.pending

    by_test_lem : (far : Bool)
        → answer_number (Clock.stepped r (and_then (pick far (Err Refusal.PastClock) (Ok goes_on)) (λ a. Ok (Clock.advanced_to r a)))).answer ≡ pick far 14 0
    by_test_lem true = refl
    by_test_lem false = refl

-- what the line of a frame says
abbrev verdict_said : Verdict → Said
verdict_said v = record { word = Word.Frame; answer = verdict_number v; offset = verdict_offset v }

take_said : (r : Station) (f : List ℕ) → verdict_said (take_of r f).verdict ≡ says_frame (frame_means r.own r.ap r.interval f)
unfolding take_means
take_said r f = by_outcome (frame_means r.own r.ap r.interval f) _
  where
    by_outcome : {A : Type 0} (o : Placed A) (next : A → Station) → verdict_said (taken r (and_then o (λ a. Ok (next a)))).verdict ≡ says_frame o
    by_outcome (Err x) next = refl
    by_outcome (Ok a) next = refl

-- ---- a record

-- one line, which is what the history says, and who is followed after it
record One (l : Lister) (x : Followed) (e : Noted) (t : Told) : Type 0 where
  said : Said
  tells : Tells e x said
  text : t.text ≡ line_of (l.lines + 1) said.word said.answer said.offset
  line_count : t.lister.lines ≡ l.lines + 1
  keeps : Matches t.lister (followed_after e x)

one_malformed : (l : Lister) (x : Followed) → One l x malformed (bad_record l)
unfolding Matches
one_malformed l x = record { said = says Word.Record 20; tells = refl; text = refl; line_count = refl; keeps = refl }

module _ (l : Lister) (x : Followed) (s : Settings) where
  one_start : (o : Outcome Station) (forbidden : Bool)
      → refuses_start s ≡ forbidden
      → (forbidden ≡ true → o ≡ Err Refusal.BadStart)
      → (forbidden ≡ false → o ≡ Ok (Stations.fresh s.own s.ap s.interval s.channel))
      → One l x (starting s) (started l o)
  unfolding Matches record_from
  one_start o true f refuses starts =
      subst (λ (p : Outcome Station). One l x (starting s) (started l p)) (sym (refuses refl))
      (record {
        said = says Word.Start 15;
        tells = ap (λ (b : Bool). says Word.Start (pick b 15 0)) (sym f);
        text = refl;
        line_count = refl;
        keeps = subst (λ (b : Bool). Matches (started l (Err Refusal.BadStart)).lister (pick b nobody (since s []))) (sym f) refl;
      })
  one_start o false f refuses starts =
      subst (λ (p : Outcome Station). One l x (starting s) (started l p)) (sym (starts refl))
      (record {
        said = says Word.Start 0;
        tells = ap (λ (b : Bool). says Word.Start (pick b 15 0)) (sym f);
        text = refl;
        line_count = refl;
        keeps =
            subst (λ (b : Bool). Matches (started l (Ok (Stations.fresh s.own s.ap s.interval s.channel))).lister (pick b nobody (since s []))) (sym f)
            (refl, refl, interval_positive s.own s.ap s.interval s.channel f);
      })

-- with nobody followed, a record is 19
one_unstarted : (l : Lister) (e : Noted) (word : Word) → Tells e nobody (says word 19) → l.active ≡ false → followed_after e nobody ≡ nobody → One l nobody e (no_station l word)
unfolding Matches
one_unstarted l e word tells idle stays =
    record { said = says word 19; tells = tells; text = refl; line_count = refl; keeps = subst (Matches (no_station l word).lister) (sym stays) idle }

-- the test of whether a station is followed
chosen : (l : Lister) (x : Followed) (e : Noted) (b : Bool) (t u : Told) → l.active ≡ b → One l x e (pick b t u) → One l x e (pick l.active t u)
chosen l x e b t u same w = subst (λ (c : Bool). One l x e (pick c t u)) (sym same) w

module _ (l : Lister) (s : Settings) (h : History) (active : l.active ≡ true) (same : l.station ≡ record_after s h) (positive : 1 ≤ s.interval) where
  agreed : Agrees s h l.station
  agreed = subst (Agrees s h) (sym same) (agrees s positive h)

  one_advance : (n : ℕ) → One l (since s h) (advancing n) (stepped l (advance_of l.station n))
  unfolding Matches record_from
  one_advance n =
      record {
        said = says Word.Advance (answer_number (advance_of l.station n).answer);
        tells = ap (says Word.Advance) (advance_number l.station n ∙ ap (λ (t : ℕ). pick (too_far t n) 14 0) agreed.as_heard.same_clock);
        text = refl;
        line_count = refl;
        keeps = (refl, ap (λ (r : Station). (advance_of r n).station) same, positive);
      }

  one_frame : (f : List ℕ) → One l (since s h) (hearing f) (Lists.taken l (take_of l.station f))
  unfolding Matches record_from
  one_frame f =
      let settled : frame_means l.station.own l.station.ap l.station.interval f ≡ frame_means s.own s.ap s.interval f = rw (agreed.same_own, agreed.same_ap, agreed.as_heard.same_interval) in
      record {
        said = verdict_said (take_of l.station f).verdict;
        tells = take_said l.station f ∙ ap says_frame settled;
        text = refl;
        line_count = refl;
        keeps = (refl, ap (λ (r : Station). (take_of r f).station) same, positive);
      }

  one_ask : (n : ℕ) → One l (since s h) (asking n) (line l Word.Ask (Response.Question (permission_of l.station n)))
  unfolding Matches record_from
  one_ask n =
      record {
        said = says Word.Ask (permission_number (permission_of l.station n));
        tells = (permission_of l.station n, (answered_from 0 s positive h n (permission_of l.station n)).0 (ap (λ (r : Station). permission_of r n) (sym same)), refl);
        text = refl;
        line_count = refl;
        keeps = (active, same, positive);
      }

one : (l : Lister) (x : Followed) (e : Noted) → Matches l x → One l x e (noted l e)
unfolding noted Matches
one l x malformed m = one_malformed l x
one l x (starting s) m =
    one_start l x s _ (refuses_start s) refl (start_refused s.own s.ap s.interval s.channel) (start_accepted s.own s.ap s.interval s.channel)
one l nobody (advancing n) m = chosen l nobody (advancing n) false _ _ m (one_unstarted l (advancing n) Word.Advance refl m refl)
one l nobody (hearing f) m = chosen l nobody (hearing f) false _ _ m (one_unstarted l (hearing f) Word.Frame refl m refl)
one l nobody (asking n) m = chosen l nobody (asking n) false _ _ m (one_unstarted l (asking n) Word.Ask refl m refl)
one l (since s h) (advancing n) (active, same, positive) = chosen l (since s h) (advancing n) true _ _ active (one_advance l s h active same positive n)
one l (since s h) (hearing f) (active, same, positive) = chosen l (since s h) (hearing f) true _ _ active (one_frame l s h active same positive f)
one l (since s h) (asking n) (active, same, positive) = chosen l (since s h) (asking n) true _ _ active (one_ask l s h active same positive n)

-- ---- records, blocks, a file

-- lines that are what the histories say, and who is followed after them
record Lines (l : Lister) (t : Told) (Telling : List Said → Followed → Type 0) : Type 0 where
  said : List Said
  next : Followed
  told : Telling said next
  text : t.text ≡ numbered_from l.lines said
  line_count : t.lister.lines ≡ l.lines + length said
  keeps : Matches t.lister next

-- a line that leaves nobody followed
alone : (l : Lister) (t : Told) (said : Said) (Telling : List Said → Followed → Type 0) → Telling (said ∷ []) nobody → t.text ≡ line_of (l.lines + 1) said.word said.answer said.offset → t.lister.lines ≡ l.lines + 1 → t.lister.active ≡ false → Lines l t Telling
unfolding numbered_from Matches
alone l t said Telling told text line_count idle =
    record { said = said ∷ []; next = nobody; told = told; text = text ∙ sym (append-nil (line_of (l.lines + 1) said.word said.answer said.offset)); line_count = line_count; keeps = idle }

nothing_told : (l : Lister) (x : Followed) (t : Told) (Telling : List Said → Followed → Type 0) → Telling [] x → t.text ≡ [] → t.lister ≡ l → Matches l x → Lines l t Telling
unfolding numbered_from
nothing_told l x t Telling told text same m =
    record { said = []; next = x; told = told; text = text; line_count = ap (λ (k : Lister). k.lines) same ∙ (let e : l.lines ≡ l.lines + 0 = omega arith in e); keeps = subst (λ (k : Lister). Matches k x) (sym same) m }

by_form : (kind : ℕ) (c : List ℕ) (rs : Records) (l : Lister) (x : Followed)
    → One l x (entry_means kind c) (noted l (entry_means kind c))
    → Lines (noted l (entry_means kind c)).lister (recorded rs (noted l (entry_means kind c)).lister) (TellsRecords rs (followed_after (entry_means kind c) x))
    → (bad : Bool)
    → is_malformed (entry_means kind c) ≡ bad
    → Lines l (recorded (more kind c rs) l) (TellsRecords (more kind c rs) x)
unfolding recorded TellsRecords numbered_from
by_form kind c rs l x w v true e =
    let n = noted l (entry_means kind c) in
    subst (λ (b : Bool). Lines l (pick b (bad_record l) (before n.text (recorded rs n.lister))) (TellsRecords (more kind c rs) x)) (sym e)
    (alone l (bad_record l) (says Word.Record 20) (TellsRecords (more kind c rs) x) (inl (e, refl, refl)) refl refl refl)
by_form kind c rs l x w v false e =
    let n = noted l (entry_means kind c) in
    subst (λ (b : Bool). Lines l (pick b (bad_record l) (before n.text (recorded rs n.lister))) (TellsRecords (more kind c rs) x)) (sym e)
    (record {
      said = w.said ∷ v.said;
      next = v.next;
      told = inr (e, w.said, v.said, w.tells, v.told, refl);
      text = ap₂ ◌++◌ w.text (v.text ∙ ap (λ (k : ℕ). numbered_from k v.said) w.line_count);
      line_count = omega (arith, v.line_count, w.line_count);
      keeps = v.keeps;
    })

records_told : (rs : Records) (l : Lister) (x : Followed) → Matches l x → Lines l (recorded rs l) (TellsRecords rs x)
unfolding recorded TellsRecords
records_told end l x m = nothing_told l x (recorded end l) (TellsRecords end x) (refl, refl) refl refl m
records_told cut l x m = alone l (recorded cut l) (says Word.Record 20) (TellsRecords cut x) (refl, refl) refl refl refl
records_told (more kind c rs) l x m =
    let e = entry_means kind c in
    let w = one l x e m in
    by_form kind c rs l x w (records_told rs (noted l e).lister (followed_after e x) w.keeps) (is_malformed e) refl

-- one block more, and the same station
counted : (l : Lister) (x : Followed) → Matches l x → Matches (one_block_more l 0) x
unfolding Matches
counted l nobody m = m
counted l (since s h) m = m

block_told_lem : (b : List ℕ) (l : Lister) (x : Followed) → Matches l x → Lines l (block_told b l) (TellsBlock b x)
unfolding block_told block_means
block_told_lem b l x m = by_damage (is_damaged b) refl
  where
    by_damage : (d : Bool) → is_damaged b ≡ d → Lines l (judged (pick (is_damaged b) None (Some (used_length b))) b l) (TellsBlock b x)
    by_damage true e =
        subst (λ (d : Bool). Lines l (judged (pick d None (Some (used_length b))) b l) (TellsBlock b x)) (sym e)
        (alone l (damaged_told l) (says Word.Block 17) (TellsBlock b x) (inl (e, refl, refl)) refl refl refl)
    by_damage false e =
        let w = records_told (records_in (used_part b)) (one_block_more l 0) x (counted l x m) in
        subst (λ (d : Bool). Lines l (judged (pick d None (Some (used_length b))) b l) (TellsBlock b x)) (sym e)
        (record { said = w.said; next = w.next; told = inr (e, w.told); text = w.text; line_count = w.line_count; keeps = w.keeps })

blocks_told_lem : (bs : List (List ℕ)) (l : Lister) (x : Followed) → Matches l x → Lines l (blocks_told bs l) (TellsBlocks bs x)
unfolding blocks_told TellsBlocks
blocks_told_lem [] l x m = nothing_told l x (blocks_told [] l) (TellsBlocks [] x) (refl, refl) refl refl m
blocks_told_lem (b ∷ bs) l x m =
    let w = block_told_lem b l x m in
    let v = blocks_told_lem bs (block_told b l).lister w.next w.keeps in
    record {
      said = w.said ++ v.said;
      next = v.next;
      told = (w.next, w.said, v.said, w.told, v.told, refl);
      text = ap₂ ◌++◌ w.text (v.text ∙ ap (λ (k : ℕ). numbered_from k v.said) w.line_count) ∙ sym (numbered_append l.lines w.said v.said);
      line_count = omega (arith, v.line_count, w.line_count, length-append w.said v.said);
      keeps = v.keeps;
    }

pub told_by_histories : (file : List ℕ) → ToldByHistories file
unfolding list_of Matches
told_by_histories file =
    let w = blocks_told_lem (blocks_in file) fresh nobody refl in
    let n = blocks_counted (blocks_in file) fresh in
    record {
      said = w.said;
      last = w.next;
      told = w.told;
      whole = ap₂ ◌++◌ w.text (ap₂ closing_of (n.block_count ∙ omega arith) (n.damaged_count ∙ omega arith));
    }
