-- The list of a capture in which two advances were merged (02, Seven). Assumes nothing.
use Rattle.std.specs.Prelude.{Ok, Err, Some, None, Option}
use mathlib.Core.Bool.{Bool, true, false}
use mathlib.Core.List.{List, [], ◌∷◌, ◌++◌, append_assoc, append-nil}
use mathlib.Core.Path.{◌≡◌, refl, sym, ap, ap₂, ◌∙◌, subst}
use Prim.Native.Nat.{ℕ, suc, ◌+◌, ◌≤◌}
use native.Mathlib.Omega.{arith}
use lib.ListN.{length, length-append}
use Rattle.answer.specs.Checks.{Outcome, pick, Answer}
use Rattle.answer.specs.Numbers.{answer_number}
use Rattle.answer.specs.declared.Refusal.{Refusal}
use Rattle.block.specs.Blocks.{used_length, is_damaged, used_part, block_means}
use Rattle.pen.specs.Lines.{closing_of}
use Rattle.capture.specs.Listers.{fresh, with_lines, without, following, one_block_more}
use Rattle.capture.specs.Lists.{Told, response_number, response_offset, refusal, answer_line, line, before, started, stepped, no_station, bad_record, noted, is_malformed, recorded, judged, block_told, blocks_in, blocks_told, closing_for, closed, list_of}
use Rattle.capture.specs.declared.lister.Lister.{Lister}
use Rattle.capture.specs.declared.response.Response.{Response}
use Rattle.pen.specs.declared.words.Word.{Word}
use Rattle.capture_record.specs.Entries.{Noted, malformed, starting, advancing, hearing, asking, entry_means}
use Rattle.capture_record.specs.Records.{Records, end, cut, more, records_in}
use Rattle.station.specs.Asking.{permission_of}
use Rattle.station.specs.Clock.{advance_of}
use Rattle.station.specs.Starting.{start_means}
use Rattle.station.specs.Stations.{unit_limit}
use Rattle.station.specs.Taking.{take_of}
use Rattle.station.specs.declared.Station.{Station}
use Rattle.station.specs.declared.clock.Stepped.{Stepped}
use Rattle.claims.specs.HistoryLines.{says}
use Rattle.claims.specs.MergedCaptures.{RawRecord, entry_of, in_front, leading, NoneMalformed, MergedRecords, MergedFiles, past_blocks, past_records, BothAccepted, lines_before, went_on, closing_line, ListsMerge}
use Rattle.claims.specs.Numbered.{Said, numbered_from, records_counted, lines_in, lines_among}
use Rattle.claims.proofs.ListedFiles.{numbered_append, blocks_counted}
use Rattle.claims.proofs.MergedStations.{advance_merged}

-- ---- what is told, wherever its lines begin

abbrev told_from : Lister → List Said → ℕ → Told
told_from base said n = record { lister = with_lines base (n + length said); text = numbered_from n said }

-- the same lines after any number of them
pub record Spoken (tell : ℕ → Told) : Type 0 where
  pub said : List Said
  pub base : Lister
  pub tells : (n : ℕ) → tell n ≡ told_from base said n

-- some lines, and those that follow
told_both : (base base' : Lister) (said said' : List Said) (n : ℕ) → before (numbered_from n said) (told_from base' said' (n + length said)) ≡ told_from base' (said ++ said') n
told_both base base' said said' n =
    ap₂ (λ (m : ℕ) (os : List ℕ). record { lister = with_lines base' m; text = os })
    (let e : n + length said + length said' ≡ n + (length said + length said') = omega arith in e ∙ ap (λ (m : ℕ). n + m) (sym (length-append said said')))
    (sym (numbered_append n said said'))

then_tells : (tell : ℕ → Told) (next : Lister → Told) (s : Spoken tell) → (z : Spoken (λ n. next (with_lines s.base n)))
    → (n : ℕ) → before (tell n).text (next (tell n).lister) ≡ told_from z.base (s.said ++ z.said) n
then_tells tell next s z n =
    ap (λ (t : Told). before t.text (next t.lister)) (s.tells n)
    ∙ ap (before (numbered_from n s.said)) (z.tells (n + length s.said))
    ∙ told_both s.base z.base s.said z.said n

spoken_both : (tell : ℕ → Told) (next : Lister → Told) (s : Spoken tell) → Spoken (λ n. next (with_lines s.base n)) → Spoken (λ n. before (tell n).text (next (tell n).lister))
spoken_both tell next s z = record { said = s.said ++ z.said; base = z.base; tells = then_tells tell next s z }

-- one line
line_tells : (base : Lister) (word : Word) (answer : Response) (n : ℕ)
    → line (with_lines base n) word answer ≡ told_from base (record { word = word; answer = response_number answer; offset = response_offset answer } ∷ []) n
unfolding numbered_from
line_tells base word answer n = ap (λ (os : List ℕ). record { lister = with_lines base (n + 1); text = os }) (sym (append-nil (answer_line (n + 1) word answer)))

spoken_line : (base : Lister) (word : Word) (answer : Response) → Spoken (λ n. line (with_lines base n) word answer)
spoken_line base word answer = record { said = _; base = base; tells = line_tells base word answer }

spoken_pick : (b : Bool) (tell tell' : ℕ → Told) → Spoken tell → Spoken tell' → Spoken (λ n. pick b (tell n) (tell' n))
spoken_pick true tell tell' s s' = s
spoken_pick false tell tell' s s' = s'

-- ---- records, blocks and files

module _ (l : Lister) where
  bad_spoken : Spoken (λ n. bad_record (with_lines l n))
  bad_spoken = spoken_line (without l) Word.Record (refusal Refusal.RecordMalformed)

  start_spoken : (o : Outcome Station) → Spoken (λ n. started (with_lines l n) o)
  start_spoken (Err r) = spoken_line (without l) Word.Start (refusal r)
  start_spoken (Ok s) = spoken_line (following l s) Word.Start (Response.Call (Ok tt))

  none_spoken : (word : Word) → Spoken (λ n. no_station (with_lines l n) word)
  none_spoken word = spoken_line l word (refusal Refusal.NoStation)

  noted_spoken : (e : Noted) → Spoken (λ n. noted (with_lines l n) e)
  unfolding noted
  noted_spoken malformed = bad_spoken
  noted_spoken (starting s) = start_spoken (start_means s.own s.ap s.interval s.channel)
  noted_spoken (advancing m) =
      let x = advance_of l.station m in
      spoken_pick l.active _ _ (spoken_line (following l x.station) Word.Advance (Response.Call x.answer)) (none_spoken Word.Advance)
  noted_spoken (hearing f) =
      let x = take_of l.station f in
      spoken_pick l.active _ _ (spoken_line (following l x.station) Word.Frame (Response.Frame x.verdict)) (none_spoken Word.Frame)
  noted_spoken (asking m) =
      spoken_pick l.active _ _ (spoken_line l Word.Ask (Response.Question (permission_of l.station m))) (none_spoken Word.Ask)

recorded_spoken : (rs : Records) (l : Lister) → Spoken (λ n. recorded rs (with_lines l n))
unfolding recorded numbered_from
recorded_spoken end l = record { said = []; base = l; tells = λ n. ap (λ (m : ℕ). record { lister = with_lines l m; text = [] }) (let e : n ≡ n + 0 = omega arith in e) }
recorded_spoken cut l = bad_spoken l
recorded_spoken (more kind c rs) l =
    let s = noted_spoken l (entry_means kind c) in
    spoken_pick (is_malformed (entry_means kind c)) _ _ (bad_spoken l) (spoken_both (λ n. noted (with_lines l n) (entry_means kind c)) (recorded rs) s (recorded_spoken rs s.base))

judged_spoken : (b : List ℕ) (l : Lister) (x : Option ℕ) → Spoken (λ n. judged x b (with_lines l n))
judged_spoken b l None = spoken_line (without (one_block_more l 1)) Word.Block (refusal Refusal.BlockDamaged)
judged_spoken b l (Some m) = recorded_spoken (records_in (used_part b)) (one_block_more l 0)

block_spoken : (b : List ℕ) (l : Lister) → Spoken (λ n. block_told b (with_lines l n))
unfolding block_told
block_spoken b l = judged_spoken b l (block_means b)

blocks_spoken : (bs : List (List ℕ)) (l : Lister) → Spoken (λ n. blocks_told bs (with_lines l n))
unfolding blocks_told numbered_from
blocks_spoken [] l = record { said = []; base = l; tells = λ n. ap (λ (m : ℕ). record { lister = with_lines l m; text = [] }) (let e : n ≡ n + 0 = omega arith in e) }
blocks_spoken (b ∷ bs) l = let s = block_spoken b l in spoken_both (λ n. block_told b (with_lines l n)) (blocks_told bs) s (blocks_spoken bs s.base)

-- ---- how many lines

pick_many : (b : Bool) (tell tell' : ℕ → Told) (s : Spoken tell) (s' : Spoken tell') (m m' : ℕ) → length s.said ≡ m → length s'.said ≡ m'
    → length (spoken_pick b tell tell' s s').said ≡ pick b m m'
unfolding spoken_pick
pick_many true tell tell' s s' m m' e e' = e
pick_many false tell tell' s s' m m' e e' = e'

-- of a call with a station and of one with none
one_of : (b : Bool) (next next' : Lister) (word word' : Word) (answer answer' : Response)
    → length (spoken_pick b _ _ (spoken_line next word answer) (spoken_line next' word' answer')).said ≡ 1
unfolding spoken_pick spoken_line
one_of true next next' word word' answer answer' = refl
one_of false next next' word word' answer answer' = refl

noted_one : (l : Lister) (e : Noted) → length (noted_spoken l e).said ≡ 1
unfolding noted_spoken bad_spoken none_spoken spoken_line start_spoken
noted_one l malformed = refl
noted_one l (starting s) = by (start_means s.own s.ap s.interval s.channel)
  where
    by : (o : Outcome Station) → length (start_spoken l o).said ≡ 1
    by (Err r) = refl
    by (Ok x) = refl
noted_one l (advancing m) =
    let x = advance_of l.station m in
    one_of l.active (following l x.station) l Word.Advance Word.Advance (Response.Call x.answer) (refusal Refusal.NoStation)
noted_one l (hearing f) =
    let x = take_of l.station f in
    one_of l.active (following l x.station) l Word.Frame Word.Frame (Response.Frame x.verdict) (refusal Refusal.NoStation)
noted_one l (asking m) = one_of l.active l l Word.Ask Word.Ask (Response.Question (permission_of l.station m)) (refusal Refusal.NoStation)

recorded_many : (rs : Records) (l : Lister) → length (recorded_spoken rs l).said ≡ records_counted rs
unfolding records_counted recorded_spoken bad_spoken spoken_line spoken_both
recorded_many end l = refl
recorded_many cut l = refl
recorded_many (more kind c rs) l =
    let s = noted_spoken l (entry_means kind c) in
    pick_many (is_malformed (entry_means kind c)) _ _ _ _ 1 (1 + records_counted rs) refl
    (length-append s.said (recorded_spoken rs s.base).said ∙ ap₂ ◌+◌ (noted_one l (entry_means kind c)) (recorded_many rs s.base))

block_many : (b : List ℕ) (l : Lister) → length (block_spoken b l).said ≡ lines_in b
unfolding block_means block_spoken judged_spoken spoken_line
block_many b l = by (is_damaged b)
  where
    by : (d : Bool) → length (judged_spoken b l (pick d None (Some (used_length b)))).said ≡ pick d 1 (records_counted (records_in (used_part b)))
    by true = refl
    by false = recorded_many (records_in (used_part b)) (one_block_more l 0)

-- ---- two advances that are accepted, and one

abbrev Went : Lister → ℕ → ℕ → Type 0
Went l a b =
    (l.active ≡ true)
    × ((advance_of l.station a).answer ≡ Ok tt)
    × ((advance_of (advance_of l.station a).station b).answer ≡ Ok tt)

-- what is told of both, and of the one
pub record Merged (tell tell' : ℕ → Told) (many : ℕ) : Type 0 where
  pub lines_before_lem : List Said
  pub lines_after : List Said
  pub base : Lister
  pub placed : length lines_before_lem ≡ many
  pub apart : (n : ℕ) → tell n ≡ told_from base (lines_before_lem ++ (went_on ∷ went_on ∷ lines_after)) n
  pub together : (n : ℕ) → tell' n ≡ told_from base (lines_before_lem ++ (went_on ∷ lines_after)) n

-- the same where both are accepted at the lister that is reached from l, whatever the number of its lines
pub record TellsMerged (reach : Lister → Lister) (l : Lister) (a b : ℕ) (tell tell' : ℕ → Told) (many : ℕ) : Type 0 where
  pub at : Lister
  pub reached : (n : ℕ) → (k : ℕ) × (reach (with_lines l n) ≡ with_lines at k)
  pub lists : Went at a b → Merged tell tell' many

-- an advance that is accepted
adv_tells : (l : Lister) (m : ℕ) → l.active ≡ true → (advance_of l.station m).answer ≡ Ok tt → (n : ℕ)
    → noted (with_lines l n) (advancing m) ≡ told_from (following l (advance_of l.station m).station) (went_on ∷ []) n
unfolding noted
adv_tells l m active allowed n =
    let x = advance_of l.station m in
    ap (λ (c : Bool). pick c (stepped (with_lines l n) x) (no_station (with_lines l n) Word.Advance)) active
    ∙ line_tells (following l x.station) Word.Advance (Response.Call x.answer) n
    ∙ ap (λ (r : Answer). told_from (following l x.station) (says Word.Advance (answer_number r) ∷ []) n) allowed

adv_spoken : (l : Lister) (m : ℕ) → l.active ≡ true → (advance_of l.station m).answer ≡ Ok tt → Spoken (λ n. noted (with_lines l n) (advancing m))
adv_spoken l m active allowed = record { said = went_on ∷ []; base = following l (advance_of l.station m).station; tells = adv_tells l m active allowed }

-- a record that is not malformed
recorded_by : (x : RawRecord) (e : Noted) → entry_of x ≡ e → is_malformed e ≡ false → (rs : Records) (l : Lister)
    → recorded (in_front x rs) l ≡ before (noted l e).text (recorded rs (noted l e).lister)
unfolding recorded
recorded_by x e is sound rs l =
    ap (λ (k : Noted). pick (is_malformed k) (bad_record l) (before (noted l k).text (recorded rs (noted l k).lister))) is
    ∙ ap (λ (b : Bool). pick b (bad_record l) (before (noted l e).text (recorded rs (noted l e).lister))) sound

module _ (l : Lister) (one next both : RawRecord) (a b : ℕ) (few : a + b ≤ unit_limit) (is_one : entry_of one ≡ advancing a) (is-next : entry_of next ≡ advancing b) (is-both : entry_of both ≡ advancing (a + b)) (rest : Records) (went : Went l a b) where
  abbrev mid : Lister
  mid = following l (advance_of l.station a).station

  abbrev last : Lister
  last = following mid (advance_of mid.station b).station

  abbrev after : Spoken (λ n. recorded rest (with_lines last n))
  after = recorded_spoken rest last

  merged : advance_of l.station (a + b) ≡ advance_of mid.station b
  merged = advance_merged l.station a b went.1 went.2 few

  -- the second of the two, and what follows
  from_next : Spoken (λ n. recorded (in_front next rest) (with_lines mid n))
  unfolding adv_spoken
  from_next = record {
    said = went_on ∷ after.said;
    base = after.base;
    tells = λ n. recorded_by next (advancing b) is-next refl rest (with_lines mid n)
        ∙ then_tells (λ m. noted (with_lines mid m) (advancing b)) (recorded rest) (adv_spoken mid b refl went.2) after n;
  }

  -- the one with their sum, and what follows
  from_both : Spoken (λ n. recorded rest (with_lines (following l (advance_of l.station (a + b)).station) n))
  from_both = record {
    said = after.said;
    base = after.base;
    tells = λ n. ap (λ (x : Stepped). recorded rest (with_lines (following l x.station) n)) merged ∙ after.tells n;
  }

  here : Merged (λ n. recorded (in_front one (in_front next rest)) (with_lines l n)) (λ n. recorded (in_front both rest) (with_lines l n)) 0
  unfolding adv_spoken from_next from_both
  here = record {
    lines_before_lem = [];
    lines_after = after.said;
    base = after.base;
    placed = refl;
    apart = λ n. recorded_by one (advancing a) is_one refl (in_front next rest) (with_lines l n)
        ∙ then_tells (λ m. noted (with_lines l m) (advancing a)) (recorded (in_front next rest)) (adv_spoken l a went.0 went.1) from_next n;
    together = λ n. recorded_by both (advancing (a + b)) is-both refl rest (with_lines l n)
        ∙ then_tells (λ m. noted (with_lines l m) (advancing (a + b))) (recorded rest)
        (adv_spoken l (a + b) went.0 (ap (λ (x : Stepped). x.answer) merged ∙ went.2)) from_both n;
  }

-- ---- after what is alike, and before it

merged_after : (tell : ℕ → Told) (next next' : Lister → Told) (s : Spoken tell) (many : ℕ)
    → Merged (λ n. next (with_lines s.base n)) (λ n. next' (with_lines s.base n)) many
    → Merged (λ n. before (tell n).text (next (tell n).lister)) (λ n. before (tell n).text (next' (tell n).lister)) (length s.said + many)
merged_after tell next next' s many m = record {
  lines_before_lem = s.said ++ m.lines_before_lem;
  lines_after = m.lines_after;
  base = m.base;
  placed = length-append s.said m.lines_before_lem ∙ ap (λ (k : ℕ). length s.said + k) m.placed;
  apart = λ n. then_tells tell next s (record { said = m.lines_before_lem ++ (went_on ∷ went_on ∷ m.lines_after); base = m.base; tells = m.apart }) n
      ∙ ap (λ (xs : List Said). told_from m.base xs n) (sym (append_assoc s.said m.lines_before_lem _));
  together = λ n. then_tells tell next' s (record { said = m.lines_before_lem ++ (went_on ∷ m.lines_after); base = m.base; tells = m.together }) n
      ∙ ap (λ (xs : List Said). told_from m.base xs n) (sym (append_assoc s.said m.lines_before_lem _));
}

merged_before : (tell tell' : ℕ → Told) (next : Lister → Told) (many : ℕ) → (m : Merged tell tell' many) → Spoken (λ n. next (with_lines m.base n))
    → Merged (λ n. before (tell n).text (next (tell n).lister)) (λ n. before (tell' n).text (next (tell' n).lister)) many
merged_before tell tell' next many m z = record {
  lines_before_lem = m.lines_before_lem;
  lines_after = m.lines_after ++ z.said;
  base = z.base;
  placed = m.placed;
  apart = λ n. then_tells tell next (record { said = m.lines_before_lem ++ (went_on ∷ went_on ∷ m.lines_after); base = m.base; tells = m.apart }) z n
      ∙ ap (λ (xs : List Said). told_from z.base xs n) (append_assoc m.lines_before_lem (went_on ∷ went_on ∷ m.lines_after) z.said);
  together = λ n. then_tells tell' next (record { said = m.lines_before_lem ++ (went_on ∷ m.lines_after); base = m.base; tells = m.together }) z n
      ∙ ap (λ (xs : List Said). told_from z.base xs n) (append_assoc m.lines_before_lem (went_on ∷ m.lines_after) z.said);
}

-- along equal functions
merged_as : (tell tell' told told' : ℕ → Told) (many many' : ℕ) → ((n : ℕ) → told n ≡ tell n) → ((n : ℕ) → told' n ≡ tell' n) → many ≡ many' → Merged tell tell' many → Merged told told' many'
merged_as tell tell' told told' many many' same same' here m = record {
  lines_before_lem = m.lines_before_lem;
  lines_after = m.lines_after;
  base = m.base;
  placed = m.placed ∙ here;
  apart = λ n. same n ∙ m.apart n;
  together = λ n. same' n ∙ m.together n;
}

-- ---- in a block, and in a file

module _ (one next both : RawRecord) (a b : ℕ) (few : a + b ≤ unit_limit) (is_one : entry_of one ≡ advancing a) (is-next : entry_of next ≡ advancing b) (is-both : entry_of both ≡ advancing (a + b)) (rest : Records) where
  abbrev first_of : List RawRecord → Records
  first_of xs = leading xs (in_front one (in_front next rest))

  abbrev second_of : List RawRecord → Records
  second_of xs = leading xs (in_front both rest)

  leading_merges : (first : List RawRecord) → NoneMalformed first → (l : Lister)
      → TellsMerged (past_records first) l a b (λ n. recorded (first_of first) (with_lines l n)) (λ n. recorded (second_of first) (with_lines l n)) (length first)
  unfolding leading NoneMalformed past_records
  leading_merges [] sound l = record { at = l; reached = λ n. (n, refl); lists = here l one next both a b few is_one is-next is-both rest }
  leading_merges (x ∷ xs) sound l =
      let s = noted_spoken l (entry_of x) in
      let w = leading_merges xs sound.1 s.base in
      record {
        at = w.at;
        reached = λ n.
            let z = w.reached (n + length s.said) in
            (z.0, ap (λ (t : Told). past_records xs t.lister) (s.tells n) ∙ z.1);
        lists = λ went.
            merged_as _ _ _ _ _ _ (λ n. recorded_by x (entry_of x) refl sound.0 (first_of xs) (with_lines l n)) (λ n. recorded_by x (entry_of x) refl sound.0 (second_of xs) (with_lines l n))
            (let more : length s.said + length xs ≡ suc (length xs) = omega (arith, noted_one l (entry_of x)) in more)
            (merged_after (λ n. noted (with_lines l n) (entry_of x)) (recorded (first_of xs)) (recorded (second_of xs)) s (length xs) (w.lists went));
      }

records_merge : (rs rs' : Records) (m : MergedRecords rs rs') (l : Lister)
    → TellsMerged (past_records m.first) l m.a m.b (λ n. recorded rs (with_lines l n)) (λ n. recorded rs' (with_lines l n)) (length m.first)
records_merge rs rs' m l =
    let w = leading_merges m.one m.next m.both m.a m.b m.few m.one_advances m.next_advances m.both_advances m.rest m.first m.whole l in
    record {
      at = w.at;
      reached = w.reached;
      lists = λ went.
          merged_as _ _ _ _ _ _ (λ n. ap (λ (x : Records). recorded x (with_lines l n)) m.apart) (λ n. ap (λ (x : Records). recorded x (with_lines l n)) m.together) refl (w.lists went);
    }

undamaged_told : (b : List ℕ) → is_damaged b ≡ false → (l : Lister) → block_told b l ≡ recorded (records_in (used_part b)) (one_block_more l 0)
unfolding block_told block_means
undamaged_told b sound l = ap (λ (d : Bool). judged (pick d None (Some (used_length b))) b l) sound

module _ (block block' : List ℕ) (later : List (List ℕ)) (sound : is_damaged block ≡ false) (sound' : is_damaged block' ≡ false) (m : MergedRecords (records_in (used_part block)) (records_in (used_part block'))) where
  abbrev reach_through : List (List ℕ) → Lister → Lister
  reach_through earlier l = past_records m.first (one_block_more (past_blocks earlier l) 0)

  blocks_merge : (earlier : List (List ℕ)) (l : Lister)
      → TellsMerged (reach_through earlier) l m.a m.b (λ n. blocks_told (earlier ++ (block ∷ later)) (with_lines l n)) (λ n. blocks_told (earlier ++ (block' ∷ later)) (with_lines l n))
      (lines_among earlier + length m.first)
  unfolding blocks_told lines_among past_blocks
  blocks_merge [] l =
      let w = records_merge _ _ m (one_block_more l 0) in
      record {
        at = w.at;
        reached = w.reached;
        lists = λ went.
            let z =
            merged_as _ _ (λ n. block_told block (with_lines l n)) (λ n. block_told block' (with_lines l n)) _ _ (λ n. undamaged_told block sound (with_lines l n))
            (λ n. undamaged_told block' sound' (with_lines l n)) (let same : length m.first ≡ 0 + length m.first = omega arith in same) (w.lists went)
            in
            merged_before _ _ (blocks_told later) _ z (blocks_spoken later z.base);
      }
  blocks_merge (e ∷ es) l =
      let s = block_spoken e l in
      let w = blocks_merge es s.base in
      record {
        at = w.at;
        reached = λ n.
            let z = w.reached (n + length s.said) in
            (z.0, ap (λ (t : Told). reach_through es t.lister) (s.tells n) ∙ z.1);
        lists = λ went.
            merged_as _ _ _ _ _ _ (λ n. refl) (λ n. refl)
            (let more : length s.said + (lines_among es + length m.first) ≡ lines_in e + lines_among es + length m.first = omega (arith, block_many e l) in more)
            (merged_after (λ n. block_told e (with_lines l n)) (blocks_told (es ++ (block ∷ later))) (blocks_told (es ++ (block' ∷ later))) s _ (w.lists went));
      }

-- the closing line is that of the first file's blocks
closing_is : (file : List ℕ) (base : Lister) (said : List Said) → blocks_told (blocks_in file) fresh ≡ told_from base said 0 → closing_for base ≡ closing_line file
closing_is file base said e =
    let w = blocks_counted (blocks_in file) fresh in
    ap₂ closing_of
    (ap (λ (t : Told). t.lister.blocks) (sym e) ∙ w.block_count ∙ omega arith)
    (ap (λ (t : Told). t.lister.damaged) (sym e) ∙ w.damaged_count ∙ omega arith)

pub lists_merge : (file file' : List ℕ) (m : MergedFiles file file') → BothAccepted m → ListsMerge file file' (lines_before m)
unfolding list_of
lists_merge file file' m allowed =
    let w = blocks_merge m.block m.block' m.later m.undamaged m.undamaged' m.merged m.earlier fresh in
    let at = w.reached 0 in
    let z = w.lists (subst (λ (l : Lister). Went l m.merged.a m.merged.b) at.1 (allowed.followed, allowed.first_accepted, allowed.second_accepted)) in
    let whole : blocks_told (blocks_in file) fresh ≡ told_from z.base (z.lines_before_lem ++ (went_on ∷ went_on ∷ z.lines_after)) 0 =
    ap (λ (bs : List (List ℕ)). blocks_told bs fresh) m.is_first ∙ z.apart 0
    in
    let closing = closing_is file z.base (z.lines_before_lem ++ (went_on ∷ went_on ∷ z.lines_after)) whole in
    record {
      lines_before_lem = z.lines_before_lem;
      lines_after = z.lines_after;
      placed = z.placed;
      first_list = ap closed whole ∙ ap (λ (os : List ℕ). numbered_from 0 (z.lines_before_lem ++ (went_on ∷ went_on ∷ z.lines_after)) ++ os) closing;
      second_list =
          ap (λ (bs : List (List ℕ)). closed (blocks_told bs fresh)) m.is_second ∙ ap closed (z.together 0)
          ∙ ap (λ (os : List ℕ). numbered_from 0 (z.lines_before_lem ++ (went_on ∷ z.lines_after)) ++ os) closing;
    }
