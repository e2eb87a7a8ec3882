-- The list of a file has one line for each record and each damaged block, numbered from 1 without a gap, and the closing line's numbers are those of
-- the blocks and of the damaged ones (01, "Capture blocks and the evening list"). Assumes nothing.
use Rattle.std.specs.Prelude.{Ok, Err, Some, None}
use mathlib.Core.Bool.{Bool, true, false}
use mathlib.Core.List.{List, [], ◌∷◌, ◌++◌, append_assoc, append-nil}
use mathlib.Core.Path.{◌≡◌, refl, sym, ap, ap₂, ◌∙◌, subst}
use Prim.Native.Nat.{ℕ, ◌+◌}
use native.Mathlib.Omega.{arith}
use lib.ListN.{length, length-append}
use Rattle.answer.specs.Checks.{Outcome, pick}
use Rattle.answer.specs.declared.Refusal.{Refusal}
use Rattle.block.specs.Blocks.{used_length, is_damaged, used_part, block_means}
use Rattle.capture.specs.Listers.{fresh, without, following, one_block_more}
use Rattle.capture.specs.Lists.{Told, nothing, response_number, response_offset, refusal, answer_line, line, before, started, stepped, taken, no_station, bad_record, noted, is_malformed, recorded, damaged_told, judged, block_told, blocks_in, blocks_told, list_of}
use Rattle.capture.specs.declared.lister.Lister.{Lister}
use Rattle.capture.specs.declared.response.Response.{Response}
use Rattle.capture_record.specs.Entries.{Noted, malformed, starting, advancing, hearing, asking, entry_means}
use Rattle.capture_record.specs.Records.{Records, end, cut, more, records_in}
use Rattle.station.specs.Asking.{permission_of}
use Rattle.station.specs.Clock.{advance_of}
use Rattle.station.specs.Starting.{start_means}
use Rattle.station.specs.Taking.{take_of}
use Rattle.station.specs.declared.Station.{Station}
use Rattle.station.specs.declared.clock.Stepped.{Stepped}
use Rattle.station.specs.declared.taking.Taken.{Taken}
use Rattle.pen.specs.Lines.{line_of, closing_of}
use Rattle.pen.specs.declared.words.Word.{Word}
use Rattle.claims.specs.Numbered.{Said, numbered_from, records_counted, lines_in, lines_among, damaged_among, ListedAs}

-- so many lines, blocks and damaged blocks were told
pub record Counted (l : Lister) (t : Told) (lines blocks damaged : ℕ) : Type 0 where
  pub said : List Said
  pub text : t.text ≡ numbered_from l.lines said
  pub many : length said ≡ lines
  pub line_count : t.lister.lines ≡ l.lines + lines
  pub block_count : t.lister.blocks ≡ l.blocks + blocks
  pub damaged_count : t.lister.damaged ≡ l.damaged + damaged

pub numbered_append : (n : ℕ) (a b : List Said) → numbered_from n (a ++ b) ≡ numbered_from n a ++ numbered_from (n + length a) b
unfolding numbered_from
numbered_append n [] b = ap (λ (k : ℕ). numbered_from k b) (let e : n ≡ n + 0 = omega arith in e)
numbered_append n (s ∷ a) b =
    let first = line_of (n + 1) s.word s.answer s.offset in
    let next : n + 1 + length a ≡ n + length (s ∷ a) = omega arith in
    ap (λ (os : List ℕ). first ++ os) (numbered_append (n + 1) a b ∙ ap (λ (k : ℕ). numbered_from (n + 1) a ++ numbered_from k b) next)
    ∙ sym (append_assoc first (numbered_from (n + 1) a) _)

-- nothing told
none : (l : Lister) → Counted l (nothing l) 0 0 0
unfolding numbered_from
none l = record { said = []; text = refl; many = refl; line_count = omega arith; block_count = omega arith; damaged_count = omega arith }

-- one line, which leaves the numbers of blocks as they are
one : (l next : Lister) (word : Word) (answer : Response) → next.lines ≡ l.lines → next.blocks ≡ l.blocks → next.damaged ≡ l.damaged → Counted l (line next word answer) 1 0 0
unfolding numbered_from
one l next word answer same_lines same_blocks same_damaged =
    record {
      said = record { word = word; answer = response_number answer; offset = response_offset answer } ∷ [];
      text = ap (λ (n : ℕ). answer_line (n + 1) word answer) same_lines ∙ sym (append-nil (answer_line (l.lines + 1) word answer));
      many = refl;
      line_count = omega (arith, same_lines);
      block_count = omega (arith, same_blocks);
      damaged_count = omega (arith, same_damaged);
    }

-- some lines, and those that follow
both : (l : Lister) (t u : Told) (lines blocks damaged lines' blocks' damaged' : ℕ) → Counted l t lines blocks damaged → Counted t.lister u lines' blocks' damaged' → Counted l (before t.text u) (lines + lines') (blocks + blocks') (damaged + damaged')
both l t u lines blocks damaged lines' blocks' damaged' a b =
    let after : t.lister.lines ≡ l.lines + length a.said = omega (arith, a.line_count, a.many) in
    record {
      said = a.said ++ b.said;
      text = ap₂ ◌++◌ a.text (b.text ∙ ap (λ (n : ℕ). numbered_from n b.said) after) ∙ sym (numbered_append l.lines a.said b.said);
      many = length-append a.said b.said ∙ ap₂ ◌+◌ a.many b.many;
      line_count = omega (arith, a.line_count, b.line_count);
      block_count = omega (arith, a.block_count, b.block_count);
      damaged_count = omega (arith, a.damaged_count, b.damaged_count);
    }

-- ---- a record

-- one of two, by a test
either : (l : Lister) (test : Bool) (t u : Told) (lines lines' : ℕ) → Counted l t lines 0 0 → Counted l u lines' 0 0 → Counted l (pick test t u) (pick test lines lines') 0 0
either l true t u lines lines' a b = a
either l false t u lines lines' a b = b

-- with a station, or with none
with_or_without : (l : Lister) (t u : Told) → Counted l t 1 0 0 → Counted l u 1 0 0 → Counted l (pick l.active t u) 1 0 0
with_or_without l t u a b = by_station l.active
  where
    by_station : (active : Bool) → Counted l (pick active t u) 1 0 0
    by_station true = a
    by_station false = b

started_one : (l : Lister) (o : Outcome Station) → Counted l (started l o) 1 0 0
started_one l (Err r) = one l (without l) Word.Start (refusal r) refl refl refl
started_one l (Ok s) = one l (following l s) Word.Start (Response.Call (Ok tt)) refl refl refl

stepped_one : (l : Lister) (x : Stepped) → Counted l (stepped l x) 1 0 0
stepped_one l x = one l (following l x.station) Word.Advance (Response.Call x.answer) refl refl refl

taken_one : (l : Lister) (x : Taken) → Counted l (taken l x) 1 0 0
taken_one l x = one l (following l x.station) Word.Frame (Response.Frame x.verdict) refl refl refl

unstarted_one : (l : Lister) (word : Word) → Counted l (no_station l word) 1 0 0
unstarted_one l word = one l l word (refusal Refusal.NoStation) refl refl refl

bad : (l : Lister) → Counted l (bad_record l) 1 0 0
bad l = one l (without l) Word.Record (refusal Refusal.RecordMalformed) refl refl refl

noted_one : (l : Lister) (n : Noted) → Counted l (noted l n) 1 0 0
unfolding noted
noted_one l malformed = bad l
noted_one l (starting s) = started_one l (start_means s.own s.ap s.interval s.channel)
noted_one l (advancing n) = with_or_without l _ _ (stepped_one l (advance_of l.station n)) (unstarted_one l Word.Advance)
noted_one l (hearing f) = with_or_without l _ _ (taken_one l (take_of l.station f)) (unstarted_one l Word.Frame)
noted_one l (asking n) = with_or_without l _ _ (one l l Word.Ask (Response.Question (permission_of l.station n)) refl refl refl) (unstarted_one l Word.Ask)

-- ---- a block

recorded_counted : (rs : Records) (l : Lister) → Counted l (recorded rs l) (records_counted rs) 0 0
unfolding recorded records_counted
recorded_counted end l = none l
recorded_counted cut l = bad l
recorded_counted (more kind c rs) l =
    let n = noted l (entry_means kind c) in
    either l (is_malformed (entry_means kind c)) (bad_record l) (before n.text (recorded rs n.lister)) 1 (1 + records_counted rs) (bad l)
    (both l n (recorded rs n.lister) 1 0 0 (records_counted rs) 0 0 (noted_one l (entry_means kind c)) (recorded_counted rs n.lister))

-- the block itself counts
in_block : (l : Lister) (t : Told) (n lines : ℕ) → Counted (one_block_more l n) t lines 0 0 → Counted l t lines 1 n
in_block l t n lines a =
    record {
      said = a.said;
      text = a.text;
      many = a.many;
      line_count = a.line_count;
      block_count = omega (arith, a.block_count);
      damaged_count = omega (arith, a.damaged_count);
    }

block_counted : (b : List ℕ) (l : Lister) → Counted l (block_told b l) (lines_in b) 1 (pick (is_damaged b) 1 0)
unfolding block_told block_means
block_counted b l = by_damage (is_damaged b)
  where
    by_damage : (d : Bool) → Counted l (judged (pick d None (Some (used_length b))) b l) (pick d 1 (records_counted (records_in (used_part b)))) 1 (pick d 1 0)
    by_damage true = in_block l (damaged_told l) 1 1 (one (one_block_more l 1) (without (one_block_more l 1)) Word.Block (refusal Refusal.BlockDamaged) refl refl refl)
    by_damage false = in_block l _ 0 _ (recorded_counted (records_in (used_part b)) (one_block_more l 0))

-- ---- a file

pub blocks_counted : (bs : List (List ℕ)) (l : Lister) → Counted l (blocks_told bs l) (lines_among bs) (length bs) (damaged_among bs)
unfolding blocks_told lines_among damaged_among
blocks_counted [] l = none l
blocks_counted (b ∷ bs) l =
    let one_more : 1 + length bs ≡ length (b ∷ bs) = omega arith in
    subst (λ (n : ℕ). Counted l (blocks_told (b ∷ bs) l) (lines_among (b ∷ bs)) n (damaged_among (b ∷ bs))) one_more
    (both l (block_told b l) _ (lines_in b) 1 (pick (is_damaged b) 1 0) (lines_among bs) (length bs) (damaged_among bs) (block_counted b l) (blocks_counted bs (block_told b l).lister))

pub listed_as_lem : (file : List ℕ) → ListedAs file
unfolding list_of
listed_as_lem file =
    let w = blocks_counted (blocks_in file) fresh in
    record {
      said = w.said;
      whole = ap₂ ◌++◌ w.text (ap₂ closing_of (w.block_count ∙ omega arith) (w.damaged_count ∙ omega arith));
      many = w.many;
    }
