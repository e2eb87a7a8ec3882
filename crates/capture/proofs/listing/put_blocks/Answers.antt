-- `put_blocks` meets its contract: the lines so far, with what is left from the place on, are the
-- lines of the blocks.
-- Assumes nothing.
use Rattle.std.specs.Prelude.{None, Option}
use Rattle.std.proofs.Common.{Bool, true, List, length, take, drop, refl, sym, ap, ap₂, ◌∙◌, subst, arith, ℕ, ◌≡◌, ◌+◌, ◌*◌, ◌-◌, ◌≤◌}
use Rattle.apart.specs.Apart.{whole_of, HeardAs}
use Rattle.apart.specs.declared.columns.Columns.{Columns}
use Rattle.beacon.specs.Beacons.{quiet_limit}
use Rattle.apart.specs.declared.Told.{Told}
use Rattle.capture_record.specs.Entries.{hearing, entry_told}
use Rattle.capture_record.specs.declared.entry.Entry.{Entry}
use Rattle.octets.specs.Writing.{filled}
use Rattle.pen.specs.Lines.{line_of}
use Rattle.pen.specs.Numerals.{Spells}
use Rattle.pen.specs.Penning.{Penned}
use Rattle.pen.specs.declared.Pen.{Pen}
use Rattle.pen.specs.declared.words.Word.{Word}
use Rattle.station.proofs.Clearing.{nothing_clear}
use Rattle.capture.specs.CodeTerms.Following.{Fed}
use Rattle.capture.specs.CodeTerms.Noting.{heard_by}
use Rattle.capture.specs.CodeTerms.Parts.{lister_of, PartsOf}
use Rattle.capture.specs.CodeTerms.Plain.{Notes}
use Rattle.capture.specs.Feeding.{enough_room}
use Rattle.capture.specs.Listers.{with_lines, one_block_more, Fits}
use Rattle.capture.specs.Lists.{answer_line, blocks_in, blocks_told}
use Rattle.capture.specs.declared.lister.Lister.{Lister}
use Rattle.capture.specs.declared.parts.Parts.{Parts}
use Rattle.capture.specs.declared.response.Response.{Response}
use Rattle.capture.proofs.Passing.{penned_as, standing_as, clocked_parts, Few, Standing, begins, used_size, few_counts, few_without, ran_standing, ended, opened, damaged_room, damaged_standing, cut_standing, record_standing}
use Rattle.capture.proofs.Plainly.{may_put_lem}
use Rattle.capture.proofs.Together.{is_frame, no_hearer, heard_parts, answered, frame_says, frame_follows, frame_same, frame_few}
use Rattle.capture.proofs.listing.put_blocks.Goals as goal
use Rattle.capture.proofs.listing.put_blocks.Goals.{After-run-ran, After-entry_of-entry}

-- ---- before the first block

-- the parts are those of the lister that was handed in
same_first : {l : Lister} {p : Parts} {c : Columns} {n : ℕ}
    → PartsOf l p c → n ≡ l.lines → lister_of p n c ≡ l
same_first {l} {n} w e = w.same n ∙ ap (with_lines l) e

pub loop-columns-init : goal.loop-columns-init
loop-columns-init c =
    let b = c.begin-pen in
    let same = same_first c.of-parts.ensures b.ensures.0 in
    let spells =
    subst (λ (n : ℕ). Spells n b.new.digits b.result.from) (sym b.ensures.0) b.ensures.2 in
    record {
      standing =
          begins c.args.blocks.now _ c.args.out.now _ b.result (subst Fits (sym same) c.requires.fits)
          refl b.ensures.1 spells;
      few = c.of-parts.ensures.few;
    }

-- ---- after the plain records at a place

abbrev first_in : After-run-ran → Lister
first_in c =
    lister_of c.of-parts.result c.begin-pen.result.lines c.of-parts.new.columns

abbrev columns_in : After-run-ran → Columns
columns_in c = c.loop-columns.columns

-- the parts then: the clock has gone on
abbrev parts_in : After-run-ran → Parts
parts_in c = clocked_parts c.loop-columns.parts c.run-ran.result.clock

fits₀ : (c : After-run-ran) → Fits (first_in c)
fits₀ c = subst Fits (sym (same_first c.of-parts.ensures c.begin-pen.ensures.0)) c.requires.fits

limit : (c : After-run-ran) → Few c.args.blocks.now (first_in c)
limit c =
    subst (Few c.args.blocks.now) (sym (same_first c.of-parts.ensures c.begin-pen.ensures.0))
    c.requires.few_blocks

big : (c : After-run-ran)
    → length (blocks_in c.args.blocks.now) * enough_room ≤ length c.args.out.now
big c = c.requires.room

standing : (c : After-run-ran)
    → let l = c.loop-columns in
    let r = c.run-ran in
    Standing c.args.blocks.now (first_in c) c.args.out.now r.new.out
    (lister_of (parts_in c) r.result.pen.lines (columns_in c)) r.new.digits r.result.pen l.clear
    r.result.at l.stop l.after
unfolding whole_of
standing c =
    ran_standing (fits₀ c) (limit c) (big c) c.loop-columns.invariant.standing c.run-ran.result _ _
    c.run-ran.ensures

few : (c : After-run-ran) → (parts_in c).apart.count ≤ quiet_limit
few c = c.loop-columns.invariant.few

-- ---- no record is left in the block, and no block

-- of the lister that was handed in, and of the one that is handed back
back_to : (file : List ℕ) {first lister last next : Lister} (count : ℕ) (out out₀ : List ℕ)
    → first ≡ lister → last ≡ next
    → Fed first (blocks_told (blocks_in file) first) (record { lister = last; count = count })
    × (out ≡ filled (blocks_told (blocks_in file) first).text out₀)
    → Fed lister (blocks_told (blocks_in file) lister) (record { lister = next; count = count })
    × (out ≡ filled (blocks_told (blocks_in file) lister).text out₀)
back_to file count out out₀ e f h = rw (sym e, sym f) h

pub returns-in-End-block_at : goal.returns-in-End-block_at
returns-in-End-block_at c =
    let r = (goal.at.returns-in-End-block_at c).After-run-ran in
    let first = same_first c.of-parts.ensures c.begin-pen.ensures.0 in
    let e =
    ended (fits₀ r) (limit r) (big r) (standing r) c.in-End.ensures.used_value
    c.in-End-block_at.ensures _ refl in
    let f = back_to c.args.blocks.now _ _ _ first (sym c.whole.ensures) e in
    record { fed = f.0; out_after = f.1 }

-- ---- a damaged block

pub put_told-pen-requires : goal.put_told-pen-requires
put_told-pen-requires c =
    let r = (goal.at.put_told-pen-requires c).After-run-ran in
    may_put_lem (standing r).spells
    (damaged_room (fits₀ r) (limit r) (big r) (standing r) c.in-End.ensures.used_value _
    c.in-Damaged.ensures)

pub overflow_add-parts : goal.overflow_add-parts
overflow_add-parts c =
    let r = (goal.at.overflow_add-parts c).After-run-ran in
    let same = c.without-parts.ensures.same c.run-ran.result.pen.lines (columns_in r) in
    omega (arith, few_without (fits₀ r) (limit r) (big r) (standing r) same)

pub overflow_add-parts-in-Damaged : goal.overflow_add-parts-in-Damaged
overflow_add-parts-in-Damaged c =
    let r = (goal.at.overflow_add-parts-in-Damaged c).After-run-ran in
    let same = c.without-parts.ensures.same c.run-ran.result.pen.lines (columns_in r) in
    omega (arith, few_without (fits₀ r) (limit r) (big r) (standing r) same)

pub loop-columns-preserved-in-Damaged : goal.loop-columns-preserved-in-Damaged
loop-columns-preserved-in-Damaged c =
    let r = (goal.at.loop-columns-preserved-in-Damaged c).After-run-ran in
    let put = c.put_told-pen in
    let k = c.run-ran.result.pen.lines + 1 in
    let number = ap (λ (m : ℕ). line_of k Word.Block m None) c.number-number.ensures in
    let same = c.without-parts.ensures.same put.result.lines (columns_in r) in
    record {
      standing =
          standing_as (ap (λ (x : Lister). one_block_more x 1) same) refl
          (damaged_standing (fits₀ r) (limit r) (big r) (standing r) c.in-End.ensures.used_value
          c.in-Damaged.end c.in-Damaged.ensures put.result _ _
          (penned_as number put.ensures.penned));
      few = omega (arith, c.without-parts.ensures.no_schedule);
    }

-- ---- a whole block

pub overflow_add-parts-in-Whole-block_at : goal.overflow_add-parts-in-Whole-block_at
overflow_add-parts-in-Whole-block_at c =
    let r = (goal.at.overflow_add-parts-in-Whole-block_at c).After-run-ran in
    omega (arith, few_counts (fits₀ r) (limit r) (big r) (standing r))

pub loop-columns-preserved-in-Whole-block_at : goal.loop-columns-preserved-in-Whole-block_at
loop-columns-preserved-in-Whole-block_at c =
    let r = (goal.at.loop-columns-preserved-in-Whole-block_at c).After-run-ran in
    let w = c.in-Whole-block_at.ensures in
    record {
      standing = opened (fits₀ r) (limit r) (big r) (standing r) c.in-End.ensures.used_value w.0 _ _ w.1 w.2;
      few = few r;
    }

-- ---- a record that is cut

pub loop-columns-preserved-in-Cut : goal.loop-columns-preserved-in-Cut
loop-columns-preserved-in-Cut c =
    let r = (goal.at.loop-columns-preserved-in-Cut c).After-run-ran in
    let put = c.put_told-pen-in-Cut in
    let size = used_size (fits₀ r) (limit r) (big r) c.loop-columns.invariant.standing in
    let k = c.run-ran.result.pen.lines + 1 in
    let number =
    ap (λ (m : ℕ). line_of k Word.Record m None) c.number-number-in-Cut.ensures in
    let same = c.without-parts-in-Cut.ensures.same put.result.lines (columns_in r) in
    record {
      standing =
          standing_as same refl
          (cut_standing (fits₀ r) (limit r) (big r) (standing r) c.in-Cut.ensures.used_value
          (omega (arith, c.in-Cut.ensures.within, size)) put.result _ _
          (penned_as number put.ensures.penned));
      few = omega (arith, c.without-parts-in-Cut.ensures.no_schedule);
    }

-- ---- a whole record

-- what it notes
notes : (c : After-entry_of-entry)
    → let used = take c.loop-columns.stop c.args.blocks.now in
    let contents = take (c.in-Whole.end - c.in-Whole.start) (drop c.in-Whole.start used) in
    Notes used c.run-ran.result.at c.in-Whole.end (entry_told contents c.entry_of-entry.result)
notes c =
    let w = c.in-Whole.ensures.within in
    record {
      kind = c.in-Whole.kind;
      contents = _;
      stands = c.in-Whole.ensures.used_value;
      means = sym c.entry_of-entry.ensures;
      past = omega (arith, w);
      within = omega (arith, w);
    }

-- ---- a frame that the station hears

-- a record that is heard is a frame, and a station is there
frame : {b a : Bool} {y : Entry} → b ≡ heard_by a y → b ≡ true → (y ≡ Entry.Frame) × (a ≡ true)
frame by heard = is_frame _ _ (sym by ∙ heard)

frame-notes : {used contents : List ℕ} {at end : ℕ} {y : Entry} → y ≡ Entry.Frame
    → Notes used at end (entry_told contents y) → Notes used at end (hearing contents)
frame-notes {used} {contents} {at} {end} e n =
    subst (λ (x : Entry). Notes used at end (entry_told contents x)) e n

module _ {file : List ℕ} {l₀ : Lister} {out₀ out digits : List ℕ} {pen : Pen}
    {clear at stop after : ℕ} (p : Parts) (c : Columns) (fits : Fits l₀) (most : Few file l₀)
    (room : length (blocks_in file) * enough_room ≤ length out₀)
    (i : Standing file l₀ out₀ out (lister_of p pen.lines c) digits pen clear at stop after)
    {contents : List ℕ} {end : ℕ} (n : Notes (take stop file) at end (hearing contents))
    (there : p.active ≡ true) {t : Told} {cols : Columns}
    (h : HeardAs contents p.apart c t cols) where
  -- its line, and what it leaves
  heard-standing : {pen' : Pen} {digits' exit : List ℕ}
      → Penned (answer_line (pen.lines + 1) Word.Frame (Response.Frame t.verdict)) pen out pen'
      digits' exit
      → Standing file l₀ out₀ exit
      (lister_of (heard_parts p c there _ t cols h) pen'.lines cols) digits' pen' 0 end stop after
  heard-standing {pen'} {digits'} {exit} w =
      standing_as (frame_same p c there _ t cols h pen'.lines) refl
      (record_standing fits most room i Entry.Frame _ _ n
      (answered p c there _ t cols h pen.lines)
      (frame_says p c there _ t cols h pen.lines) (frame_follows p c there _ t cols h pen.lines)
      pen' digits' exit w 0 (λ e. nothing_clear _))

pub hear-told-requires : goal.hear-told-requires
hear-told-requires c =
    let r = (goal.at.hear-told-requires c).After-run-ran in
    let f = frame c.is_heard.ensures c.if-is_heard.true in
    (standing r).sound.followed f.1

pub loop-columns-preserved-then-is_heard : goal.loop-columns-preserved-then-is_heard
loop-columns-preserved-then-is_heard c =
    let r = (goal.at.loop-columns-preserved-then-is_heard c).After-run-ran in
    let n = notes (goal.at.loop-columns-preserved-then-is_heard c).After-entry_of-entry in
    let f = frame c.is_heard.ensures c.if-is_heard.true in
    record {
      standing =
          heard-standing (parts_in r) (columns_in r) (fits₀ r) (limit r) (big r) (standing r)
          (frame-notes f.0 n) f.1 c.hear-told.ensures c.put_verdict-pen.ensures;
      few = frame_few (parts_in r) (columns_in r) f.1 _ _ _ c.hear-told.ensures;
    }

-- ---- any other record

pub note-noted-requires : goal.note-noted-requires
note-noted-requires c =
    let r = (goal.at.note-noted-requires c).After-run-ran in
    record {
      few = few r;
      sound = λ n. record { followed = (standing r).sound.followed; idle = (standing r).sound.idle };
      unheard = no_hearer _ _ (sym c.is_heard.ensures ∙ c.if-is_heard.false);
    }

pub loop-columns-preserved : goal.loop-columns-preserved
loop-columns-preserved c =
    let r = (goal.at.loop-columns-preserved c).After-run-ran in
    let e = (goal.at.loop-columns-preserved c).After-entry_of-entry in
    let m = c.note-noted in
    let n = m.ensures c.run-ran.result.pen.lines in
    let put = c.put_told-pen-else-is_heard in
    let k = c.run-ran.result.pen.lines + 1 in
    let w = c.in-Whole in
    let used = take c.loop-columns.stop c.args.blocks.now in
    let contents = take (w.end - w.start) (drop w.start used) in
    let line =
    penned_as
    (ap₂ (λ (i : ℕ) (x : Option ℕ). line_of k m.result.word i x) n.number n.offset
    ∙ ap (λ (x : Word). answer_line k x n.answered.answer) n.word)
    put.ensures.penned in
    record {
      standing =
          standing_as (n.parts.same put.result.lines) c.goes_on-at.ensures
          (record_standing (fits₀ r) (limit r) (big r) (standing r) c.entry_of-entry.result
          contents _
          (notes e) n.answered n.says n.follows put.result _ _ line m.result.clear n.clears);
      few = n.parts.few;
    }
