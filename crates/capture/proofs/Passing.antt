-- The blocks of some octets in one pass: what is told so far, and what is left from a place on. Assumes nothing.
use Rattle.std.specs.Prelude.{Some, None, Option}
use mathlib.Core.Bool.{Bool, true, false}
use mathlib.Core.List.{List, [], ◌∷◌, ◌++◌, append-nil}
use mathlib.Core.Path.{◌≡◌, refl, sym, ap, ap₂, ◌∙◌, subst}
use Prim.Native.Nat.{ℕ, ◌+◌, ◌*◌, ◌-◌, ◌<◌, ◌≤◌}
use native.Mathlib.Omega.{arith}
use lib.ListN.{length, take, drop, length-append, length-take, length-drop, drop_of_length-le}
use lib.Seq.{length-take-le, take-take, drop-drop}
use Rattle.answer.proofs.Booleans.{clash}
use Rattle.answer.specs.Checks.{pick}
use Rattle.answer.specs.declared.Refusal.{Refusal}
use Rattle.block.proofs.Ending.{end_inside}
use Rattle.block.proofs.Judging.{used_within}
use Rattle.block.specs.Blocks.{used_part, end_after}
use Rattle.capture_record.proofs.Walking as Walking
use Rattle.capture_record.specs.Entries.{Noted, entry_told}
use Rattle.capture_record.specs.Records.{Records, end, cut, records_in}
use Rattle.capture_record.specs.declared.entry.Entry.{Entry}
use Rattle.octets.proofs.Parts.{after_cut}
use Rattle.octets.proofs.Storing.{filled_length, after_left, after_over}
use Rattle.octets.specs.Writing.{left, over, filled}
use Rattle.pen.specs.Numerals.{Spells}
use Rattle.pen.specs.Penning.{Penned}
use Rattle.pen.specs.Rooms.{line_room}
use Rattle.pen.specs.declared.Pen.{Pen}
use Rattle.pen.specs.declared.words.Word.{Word}
use Rattle.station.proofs.Clearing.{nothing_clear}
use Rattle.station.specs.Clear.{Clear}
use Rattle.station.specs.Stations.{with_clock}
use Rattle.capture.specs.CodeTerms.Blocks.{block_from, Begins, rest_from}
use Rattle.capture.specs.CodeTerms.Following.{Answered, line_for, Follows, Fed}
use Rattle.capture.specs.CodeTerms.Noting.{entry_malformed}
use Rattle.capture.specs.CodeTerms.Plain.{lines_left, clocked_at, Notes, Watched, RanFrom}
use Rattle.capture.specs.Feeding.{enough_room}
use Rattle.capture.specs.Listers.{block_limit, most_lines, line_limit, with_lines, with_blocks, without, one_block_more, Sound, Fits}
use Rattle.capture.specs.Lists as Lists
use Rattle.capture.specs.Lists.{Told, nothing, before, refusal, answer_line, bad_record, noted, is_malformed, recorded, blocks_in, blocks_told}
use Rattle.capture.specs.declared.lister.Lister.{Lister}
use Rattle.capture.specs.declared.parts.Parts.{Parts}
use Rattle.capture.specs.declared.plain.Ran.{Ran}
use Rattle.capture.proofs.Cutting.{next_block}
use Rattle.capture.proofs.Fitting.{told_as}
use Rattle.capture.proofs.Plainly.{then_more}
use Rattle.capture.proofs.Recording.{same_malformed, bad_noted, before_before}
use Rattle.capture.proofs.StaysSound.{none_sound}

-- ---- blocks after something was told

abbrev pub then : Told → List (List ℕ) → Told
then t bs = before t.text (blocks_told bs t.lister)

pub then_before : (xs : List ℕ) (t : Told) (bs : List (List ℕ)) → then (before xs t) bs ≡ before xs (then t bs)
then_before xs t bs = sym (before_before xs t.text (blocks_told bs t.lister))

-- the rest of a block, and the blocks after it
abbrev pub rest : List ℕ → ℕ → ℕ → ℕ → Lister → Told
rest file at stop after l = then (recorded (records_in (drop at (take stop file))) l) (blocks_in (drop after file))

-- ---- what stands next

module _ (file : List ℕ) (at stop after : ℕ) (l : Lister) where
  -- at the end of a block
  pub none_left : records_in (drop at (take stop file)) ≡ end → rest file at stop after l ≡ blocks_told (blocks_in (drop after file)) l
  unfolding recorded
  none_left e = ap (λ (rs : Records). then (recorded rs l) (blocks_in (drop after file))) e

  -- past the records of a block
  pub all_passed : rest file stop stop after l ≡ blocks_told (blocks_in (drop after file)) l
  unfolding recorded
  all_passed =
      ap (λ (rs : Records). then (recorded rs l) (blocks_in (drop after file))) (Walking.at_end (take stop file) stop (omega (arith, length-take stop file)))

  -- a record that is cut
  pub cut_told : records_in (drop at (take stop file)) ≡ cut → rest file at stop after l ≡ before (bad_record l).text (blocks_told (blocks_in (drop after file)) (bad_record l).lister)
  unfolding recorded
  cut_told e = ap (λ (rs : Records). then (recorded rs l) (blocks_in (drop after file))) e

  -- a malformed one
  pub bad_told : (stands : ℕ) (x : Noted) → Notes (take stop file) at stands x → is_malformed x ≡ true
      → rest file at stop after l ≡ before (noted l x).text (blocks_told (blocks_in (drop after file)) (noted l x).lister)
  unfolding recorded
  bad_told stands x n bad =
      ap (λ (rs : Records). then (recorded rs l) (blocks_in (drop after file))) n.stands
      ∙ ap (λ (y : Noted). then (pick (is_malformed y) (bad_record l) (before (noted l y).text (recorded (records_in (drop stands (take stop file))) (noted l y).lister))) (blocks_in (drop after file))) n.means
      ∙ ap (λ (b : Bool). then (pick b (bad_record l) (before (noted l x).text (recorded (records_in (drop stands (take stop file))) (noted l x).lister))) (blocks_in (drop after file))) bad
      ∙ ap (λ (t : Told). then t (blocks_in (drop after file))) (sym (bad_noted l x bad))

  pub good_told : (stands : ℕ) (x : Noted) → Notes (take stop file) at stands x → is_malformed x ≡ false
      → rest file at stop after l ≡ before (noted l x).text (rest file stands stop after (noted l x).lister)
  good_told stands x n good =
      ap (λ (t : Told). then t (blocks_in (drop after file))) (then_more (take stop file) at stands x l n good)
      ∙ then_before (noted l x).text (recorded (records_in (drop stands (take stop file))) (noted l x).lister) (blocks_in (drop after file))

-- ---- a block

module _ (file : List ℕ) (at end : ℕ) (j : Option ℕ) (b : Begins file at end j) where
  pub begun_inside : (at < end) × (end ≤ length file)
  begun_inside = let e = end_inside (at) (length file) b.some in (omega (arith, e, b.ends), omega (arith, e, b.ends))

  -- it is the first of those that are left
  first : blocks_in (drop at file) ≡ block_from file at ∷ blocks_in (drop end file)
  first = next_block file at b.some ∙ ap (λ (n : ℕ). block_from file at ∷ blocks_in (drop n file)) (sym b.ends)

  pub one_fewer : length (blocks_in (drop at file)) ≡ 1 + length (blocks_in (drop end file))
  one_fewer = omega (arith, ap length first)

  pub first_told : (l : Lister) → blocks_told (blocks_in (drop at file)) l ≡ then (Lists.judged j (block_from file at) l) (blocks_in (drop end file))
  unfolding blocks_told
  first_told l =
      ap (λ (bs : List (List ℕ)). blocks_told bs l) first
      ∙ ap (λ (t : Told). then t (blocks_in (drop end file))) (sym (told_as l (block_from file at) j b.judged))

-- the used part of a whole block
module _ (file : List ℕ) (at end n : ℕ) (b : Begins file at end (Some n)) where
  pub used_inside : (n ≤ 508) × (end ≡ at + 512)
  used_inside =
      let w = used_within (block_from file at) n b.judged in
      let size = length-take (end_after at (length file) - at) (drop at file) in
      (w.2, omega (arith, w, size, b.ends, length-drop at file, begun_inside file at end (Some n) b))

  used_there : used_part (block_from file at) ≡ drop (at + 2) (take (at + 2 + n) file)
  used_there =
      let w = used_within (block_from file at) n b.judged in
      let m = end_after at (length file) - at in
      let long : m ≡ 2 + (m - 2) = omega (arith, used_inside, b.ends) in
      ap (λ (k : ℕ). take k (drop 2 (block_from file at))) (sym w.1)
      ∙ ap (λ (k : ℕ). take n (drop 2 (take k (drop at file)))) long
      ∙ ap (take n) (after_cut 2 (m - 2) (drop at file) (omega (arith, used_inside, b.ends, begun_inside file at end (Some n) b, length-drop at file)) ∙ ap (take (m - 2)) (drop-drop 2 at file))
      ∙ take-take n (m - 2) (drop (at + 2) file) (omega (arith, used_inside, b.ends))
      ∙ sym (after_cut (at + 2) n file (omega (arith, used_inside, begun_inside file at end (Some n) b)))

  pub opened_told : (l : Lister) → blocks_told (blocks_in (drop at file)) l ≡ rest file (at + 2) (at + 2 + n) end (one_block_more l 0)
  opened_told l =
      first_told file at end (Some n) b l
      ∙ ap (λ (used : List ℕ). then (recorded (records_in used) (one_block_more l 0)) (blocks_in (drop end file))) used_there

-- ---- the lines so far

-- a line that was put is put under another name
pub penned_as : {line other : List ℕ} {pen : Pen} {out : List ℕ} {next : Pen} {digits exit : List ℕ} → line ≡ other → Penned line pen out next digits exit → Penned other pen out next digits exit
penned_as {pen} {out} {next} {digits} {exit} e w = subst (λ (x : List ℕ). Penned x pen out next digits exit) e w

pub record Standing (file : List ℕ) (l₀ : Lister) (out₀ out : List ℕ) (l : Lister) (digits : List ℕ) (pen : Pen) (clear at stop after : ℕ) : Type 0 where
  pub lines : List ℕ
  pub told : blocks_told (blocks_in file) l₀ ≡ before lines (rest file at stop after l)
  pub stands : out ≡ filled lines out₀
  pub many : pen.count ≡ length lines
  pub sound : Sound l
  pub numbered : l.lines ≡ pen.lines
  pub spells : Spells pen.lines digits pen.from
  pub clears : l.active ≡ true → Clear l.station clear
  pub in_block : at ≤ stop
  pub in_blocks : stop ≤ after
  pub in_file : after ≤ length file
  pub counted : l.blocks + length (blocks_in (drop after file)) ≡ l₀.blocks + length (blocks_in file)
  pub few : pen.lines + lines_left (stop - at) + most_lines * l₀.blocks ≤ l₀.lines + most_lines * l.blocks
  pub room : pen.count + line_room * l₀.lines ≤ line_room * pen.lines
  pub few_damaged : l.damaged ≤ l.blocks

pub begins : (file : List ℕ) (l : Lister) (out digits : List ℕ) (pen : Pen) → Fits l → pen.lines ≡ l.lines → pen.count ≡ 0 → Spells l.lines digits pen.from
    → Standing file l out out l digits pen 0 0 0 0
begins file l out digits pen f same none s =
    record {
      lines = [];
      told = sym (none_left file 0 0 0 l (Walking.at_end (take 0 file) 0 (omega (arith, length-take 0 file))));
      stands = refl;
      many = none;
      sound = f.sound;
      numbered = sym same;
      spells = subst (λ (n : ℕ). Spells n digits pen.from) (sym same) s;
      clears = λ e. nothing_clear l.station;
      in_block = omega arith;
      in_blocks = omega arith;
      in_file = omega arith;
      counted = refl;
      few = omega (arith, same);
      room = omega (arith, same, none);
      few_damaged = f.few_damaged;
    }

-- of a lister and at a place under other names
pub standing_as : {file : List ℕ} {l₀ : Lister} {out₀ out : List ℕ} {l m : Lister} {digits : List ℕ}
    {pen : Pen} {clear at i stop after : ℕ} → m ≡ l → i ≡ at
    → Standing file l₀ out₀ out l digits pen clear at stop after
    → Standing file l₀ out₀ out m digits pen clear i stop after
standing_as e f w = rw (e, f) w

-- parts whose station's clock has gone on
abbrev pub clocked_parts : Parts → ℕ → Parts
clocked_parts p t =
    let a = p.apart in
    let r = a.rest in
    record {
      blocks = p.blocks;
      damaged = p.damaged;
      active = p.active;
      apart =
          record {
            own = a.own;
            ap = a.ap;
            rest =
                record {
                  interval = r.interval;
                  clock = t;
                  channel = r.channel;
                  power = r.power;
                  pending = r.pending;
                  until = r.until;
                };
            count = a.count;
          };
    }

-- the blocks do not go past the limit
abbrev pub Few : List ℕ → Lister → Type 0
Few file l = l.blocks + length (blocks_in file) ≤ block_limit

module _ {file : List ℕ} {l₀ : Lister} {out₀ out : List ℕ} {l : Lister} {digits : List ℕ} {pen : Pen} {clear at stop after : ℕ}
    (fits₀ : Fits l₀) (limit : Few file l₀)
    (big : length (blocks_in file) * enough_room ≤ length out₀)
    (i : Standing file l₀ out₀ out l digits pen clear at stop after) where
  -- the records of the block
  pub used_size : length (take stop file) ≡ stop
  used_size = length-take-le stop file (omega (arith, i.in_blocks, i.in_file))

  inside : length i.lines ≤ length out₀
  inside = omega (arith, i.many, i.room, i.few, i.counted, big)

  -- the buffer keeps its length
  pub same_size : length out ≡ length out₀
  same_size = ap length i.stands ∙ filled_length i.lines out₀ inside

  -- the counts of blocks are small
  pub few_counts : (l.blocks ≤ block_limit) × (l.damaged ≤ block_limit)
  few_counts = (omega (arith, i.counted, limit), omega (arith, i.counted, limit, i.few_damaged))

  -- and those of a lister that is the same without its station
  pub few_without : {m : Lister} → m ≡ without l
      → (m.blocks ≤ block_limit) × (m.damaged ≤ block_limit)
  few_without e = (
    omega (arith, few_counts, ap (λ (x : Lister). x.blocks) e),
    omega (arith, few_counts, ap (λ (x : Lister). x.damaged) e),
  )

  watched : Watched l l.active l.station.clock l.station.pending clear
  watched = record { same = refl; clock = refl; pending = refl; valid = i.sound.followed; clear = i.clears }

  -- ---- after plain records

  module _ (r : Ran) (digits' exit : List ℕ) (x : RanFrom (take stop file) at l.active l.station.clock l.station.pending clear pen out r digits' exit) where
    abbrev ran_to : Lister
    ran_to = with_lines (clocked_at l r.clock) r.pen.lines

    ran_sound : Sound ran_to
    ran_sound =
        record {
          followed = λ e. (x.watched l watched).valid e;
          idle = λ e. ap (λ (n : ℕ). with_clock l.station n) (x.idle e) ∙ i.sound.idle e;
        }

    pub ran_standing : Standing file l₀ out₀ exit ran_to digits' r.pen clear r.at stop after
    ran_standing =
        let more = length-append i.lines x.text in
        let size = used_size in
        record {
          lines = i.lines ++ x.text;
          told =
              i.told
              ∙ ap (before i.lines)
              (ap (λ (y : Lister). rest file at stop after y) (ap (with_lines l) i.numbered)
              ∙ ap (λ (t : Told). then t (blocks_in (drop after file))) (x.told l watched)
              ∙ then_before x.text (recorded (records_in (drop r.at (take stop file))) ran_to) (blocks_in (drop after file)))
              ∙ before_before i.lines x.text (rest file r.at stop after ran_to);
          stands =
              x.leaves ∙ ap₂ (λ (b : List ℕ) (n : ℕ). over b n x.text) i.stands i.many
              ∙ after_over i.lines x.text out₀ (omega (arith, i.many, i.room, i.few, i.counted, big, x.many, x.room, x.few, size));
          many = omega (arith, i.many, x.many, more);
          sound = ran_sound;
          numbered = refl;
          spells = x.spells;
          clears = (x.watched l watched).clear;
          in_block = omega (arith, x.within, size);
          in_blocks = i.in_blocks;
          in_file = i.in_file;
          counted = i.counted;
          few = omega (arith, i.few, x.few, size);
          room = omega (arith, i.room, x.room);
          few_damaged = i.few_damaged;
        }

  -- ---- the end

  pub ended : records_in (drop at (take stop file)) ≡ end → length file ≤ after → (count : ℕ) → count ≡ pen.count
      → Fed l₀ (blocks_told (blocks_in file) l₀) (record { lister = l; count = count }) × (out ≡ filled (blocks_told (blocks_in file) l₀).text out₀)
  unfolding blocks_told blocks_in Lists.blocks_after
  ended e h count same =
      let all : blocks_told (blocks_in file) l₀ ≡ before i.lines (nothing l) =
      i.told
      ∙ ap (before i.lines) (none_left file at stop after l e ∙ ap (λ (os : List ℕ). blocks_told (blocks_in os) l) (drop_of_length-le file {i = after} h)) in
      let text : (blocks_told (blocks_in file) l₀).text ≡ i.lines = ap (λ (t : Told). t.text) all ∙ append-nil i.lines in
      let none : length (blocks_in (drop after file)) ≡ 0 = ap (λ (os : List ℕ). length (blocks_in os)) (drop_of_length-le file {i = after} h) in (
        record {
          same = sym (ap (λ (t : Told). t.lister) all);
          many = same ∙ i.many ∙ ap length (sym text);
          fits =
              record {
                sound = i.sound;
                few_blocks = omega (arith, i.counted, none, limit);
                few_lines = omega (arith, i.few, i.numbered, fits₀.few_lines);
                few_damaged = i.few_damaged;
              };
        },
        i.stands ∙ ap (λ (xs : List ℕ). filled xs out₀) (sym text),
      )

  -- ---- one line more

  -- with so many blocks of those that there are, there is room for it, and a number
  pub line_room_lem : (blocks : ℕ) → blocks ≤ l₀.blocks + length (blocks_in file) → pen.lines + 1 + most_lines * l₀.blocks ≤ l₀.lines + most_lines * blocks
      → (pen.lines < line_limit) × (pen.count + line_room ≤ length out)
  line_room_lem blocks h few = (omega (arith, fits₀.few_lines, limit), omega (arith, i.room, same_size, big))

  module _ (text : List ℕ) (pen' : Pen) (digits' exit : List ℕ) (w : Penned text pen out pen' digits' exit) (next : Lister) (clear' at' stop' after' : ℕ) where
    pub line_standing : rest file at stop after l ≡ before text (rest file at' stop' after' next) → Sound next → next.lines ≡ pen'.lines
        → (next.active ≡ true → Clear next.station clear')
        → at' ≤ stop' → stop' ≤ after' → after' ≤ length file
        → next.blocks + length (blocks_in (drop after' file)) ≡ l₀.blocks + length (blocks_in file)
        → pen.lines + 1 + lines_left (stop' - at') + most_lines * l₀.blocks ≤ l₀.lines + most_lines * next.blocks
        → next.damaged ≤ next.blocks
        → Standing file l₀ out₀ exit next digits' pen' clear' at' stop' after'
    line_standing told sound numbered clears b s f counted few damaged =
        let more = length-append i.lines text in
        record {
          lines = i.lines ++ text;
          told = i.told ∙ ap (before i.lines) told ∙ before_before i.lines text (rest file at' stop' after' next);
          stands =
              w.leaves ∙ ap₂ (λ (c : List ℕ) (n : ℕ). left true text n c) i.stands i.many
              ∙ after_left i.lines text out₀ (omega (arith, i.many, i.room, counted, few, big, w.short));
          many = omega (arith, i.many, w.many, more);
          sound = sound;
          numbered = numbered;
          spells = w.spells;
          clears = clears;
          in_block = b;
          in_blocks = s;
          in_file = f;
          counted = counted;
          few = omega (arith, few, w.numbered);
          room = omega (arith, i.room, w.many, w.short, w.numbered);
          few_damaged = damaged;
        }

  -- ---- a block

  -- a whole one is opened
  pub opened : records_in (drop at (take stop file)) ≡ end → (n stop' end' : ℕ) → stop' ≡ after + 2 + n → Begins file after end' (Some n)
      → Standing file l₀ out₀ out (with_blocks l (l.blocks + 1) l.damaged) digits pen clear (after + 2) stop' end'
  opened e n stop' end' s b =
      let u = used_inside file after end' n b in
      let f = begun_inside file after end' (Some n) b in
      let one = one_fewer file after end' (Some n) b in
      record {
        lines = i.lines;
        told =
            i.told
            ∙ ap (before i.lines)
            (none_left file at stop after l e ∙ opened_told file after end' n b l
            ∙ ap₂ (λ (k m : ℕ). rest file (after + 2) k end' (with_blocks l (l.blocks + 1) m)) (sym s) (let none : l.damaged + 0 ≡ l.damaged = omega arith in none));
        stands = i.stands;
        many = i.many;
        sound = record { followed = i.sound.followed; idle = i.sound.idle };
        numbered = i.numbered;
        spells = i.spells;
        clears = i.clears;
        in_block = omega (arith, s);
        in_blocks = omega (arith, s, u);
        in_file = f.1;
        counted = omega (arith, i.counted, one);
        few = omega (arith, i.few, s, u);
        room = i.room;
        few_damaged = omega (arith, i.few_damaged);
      }

  -- a damaged one makes a line, and leaves no station
  module _ (e : records_in (drop at (take stop file)) ≡ end) (end' : ℕ) (b : Begins file after end' None) where
    pub damaged_room : (pen.lines < line_limit) × (pen.count + line_room ≤ length out)
    damaged_room = line_room_lem (l.blocks + 1) (omega (arith, i.counted, one_fewer file after end' None b)) (omega (arith, i.few))

    pub damaged_standing : (pen' : Pen) (digits' exit : List ℕ) → Penned (answer_line (pen.lines + 1) Word.Block (refusal Refusal.BlockDamaged)) pen out pen' digits' exit
        → Standing file l₀ out₀ exit (with_lines (without (one_block_more l 1)) pen'.lines) digits' pen' clear end' end' end'
    damaged_standing pen' digits' exit w =
        let f = begun_inside file after end' None b in
        line_standing (answer_line (pen.lines + 1) Word.Block (refusal Refusal.BlockDamaged)) pen' digits' exit w
        (with_lines (without (one_block_more l 1)) pen'.lines) clear end' end' end'
        (none_left file at stop after l e ∙ first_told file after end' None b l
        ∙ ap₂ (λ (n m : ℕ). before (answer_line (n + 1) Word.Block (refusal Refusal.BlockDamaged)) (blocks_told (blocks_in (drop end' file)) (with_lines (without (one_block_more l 1)) m)))
        i.numbered (ap (λ (n : ℕ). n + 1) i.numbered ∙ sym w.numbered)
        ∙ ap (before (answer_line (pen.lines + 1) Word.Block (refusal Refusal.BlockDamaged))) (sym (all_passed file at end' end' (with_lines (without (one_block_more l 1)) pen'.lines))))
        (none_sound refl refl) refl (λ a. clash (sym a))
        (omega arith) (omega arith) f.1 (omega (arith, i.counted, one_fewer file after end' None b)) (omega (arith, i.few)) (omega (arith, i.few_damaged))

  -- ---- a record that is cut

  module _ (e : records_in (drop at (take stop file)) ≡ cut) (some : at + 1 ≤ stop) where
    pub cut_standing : (pen' : Pen) (digits' exit : List ℕ) → Penned (answer_line (pen.lines + 1) Word.Record (refusal Refusal.RecordMalformed)) pen out pen' digits' exit
        → Standing file l₀ out₀ exit (with_lines (without l) pen'.lines) digits' pen' clear stop stop after
    cut_standing pen' digits' exit w =
        line_standing (answer_line (pen.lines + 1) Word.Record (refusal Refusal.RecordMalformed)) pen' digits' exit w (with_lines (without l) pen'.lines) clear stop stop after
        (cut_told file at stop after l e
        ∙ ap₂ (λ (n m : ℕ). before (answer_line (n + 1) Word.Record (refusal Refusal.RecordMalformed)) (blocks_told (blocks_in (drop after file)) (with_lines (without l) m)))
        i.numbered (ap (λ (n : ℕ). n + 1) i.numbered ∙ sym w.numbered)
        ∙ ap (before (answer_line (pen.lines + 1) Word.Record (refusal Refusal.RecordMalformed))) (sym (all_passed file at stop after (with_lines (without l) pen'.lines))))
        (none_sound refl refl) refl (λ a. clash (sym a))
        (omega arith) i.in_blocks i.in_file i.counted (omega (arith, i.few)) i.few_damaged

  -- ---- a whole record

  module _ (y : Entry) (contents : List ℕ) (end' : ℕ) (n : Notes (take stop file) at end' (entry_told contents y)) where
    -- the listing goes on past it, in the block
    pub record_past : (at + 3 ≤ rest_from y end' stop) × (rest_from y end' stop ≤ stop)
    record_past = by (entry_malformed y)
      where
        by : (bad : Bool) → (at + 3 ≤ pick bad stop end') × (pick bad stop end' ≤ stop)
        by true = (omega (arith, n.past, n.within, used_size), omega arith)
        by false = (n.past, omega (arith, n.within, used_size))

  module _ (y : Entry) (contents : List ℕ) (end' : ℕ) (n : Notes (take stop file) at end' (entry_told contents y)) (a : Answered) (says : line_for a ≡ noted l (entry_told contents y))
      (follows : Follows l a.lister) where
    -- its line, and what is left after it
    record_told : rest file at stop after l ≡ before (line_for a).text (rest file (rest_from y end' stop) stop after (line_for a).lister)
    record_told = by (entry_malformed y) refl
      where
        by : (bad : Bool) → entry_malformed y ≡ bad → rest file at stop after l ≡ before (line_for a).text (rest file (pick bad stop end') stop after (line_for a).lister)
        by true m =
            bad_told file at stop after l end' (entry_told contents y) n (same_malformed contents y ∙ m)
            ∙ ap (λ (t : Told). before t.text (blocks_told (blocks_in (drop after file)) t.lister)) (sym says)
            ∙ ap (before (line_for a).text) (sym (all_passed file at stop after (line_for a).lister))
        by false m =
            good_told file at stop after l end' (entry_told contents y) n (same_malformed contents y ∙ m)
            ∙ ap (λ (t : Told). before t.text (rest file end' stop after t.lister)) (sym says)

    pub record_standing : (pen' : Pen) (digits' exit : List ℕ) → Penned (answer_line (pen.lines + 1) a.word a.answer) pen out pen' digits' exit
        → (clear' : ℕ) → (a.lister.active ≡ true → Clear a.lister.station clear')
        → Standing file l₀ out₀ exit (with_lines a.lister pen'.lines) digits' pen' clear' (rest_from y end' stop) stop after
    record_standing pen' digits' exit w clear' clears =
        let num : pen'.lines ≡ a.lister.lines + 1 = omega (arith, w.numbered, i.numbered, follows.same_lines) in
        line_standing (answer_line (pen.lines + 1) a.word a.answer) pen' digits' exit w (with_lines a.lister pen'.lines) clear' (rest_from y end' stop) stop after
        (record_told
        ∙ ap₂ (λ (k m : ℕ). before (answer_line k a.word a.answer) (rest file (rest_from y end' stop) stop after (with_lines a.lister m)))
        (let e : a.lister.lines + 1 ≡ pen.lines + 1 = omega (arith, i.numbered, follows.same_lines) in e) (sym num))
        (record { followed = follows.sound.followed; idle = follows.sound.idle }) refl clears
        (record_past y contents end' n).1 i.in_blocks i.in_file (ap (λ (k : ℕ). k + length (blocks_in (drop after file))) follows.same_blocks ∙ i.counted)
        (omega (arith, i.few, record_past y contents end' n, follows.same_blocks)) (omega (arith, i.few_damaged, follows.same_blocks, follows.same_damaged))
