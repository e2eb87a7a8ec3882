-- A file's blocks one after the other, and how many there were. Assumes nothing.
use Rattle.std.specs.Prelude.{Ok, Err, Some, None, Option}
use mathlib.Core.Bool.{Bool, true, false}
use mathlib.Core.List.{List, [], ◌∷◌, ◌++◌}
use mathlib.Core.Path.{◌≡◌, refl, sym, ap, ap₂, ◌∙◌}
use Prim.Native.Nat.{ℕ, zero, suc, ◌+◌, ◌-◌, ◌%◌, ◌<◌, ◌≤◌}
use native.Mathlib.Omega.{arith}
use borrow.Author.Tests.{leb-false}
use lib.Dec.{leb}
use lib.ListN.{length, take, drop, length-drop, drop_of_length-le}
use lib.Seq.{take_all, drop-drop, take-append-le, drop-append-le}
use Rattle.answer.specs.Checks.{Outcome, pick}
use Rattle.block.specs.Blocks.{block_size, end_after, used_part, block_means}
use Rattle.capture_record.specs.Entries.{Noted, malformed, starting, advancing, hearing, asking, entry_means}
use Rattle.capture_record.specs.Records.{Records, end, cut, more, records_in}
use Rattle.station.specs.Starting.{start_means}
use Rattle.station.specs.declared.Station.{Station}
use Rattle.capture.specs.Listers.{one_block_more}
use Rattle.capture.specs.Lists.{Told, before, started, bad_record, noted, is_malformed, recorded, judged, block_told, blocks_after, blocks_in}
use Rattle.capture.specs.declared.lister.Lister.{Lister}

-- ---- the first block, and the others

after : (skip : ℕ) (os : List ℕ) → blocks_after skip os ≡ blocks_in (drop skip os)
unfolding blocks_after blocks_in
after zero os = refl
after (suc skip) [] = refl
after (suc skip) (o ∷ os) = after skip os

pub first_block : (os : List ℕ) → 0 < length os → blocks_in os ≡ take 512 os ∷ blocks_in (drop 512 os)
unfolding blocks_after blocks_in
first_block [] h = absurd (omega arith)
first_block (o ∷ os) h = ap (λ (bs : List (List ℕ)). take 512 (o ∷ os) ∷ bs) (after 511 os)

module _ (file : List ℕ) (at : ℕ) (h : at < length file) where
  -- the block that begins at a place, and the place where it ends
  ends : (whole : Bool) → leb (at + 512) (length file) ≡ whole
      → (take (pick whole (at + 512) (length file) - at) (drop at file) ≡ take 512 (drop at file))
      × (drop 512 (drop at file) ≡ drop (pick whole (at + 512) (length file)) file)
  ends true e = (ap (λ (n : ℕ). take n (drop at file)) (let same : at + 512 - at ≡ 512 = omega arith in same), drop-drop 512 at file)
  ends false e =
      let left = length-drop at file in
      let short : length file < at + 512 = leb-false (at + 512) (length file) e in (
        take_all (length file - at) (drop at file) (omega (arith, left)) ∙ sym (take_all 512 (drop at file) (omega (arith, left))),
        drop_of_length-le (drop at file) {i = 512} (omega (arith, left)) ∙ sym (drop_of_length-le file {i = length file} (omega arith)),
      )

  pub next_block : blocks_in (drop at file) ≡ take (end_after at (length file) - at) (drop at file) ∷ blocks_in (drop (end_after at (length file)) file)
  next_block =
      let w = ends (leb (at + 512) (length file)) refl in
      first_block (drop at file) (omega (arith, length-drop at file)) ∙ ap₂ (λ (b rest : List ℕ). b ∷ blocks_in rest) (sym w.0) w.1

-- octets that are cut at the end of a block have the blocks of both parts
pub cut_at_block : (os rest : List ℕ) → length os % block_size ≡ 0 → blocks_in (os ++ rest) ≡ blocks_in os ++ blocks_in rest
cut_at_block os rest = by (length os) os (omega arith)
  where
    by : (bound : ℕ) (xs : List ℕ) → length xs ≤ bound → length xs % block_size ≡ 0 → blocks_in (xs ++ rest) ≡ blocks_in xs ++ blocks_in rest
    by zero [] h e = unfold blocks_in blocks_after in refl
    by zero (x ∷ xs) h e = absurd (omega arith)
    by (suc bound) [] h e = unfold blocks_in blocks_after in refl
    by (suc bound) (x ∷ xs) h e =
        let ys = x ∷ xs in
        let long : 512 ≤ length ys = omega arith in
        let left = length-drop 512 ys in
        first_block (ys ++ rest) (omega arith)
        ∙ ap₂ (λ (b os : List ℕ). b ∷ blocks_in os) (take-append-le 512 ys rest long) (drop-append-le 512 ys rest long)
        ∙ ap (λ (bs : List (List ℕ)). take 512 ys ∷ bs) (by bound (drop 512 ys) (omega (arith, left)) (omega (arith, left, e)))
        ∙ ap (λ (bs : List (List ℕ)). bs ++ blocks_in rest) (sym (first_block ys (omega arith)))

-- ---- a block counts as one

started_blocks : (l : Lister) (o : Outcome Station) → (started l o).lister.blocks ≡ l.blocks
started_blocks l (Err r) = refl
started_blocks l (Ok s) = refl

either_blocks : (l : Lister) (test : Bool) (t u : Told) → t.lister.blocks ≡ l.blocks → u.lister.blocks ≡ l.blocks → (pick test t u).lister.blocks ≡ l.blocks
either_blocks l true t u e f = e
either_blocks l false t u e f = f

noted_blocks : (l : Lister) (n : Noted) → (noted l n).lister.blocks ≡ l.blocks
unfolding noted
noted_blocks l malformed = refl
noted_blocks l (starting s) = started_blocks l (start_means s.own s.ap s.interval s.channel)
noted_blocks l (advancing n) = either_blocks l l.active _ _ refl refl
noted_blocks l (hearing f) = either_blocks l l.active _ _ refl refl
noted_blocks l (asking n) = either_blocks l l.active _ _ refl refl

recorded_blocks : (rs : Records) (l : Lister) → (recorded rs l).lister.blocks ≡ l.blocks
unfolding recorded
recorded_blocks end l = refl
recorded_blocks cut l = refl
recorded_blocks (more kind c rs) l =
    let n = noted l (entry_means kind c) in
    either_blocks l (is_malformed (entry_means kind c)) (bad_record l) (before n.text (recorded rs n.lister)) refl
    (recorded_blocks rs n.lister ∙ noted_blocks l (entry_means kind c))

pub one_more : (b : List ℕ) (l : Lister) → (block_told b l).lister.blocks ≡ l.blocks + 1
unfolding block_told
one_more b l = by_block (block_means b)
  where
    by_block : (j : Option ℕ) → (judged j b l).lister.blocks ≡ l.blocks + 1
    by_block None = refl
    by_block (Some n) = recorded_blocks (records_in (used_part b)) (one_block_more l 0)
