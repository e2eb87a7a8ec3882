-- Captures in which two advances were merged (02, Seven: "Capture tools merge idle periods"): two advance records that follow each other in one block against one with their
-- sum, and what becomes of the list.
use Rattle.std.specs.Prelude.{true, false, List, [], ◌∷◌, ◌++◌, ◌≡◌, ℕ, ◌+◌, ◌≤◌, length, Ok}
use Rattle.block.specs.Blocks.{is_damaged, used_part}
use Rattle.pen.specs.Lines.{closing_of}
use Rattle.capture.specs.Listers.{fresh, one_block_more}
use Rattle.capture.specs.Lists.{noted, is_malformed, block_told, blocks_in, list_of}
use Rattle.capture.specs.declared.lister.Lister.{Lister}
use Rattle.pen.specs.declared.words.Word.{Word}
use Rattle.capture_record.specs.Entries.{Noted, advancing, entry_means}
use Rattle.capture_record.specs.Records.{Records, more, records_in}
use Rattle.station.specs.Clock.{advance_of}
use Rattle.station.specs.Stations.{unit_limit}
use Rattle.claims.specs.HistoryLines.{says}
use Rattle.claims.specs.Numbered.{Said, numbered_from, lines_among, damaged_among}

-- a record of a block, by its kind and its contents
pub record RawRecord : Type 0 where
  pub kind : ℕ
  pub contents : List ℕ

abbrev pub entry_of : RawRecord → Noted
entry_of x = entry_means x.kind x.contents

abbrev pub in_front : RawRecord → Records → Records
in_front x rs = more x.kind x.contents rs

-- some records, and those after them
unfoldable pub leading : List RawRecord → Records → Records
leading [] rs = rs
leading (x ∷ xs) rs = in_front x (leading xs rs)

unfoldable pub NoneMalformed : List RawRecord → Type 0
NoneMalformed [] = Unit {0}
NoneMalformed (x ∷ xs) = (is_malformed (entry_of x) ≡ false) × NoneMalformed xs

-- in the second, one advance stands for two of the first
pub record MergedRecords (rs rs' : Records) : Type 0 where
  pub first : List RawRecord
  pub whole : NoneMalformed first
  pub one : RawRecord
  pub next : RawRecord
  pub both : RawRecord
  pub a : ℕ
  pub b : ℕ
  pub one_advances : entry_of one ≡ advancing a
  pub next_advances : entry_of next ≡ advancing b
  pub both_advances : entry_of both ≡ advancing (a + b)
  pub few : a + b ≤ unit_limit
  pub rest : Records
  pub apart : rs ≡ leading first (in_front one (in_front next rest))
  pub together : rs' ≡ leading first (in_front both rest)

-- two files with the same blocks, but for one
pub record MergedFiles (file file' : List ℕ) : Type 0 where
  pub earlier : List (List ℕ)
  pub block : List ℕ
  pub block' : List ℕ
  pub later : List (List ℕ)
  pub is_first : blocks_in file ≡ earlier ++ (block ∷ later)
  pub is_second : blocks_in file' ≡ earlier ++ (block' ∷ later)
  pub undamaged : is_damaged block ≡ false
  pub undamaged' : is_damaged block' ≡ false
  pub merged : MergedRecords (records_in (used_part block)) (records_in (used_part block'))

-- ---- both advances were accepted

-- the lister where the two records come, as the list's definition has it: past the earlier blocks, and past the records before them
unfoldable pub past_blocks : List (List ℕ) → Lister → Lister
past_blocks [] l = l
past_blocks (b ∷ bs) l = past_blocks bs (block_told b l).lister

unfoldable pub past_records : List RawRecord → Lister → Lister
past_records [] l = l
past_records (x ∷ xs) l = past_records xs (noted l (entry_of x)).lister

module _ {file file' : List ℕ} (m : MergedFiles file file') where
  abbrev pub lister_at : Lister
  lister_at = past_records m.merged.first (one_block_more (past_blocks m.earlier fresh) 0)

  -- a station is followed there, and goes on by a and then by b
  pub record BothAccepted : Type 0 where
    pub followed : lister_at.active ≡ true
    pub first_accepted : (advance_of lister_at.station m.merged.a).answer ≡ Ok tt
    pub second_accepted : (advance_of (advance_of lister_at.station m.merged.a).station m.merged.b).answer ≡ Ok tt

  -- how many lines come before theirs
  abbrev pub lines_before : ℕ
  lines_before = lines_among m.earlier + length m.merged.first

-- ---- the two lists

-- the line of an advance that was accepted
abbrev pub went_on : Said
went_on = says Word.Advance 0

abbrev pub closing_line : List ℕ → List ℕ
closing_line file = closing_of (length (blocks_in file)) (damaged_among (blocks_in file))

-- but for one of the two lines the lists are the same: those after it are numbered one lower, and so many come before
pub record ListsMerge (file file' : List ℕ) (many : ℕ) : Type 0 where
  pub lines_before_lem : List Said
  pub lines_after : List Said
  pub placed : length lines_before_lem ≡ many
  pub first_list : list_of file ≡ numbered_from 0 (lines_before_lem ++ (went_on ∷ went_on ∷ lines_after)) ++ closing_line file
  pub second_list : list_of file' ≡ numbered_from 0 (lines_before_lem ++ (went_on ∷ lines_after)) ++ closing_line file
