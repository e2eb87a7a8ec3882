-- What the list of a file is, seen as lines (01, "Capture blocks and the evening list": each record makes one line, number from 1 over the file; a
-- malformed one and a damaged block are numbered too; the last line is blocks, how many in all, damaged, how many were).
use Rattle.std.specs.Prelude.{List, [], ◌∷◌, ◌++◌, ◌≡◌, ℕ, ◌+◌, length, Option}
use Rattle.answer.specs.Checks.{pick}
use Rattle.block.specs.Blocks.{is_damaged, used_part}
use Rattle.capture.specs.Lists.{is_malformed, blocks_in, list_of}
use Rattle.capture_record.specs.Entries.{entry_means}
use Rattle.capture_record.specs.Records.{Records, end, cut, more, records_in}
use Rattle.pen.specs.Lines.{line_of, closing_of}
use Rattle.pen.specs.declared.words.Word.{Word}

-- what a line says after its number: the word, the answer's number, and where a frame broke
pub record Said : Type 0 where
  pub word : Word
  pub answer : ℕ
  pub offset : Option ℕ

-- lines one after the other, each numbered one higher than the one before
unfoldable pub numbered_from : ℕ → List Said → List ℕ
numbered_from n [] = []
numbered_from n (s ∷ ss) = line_of (n + 1) s.word s.answer s.offset ++ numbered_from (n + 1) ss

-- how many records there are up to the end of the used part, or up to and with a malformed one
unfoldable pub records_counted : Records → ℕ
records_counted end = 0
records_counted cut = 1
records_counted (more kind c rs) = pick (is_malformed (entry_means kind c)) 1 (1 + records_counted rs)

-- a line for each record, or one for a damaged block
abbrev pub lines_in : List ℕ → ℕ
lines_in b = pick (is_damaged b) 1 (records_counted (records_in (used_part b)))

unfoldable pub lines_among : List (List ℕ) → ℕ
lines_among [] = 0
lines_among (b ∷ bs) = lines_in b + lines_among bs

unfoldable pub damaged_among : List (List ℕ) → ℕ
damaged_among [] = 0
damaged_among (b ∷ bs) = pick (is_damaged b) 1 0 + damaged_among bs

-- a file's list: as many lines as there are records and damaged blocks, and the closing line with the number of blocks and of damaged ones
pub record ListedAs (file : List ℕ) : Type 0 where
  pub said : List Said
  pub whole : list_of file ≡ numbered_from 0 said ++ closing_of (length (blocks_in file)) (damaged_among (blocks_in file))
  pub many : length said ≡ lines_among (blocks_in file)
