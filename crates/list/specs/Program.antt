-- The program (01, "Capture blocks and the evening list"): the file is read piece by piece, each piece is listed into a buffer, and what stands there is written. What is
-- read and written no contract can say, so these are promises about the buffers and the lister.
use Rattle.std.specs.Prelude.{List, ◌⊎◌, ◌≡◌, ℕ, ◌%◌, ◌<◌, ◌≤◌, length, take, Result, Ok, Err}
use Rattle.answer.specs.Checks.{Outcome}
use Rattle.block.specs.Blocks.{block_size}
use Rattle.capture.specs.Feeding.{feed_means, filled_by}
use Rattle.capture.specs.Listers.{Fits}
use Rattle.capture.specs.Lists.{Told, blocks_in, blocks_told, file_told}
use Rattle.capture.specs.declared.lister.Lister.{Lister}
use Rattle.list.specs.declared.Listed.{Listed}
use Rattle.list.specs.declared.input.Filled.{Filled}
use Rattle.list.specs.declared.output.Cut.{Cut}

-- what was read lies in the buffer; where the input has ended it does not fill it
abbrev pub Within : Filled → ℕ → Type 0
Within Filled.Full size = Unit {0}
Within (Filled.Ended n) size = n < size
Within (Filled.Failed n) size = n ≤ size

-- ---- a piece of the file

-- what it tells, for a buffer of so many octets
abbrev pub fed : Lister → List ℕ → ℕ → Outcome Told
fed l piece size = feed_means l (length (blocks_in piece)) (blocks_told (blocks_in piece) l) size

-- the lister after it, unless it could not be listed or written
abbrev pub ListedAs : Outcome Told → Result Lister Cut → Type 0
ListedAs (Err r) result = result ≡ Err Cut.TooLong
ListedAs (Ok t) result = (result ≡ Ok t.lister) ⊎ (result ≡ Err Cut.WriteFailed)

pub record PieceListed (l : Lister) (piece out : List ℕ) (result : Result Lister Cut) (exit : List ℕ) : Type 0 where
  pub lines : exit ≡ filled_by (fed l piece (length out)) out
  pub stands : ListedAs (fed l piece (length out)) result

-- a full buffer is a piece, and so is what the input ends with; after a read error only whole blocks are
abbrev pub PieceOf : Filled → ℕ → ℕ → Type 0
PieceOf Filled.Full n size = n ≡ size
PieceOf (Filled.Ended k) n size = (n ≡ k) × (n < size)
PieceOf (Filled.Failed k) n size = (n ≤ k) × (n ≤ size) × (n % block_size ≡ 0)

-- ---- one turn: what was read is in the input buffer, and its first octets are the piece that was listed

-- how the listing stands after it: a list whose input could not be read is cut after its last whole block
abbrev pub turned_by : Filled → Result Lister Cut → Result Listed Cut
turned_by filled (Err c) = Err c
turned_by Filled.Full (Ok l) = Ok (Listed.More l)
turned_by (Filled.Ended n) (Ok l) = Ok (Listed.Last l)
turned_by (Filled.Failed n) (Ok l) = Err Cut.ReadFailed

pub record Turned (l : Lister) (input out : List ℕ) (result : Result Listed Cut) (exit : List ℕ) : Type 0 where
  pub filled : Filled
  pub count : ℕ
  pub cut : PieceOf filled count (length input)
  pub after : Result Lister Cut
  pub listed : PieceListed l (take count input) out after exit
  pub stands : result ≡ turned_by filled after

-- the lister after it may be handed on
abbrev pub TurnFits : Result Listed Cut → Type 0
TurnFits (Err c) = Unit {0}
TurnFits (Ok (Listed.More l)) = Fits l
TurnFits (Ok (Listed.Last l)) = Fits l

-- ---- all turns

-- the lister is one that some file leaves
abbrev pub LeftByFile : Lister → Type 0
LeftByFile l = (file : List ℕ) × (l ≡ (file_told file).lister)

-- and that file ends with a block
pub record LeftByBlocks (l : Lister) : Type 0 where
  pub file : List ℕ
  pub same : l ≡ (file_told file).lister
  pub cut : length file % block_size ≡ 0

-- as long as the listing goes on the file ends with a block
abbrev pub Reached : Result Listed Cut → Type 0
Reached (Err c) = Unit {0}
Reached (Ok (Listed.More l)) = LeftByBlocks l
Reached (Ok (Listed.Last l)) = LeftByFile l

-- ---- the end

-- a whole listing is closed; one that did not come to an end has too many blocks; one that was cut stays so
abbrev pub ClosedAs : Result Listed Cut → Result Unit Cut → Type 0
ClosedAs (Err c) result = result ≡ Err c
ClosedAs (Ok (Listed.More l)) result = result ≡ Err Cut.TooLong
ClosedAs (Ok (Listed.Last l)) result = (result ≡ Ok tt) ⊎ (result ≡ Err Cut.WriteFailed)
