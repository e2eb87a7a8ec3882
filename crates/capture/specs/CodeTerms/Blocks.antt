-- Where the listing of some octets stands, and what comes next there.
use Rattle.std.specs.Prelude.{List, ◌≡◌, ℕ, ◌+◌, ◌-◌, ◌<◌, ◌≤◌, length, take, drop, Some, None, Option}
use Rattle.answer.specs.Checks.{pick}
use Rattle.block.specs.Blocks.{end_after, block_means}
use Rattle.capture_record.specs.declared.entry.Entry.{Entry}
use Rattle.capture.specs.CodeTerms.Noting.{entry_malformed}
use Rattle.capture.specs.declared.listing.BlockAt.{BlockAt}

-- the octets from a place on, up to the end of the block that begins there
abbrev pub block_from : List ℕ → ℕ → List ℕ
block_from file at = take (end_after at (length file) - at) (drop at file)

-- a block begins at a place, ends at `end`, and is judged so
pub record Begins (file : List ℕ) (at end : ℕ) (j : Option ℕ) : Type 0 where
  pub some : at < length file
  pub ends : end ≡ end_after at (length file)
  pub judged : block_means (block_from file at) ≡ j

abbrev pub BlockFound : List ℕ → ℕ → BlockAt → Type 0
BlockFound file at BlockAt.End = length file ≤ at
BlockFound file at (BlockAt.Damaged end) = Begins file at end None
BlockFound file at (BlockAt.Whole stop end) = (n : ℕ) × (stop ≡ at + 2 + n) × Begins file at end (Some n)

-- where the listing goes on after a record that ends at `end`, in a block whose records end at `stop`
abbrev pub rest_from : Entry → ℕ → ℕ → ℕ
rest_from e end stop = pick (entry_malformed e) stop end
