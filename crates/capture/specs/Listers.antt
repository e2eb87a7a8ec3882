-- What the lister keeps from block to block (01, "Capture blocks and the evening list"): how many lines, blocks and damaged blocks there were, and
-- the station that is followed, if one is started.
use Rattle.std.specs.Prelude.{Bool, true, false, ◌≡◌, ℕ, ◌+◌, ◌*◌, ◌≤◌}
use Rattle.station.specs.Starting.{blank}
use Rattle.station.specs.Validity.{Valid}
use Rattle.station.specs.declared.Station.{Station}
use Rattle.capture.specs.declared.lister.Lister.{Lister}

-- ---- limits

-- how many blocks may be listed: a file of so many would have 2 to the 64 octets
abbrev pub block_limit : ℕ
block_limit = 36028797018963968

-- a block has at most so many lines, each of which takes three octets of its payload
abbrev pub most_lines : ℕ
most_lines = 171

abbrev pub line_limit : ℕ
line_limit = most_lines * block_limit

-- ---- listers

-- no line yet, no block, no station
abbrev pub fresh : Lister
fresh = record { lines = 0; blocks = 0; damaged = 0; active = false; station = blank }

module _ (l : Lister) where
  abbrev pub with_lines : ℕ → Lister
  with_lines n = record { lines = n; blocks = l.blocks; damaged = l.damaged; active = l.active; station = l.station }

  abbrev pub with_blocks : ℕ → ℕ → Lister
  with_blocks n m = record { lines = l.lines; blocks = n; damaged = m; active = l.active; station = l.station }

  abbrev pub with_station : Bool → Station → Lister
  with_station active s = record { lines = l.lines; blocks = l.blocks; damaged = l.damaged; active = active; station = s }

  -- there is no station until the next start record
  abbrev pub without : Lister
  without = with_station false blank

  abbrev pub following : Station → Lister
  following s = with_station true s

  abbrev pub one_line_more : Lister
  one_line_more = with_lines (l.lines + 1)

  -- one block more, of which so many (0 or 1) are damaged
  abbrev pub one_block_more : ℕ → Lister
  one_block_more n = with_blocks (l.blocks + 1) (l.damaged + n)

-- ---- what the lister's calls make of its fields

-- the station is one that its calls have made, or there is none
pub record Sound (l : Lister) : Type 0 where
  pub followed : l.active ≡ true → Valid l.station
  pub idle : l.active ≡ false → l.station ≡ blank

pub record Fits (l : Lister) : Type 0 where
  pub sound : Sound l
  pub few_blocks : l.blocks ≤ block_limit
  pub few_lines : l.lines ≤ most_lines * l.blocks
  pub few_damaged : l.damaged ≤ l.blocks
