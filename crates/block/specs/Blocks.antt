-- A block (01, "Capture blocks and the evening list"): octets 0-1 used length (0 to 508), 2-509 payload, 510-511 check, which is 1 plus the sum
-- of octets 0 to 509, modulo 65,536. A wrong check, a used length over 508 or a short last block is damaged.
use Rattle.std.specs.Prelude.{Bool, not, ◌||◌, List, ℕ, ◌+◌, ◌%◌, ◌-◌, ◌/◌, Option, Some, None, ltb, leb, eqb, length, take, drop}
use Rattle.answer.specs.Checks.{pick}
use Rattle.octets.specs.Sums.{sum_of}
use Rattle.octets.specs.Numbers.{number}

-- octets of a block, those before its check, and those that records may use
abbrev pub block_size : ℕ
block_size = 512

abbrev pub checked_length : ℕ
checked_length = 510

abbrev pub payload : ℕ
payload = 508

abbrev pub used_length : List ℕ → ℕ
used_length b = number 2 0 b

abbrev pub check_of : List ℕ → ℕ
check_of b = (1 + sum_of (take checked_length b)) % 65536

abbrev pub is_damaged : List ℕ → Bool
is_damaged b = not (eqb (length b) block_size) || (not (eqb (number 2 checked_length b) (check_of b)) || ltb payload (used_length b))

-- how much of a block is used, if it is whole
unfoldable pub block_means : List ℕ → Option ℕ
block_means b = pick (is_damaged b) None (Some (used_length b))

-- the part of the payload that is used
abbrev pub used_part : List ℕ → List ℕ
used_part b = take (used_length b) (drop 2 b)

-- where a block ends that begins at a place of a file of so many octets: a last one may be short
abbrev pub end_after : ℕ → ℕ → ℕ
end_after at size = pick (leb (at + block_size) size) (at + block_size) size

-- how many blocks so many octets are: a last one may be short
abbrev pub blocks_of : ℕ → ℕ
blocks_of size = (size + (block_size - 1)) / block_size
