-- The number of a line as its digits, kept from line to line.
use Rattle.std.specs.Prelude.{List, ◌≡◌, ℕ, ◌-◌, length, take, drop}
use Rattle.octets.specs.Writing.{over}
use Rattle.pen.specs.Decimals.{decimal}

-- the digits end at this place of their room: no number of 64 bits has more
abbrev pub numeral_end : ℕ
numeral_end = 20

-- after them a whole piece can be copied along
abbrev pub numeral_room : ℕ
numeral_room = 28

-- a number below this leaves the first place of the room free, also when it is counted up
abbrev pub numeral_limit : ℕ
numeral_limit = 9999999999999999999

-- the digits of n at the end of their place, and the rest of the room as it was
abbrev pub with_numeral : List ℕ → ℕ → List ℕ
with_numeral was n = over was (numeral_end - length (decimal n)) (decimal n)

-- the digits of n stand in the room from a place on
pub record Spells (n : ℕ) (digits : List ℕ) (from : ℕ) : Type 0 where
  pub room : length digits ≡ numeral_room
  pub says : drop from (take numeral_end digits) ≡ decimal n
