-- The pen before a line, and one line more in the buffer.
use Rattle.std.specs.Prelude.{true, List, ◌≡◌, ℕ, ◌+◌, ◌<◌, ◌≤◌, length}
use Rattle.octets.specs.Writing.{left}
use Rattle.pen.specs.Numerals.{numeral_limit, Spells}
use Rattle.pen.specs.Rooms.{line_room}
use Rattle.pen.specs.declared.Pen.{Pen}

-- a pen that can put a line: the digits are those of its number, a number is left, and the buffer has room for the longest line
pub record Ready (pen : Pen) (digits out : List ℕ) : Type 0 where
  pub spells : Spells pen.lines digits pen.from
  pub numbered : pen.lines < numeral_limit
  pub room : pen.count + line_room ≤ length out

-- the line stands after those before it, and the digits are those of its number
pub record Penned (line : List ℕ) (pen : Pen) (out : List ℕ) (next : Pen) (digits exit : List ℕ) : Type 0 where
  pub numbered : next.lines ≡ pen.lines + 1
  pub spells : Spells next.lines digits next.from
  pub many : next.count ≡ pen.count + length line
  pub short : length line ≤ line_room
  pub leaves : exit ≡ left true line pen.count out
