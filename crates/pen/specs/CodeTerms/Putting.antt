-- Octets that are put into a lent buffer from a place on: where they end, and what they leave.
use Rattle.std.specs.Prelude.{List, ◌++◌, true, ◌≡◌, ℕ, ◌+◌, ◌≤◌, length}
use Rattle.octets.specs.Writing.{over, left}
use Rattle.pen.specs.Rooms.{line_room}

-- the octets, and every other octet as it was
pub record OctetsPut (os : List ℕ) (at : ℕ) (out : List ℕ) (end : ℕ) (exit : List ℕ) : Type 0 where
  pub ends : end ≡ at + length os
  pub stands : exit ≡ over out at os

-- octets are copied eight at a time
abbrev pub piece : ℕ
piece = 8

-- the octets, and after them fewer than a piece that what follows is put over
pub record PiecesPut (os : List ℕ) (at : ℕ) (out : List ℕ) (end : ℕ) (exit : List ℕ) : Type 0 where
  pub ends : end ≡ at + length os
  pub more : List ℕ
  pub few : length more + 1 ≤ piece
  pub stands : exit ≡ over out at (os ++ more)

-- a line, and every other octet as it was
pub record LinePut (line : List ℕ) (at : ℕ) (out : List ℕ) (end : ℕ) (exit : List ℕ) : Type 0 where
  pub many : end ≡ at + length line
  pub short : length line ≤ line_room
  pub leaves : exit ≡ left true line at out
