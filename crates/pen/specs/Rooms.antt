-- The room of a line, and a text as the code hands it out: in front of its room, with zeros after it.
use Rattle.std.specs.Prelude.{List, ◌++◌, ℕ, ◌-◌, length, replicate}
use Rattle.pen.specs.declared.last_line.Text.{Text}

-- more than the longest line has
abbrev pub line_room : ℕ
line_room = 64

-- the letters of the longest word
abbrev pub most_letters : ℕ
most_letters = 7

-- a space, and the longest number
abbrev pub offset_room : ℕ
offset_room = 21

-- so many octets at least, with zeros after those that are meant
abbrev pub roomy : ℕ → List ℕ → List ℕ
roomy room os = os ++ replicate (room - length os) 0

abbrev pub fronted : List ℕ → Text
fronted os = record { bytes = roomy line_room os; count = length os }
