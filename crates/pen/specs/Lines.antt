-- The lines of the list (01, "Capture blocks and the evening list": number, word, answer number; 02, One: after it the offset of the octet at
-- fault, where there is one; the last line is blocks, how many in all, damaged, how many were).
use Rattle.std.specs.Prelude.{List, [], ◌∷◌, ◌++◌, ℕ, Some, None, Option}
use Rattle.pen.specs.Decimals.{decimal}
use Rattle.pen.specs.declared.words.Word.{Word}

-- start, advance, frame, ask; record for a malformed one, block for a damaged one
abbrev pub spelled : Word → List ℕ
spelled Word.Start = 115 ∷ 116 ∷ 97 ∷ 114 ∷ 116 ∷ []
spelled Word.Advance = 97 ∷ 100 ∷ 118 ∷ 97 ∷ 110 ∷ 99 ∷ 101 ∷ []
spelled Word.Frame = 102 ∷ 114 ∷ 97 ∷ 109 ∷ 101 ∷ []
spelled Word.Ask = 97 ∷ 115 ∷ 107 ∷ []
spelled Word.Record = 114 ∷ 101 ∷ 99 ∷ 111 ∷ 114 ∷ 100 ∷ []
spelled Word.Block = 98 ∷ 108 ∷ 111 ∷ 99 ∷ 107 ∷ []

-- a space and the offset
abbrev pub placed : Option ℕ → List ℕ
placed None = []
placed (Some n) = (32 ∷ []) ++ decimal n

-- a space between, and a line end
unfoldable pub line_of : ℕ → Word → ℕ → Option ℕ → List ℕ
line_of number word answer offset =
    decimal number ++ ((32 ∷ []) ++ (spelled word ++ ((32 ∷ []) ++ (decimal answer ++ (placed offset ++ (10 ∷ []))))))

-- "blocks ", " damaged "
unfoldable pub closing_of : ℕ → ℕ → List ℕ
closing_of blocks damaged =
    (98 ∷ 108 ∷ 111 ∷ 99 ∷ 107 ∷ 115 ∷ 32 ∷ [])
    ++ (decimal blocks ++ ((32 ∷ 100 ∷ 97 ∷ 109 ∷ 97 ∷ 103 ∷ 101 ∷ 100 ∷ 32 ∷ []) ++ (decimal damaged ++ (10 ∷ []))))
