-- The used part of a block as records, one after the other, and how it ends (01, "Capture blocks and the evening list": kind, length (2),
-- contents; records never cross blocks).
use Rattle.std.specs.Prelude.{List, [], ◌∷◌, ℕ, zero, suc, leb, length, take}
use Rattle.answer.specs.Checks.{pick}
use Rattle.octets.specs.Numbers.{join}

pub data Records : Type 0 where
  -- nothing is left
  end : Records
  -- a record past the used length
  cut : Records
  -- a record with its kind and its contents, and what follows it
  more : ℕ → List ℕ → Records → Records

-- the records after the first `skip` octets, which are the contents of the record before
unfoldable pub records_after : ℕ → List ℕ → Records
records_after zero [] = end
records_after zero (kind ∷ []) = cut
records_after zero (kind ∷ a ∷ []) = cut
records_after zero (kind ∷ a ∷ b ∷ os) =
    pick (leb (join (a ∷ b ∷ [])) (length os)) (more kind (take (join (a ∷ b ∷ [])) os) (records_after (join (a ∷ b ∷ [])) os)) cut
records_after (suc skip) [] = end
records_after (suc skip) (o ∷ os) = records_after skip os

unfoldable pub records_in : List ℕ → Records
records_in os = records_after 0 os
