-- A run of octets as elements, one after the other, and how the run ends (01, "Octets": an element is an ID, a length,
-- contents).
use Rattle.std.specs.Prelude.{List, [], ◌∷◌, ℕ, zero, suc, ◌+◌, leb, length, take}
use Rattle.answer.specs.Checks.{pick}

pub data Elements : Type 0 where
  -- nothing is left
  end : Elements
  -- this one octet is left, which is no header
  cut_header : ℕ → Elements
  -- a header with this ID, whose contents run past the end
  cut_contents : ℕ → Elements
  -- a whole element, with its ID and its contents, and what follows it
  more : ℕ → List ℕ → Elements → Elements

-- the elements after the first `skip` octets, which are the contents of the element before
unfoldable pub elements_after : ℕ → List ℕ → Elements
elements_after zero [] = end
elements_after zero (id ∷ []) = cut_header id
elements_after zero (id ∷ n ∷ os) = pick (leb n (length os)) (more id (take n os) (elements_after n os)) (cut_contents id)
elements_after (suc skip) [] = end
elements_after (suc skip) (o ∷ os) = elements_after skip os

unfoldable pub elements_in : List ℕ → Elements
elements_in os = elements_after 0 os

-- how many octets stand before what follows an element with these contents, n before the element itself: its ID, its length, its contents
abbrev pub past_element : ℕ → List ℕ → ℕ
past_element n c = n + 2 + length c
