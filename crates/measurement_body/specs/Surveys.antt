-- What one walk of a body finds out: how many elements there are, where the contents of the one at an index lie, whether one has a
-- certain token, and whether the body is plain, with nothing uninterpreted, no reserved bit set and no vendor's element.
use Rattle.std.specs.Prelude.{◌&&◌, List, ℕ, zero, suc, ◌+◌, length, drop, Option, Some, None, Ok}
use Rattle.action.specs.Openings.{fixed_fields}
use Rattle.answer.specs.Checks.{and_then}
use Rattle.answer.specs.Faults.{Placed}
use Rattle.walk.specs.Elements.{past_element}
use Rattle.walk.specs.Handed.{Handed, end, cut_header, cut_contents, more, passed, cut_passed, handed_in}
use Rattle.walk.specs.declared.Contents.{Contents}
use Rattle.measurement_body.specs.Lists.{Sort, used, measurements_in, all_clear, all_interpreted}
use Rattle.measurement_body.specs.declared.surveying.Surveyed.{Surveyed}

-- where the contents of the element at an index lie, with so many octets before the elements: an element is two octets and its contents
unfoldable pub place_after : ℕ → ℕ → Handed → Option Contents
place_after before i end = None
place_after before i cut_header = None
place_after before i (cut_contents id) = None
place_after before zero (more id c hs) = Some (record { start = before + 2; end = past_element before c })
place_after before (suc i) (more id c hs) = place_after (past_element before c) i hs
place_after before i (passed c hs) = place_after (past_element before c) i hs
place_after before i cut_passed = None

-- where they lie in a body
abbrev pub place_in : ℕ → List ℕ → Option Contents
place_in i body = place_after fixed_fields i (handed_in (drop fixed_fields body))

module _ {A : Type 0} (s : Sort A) (index token : ℕ) (body : List ℕ) where
  -- of the records of a body
  abbrev pub survey_of : List A → Surveyed
  survey_of xs =
      record {
        count = length xs;
        place = place_in index body;
        hit = used s token xs;
        plain = all_clear s (handed_in (drop fixed_fields body)) && all_interpreted s xs;
      }

  abbrev pub surveyed_as : Placed (List A) → Placed Surveyed
  surveyed_as o = and_then o (λ xs. Ok (survey_of xs))

  abbrev pub surveyed : Placed Surveyed
  surveyed = surveyed_as (measurements_in s (drop fixed_fields body))
