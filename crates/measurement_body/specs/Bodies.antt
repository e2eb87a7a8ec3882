-- Bodies of one or more measurement elements, written one element at a time (01, "Octets": 0, action, token, elements). What is
-- there already is a body of the same action and token with nothing uninterpreted, no reserved bit set and no vendor's element, or nothing.
use Rattle.std.specs.Prelude.{Bool, false, not, ◌&&◌, ◌||◌, List, [], ◌∷◌, ◌++◌, ℕ, ◌+◌, leb, eqb, length, drop, Ok, Err}
use Rattle.action.specs.Openings.{fixed_fields, forbids_token}
use Rattle.answer.specs.Checks.{pick}
use Rattle.answer.specs.Faults.{Placed}
use Rattle.octets.specs.Numbers.{octet}
use Rattle.walk.specs.Handed.{handed_in}
use Rattle.measurement_body.specs.Lists.{Sort, repeats, measurements_in, all_clear, all_interpreted, all_octets}

-- how many octets a body may have (01, "Answer numbers": a frame has at most 2,336 octets, and 24 of them are the header)
abbrev pub longest_body : ℕ
longest_body = 2312

-- how a body begins
abbrev pub opening : ℕ → ℕ → List ℕ
opening action token = 0 ∷ action ∷ token ∷ []

-- whether what is there begins a body of this action and token
abbrev pub begins : ℕ → ℕ → List ℕ → Bool
begins action token there =
    leb fixed_fields (length there) && (eqb (octet 0 there) 0 && (eqb (octet 1 there) action && eqb (octet 2 there) token))

module _ {A : Type 0} (s : Sort A) where
  -- a body's octets
  abbrev pub body_octets : ℕ → List A → List ℕ
  body_octets token xs = opening s.action token ++ all_octets s xs

  -- whether a body may have this token
  abbrev pub may_open : ℕ → Bool
  may_open token = not (forbids_token s.action token)

  -- whether a record may stand after those of a run
  abbrev pub joins : A → Placed (List A) → Bool
  joins a (Err x) = false
  joins a (Ok before) = all_interpreted s before && not (repeats s a before)

  module _ (token : ℕ) (a : A) (there : List ℕ) where
    -- the octets that are put after what is there: with nothing there, the body's first three too
    unfoldable pub appended : List ℕ
    appended = pick (eqb (length there) 0) (opening s.action token) [] ++ s.octets a

    -- whether the record may be written after what is there
    unfoldable pub may_append : Bool
    may_append =
        s.may a && (may_open token && (leb (length there + length appended) longest_body &&
        (eqb (length there) 0 || (begins s.action token there
        && (all_clear s (handed_in (drop fixed_fields there)) && joins a (measurements_in s (drop fixed_fields there)))))))
