-- An element that is to follow what is there, by its octets and its token.
use Rattle.std.specs.Prelude.{Bool, false, not, ◌&&◌, ◌||◌, List, [], ◌++◌, ◌≡◌, ℕ, ◌+◌, ◌≤◌, leb, eqb, length, take, Ok, Err}
use Rattle.action.specs.Openings.{fixed_fields}
use Rattle.answer.specs.Checks.{pick}
use Rattle.answer.specs.Faults.{Placed}
use Rattle.measurement_body.specs.Bodies.{longest_body, opening, begins, may_open}
use Rattle.measurement_body.specs.Lists.{Sort}
use Rattle.measurement_body.specs.Surveys.{surveyed}
use Rattle.measurement_body.specs.declared.surveying.Surveyed.{Surveyed}

-- how many octets an element of either kind has at most
abbrev pub longest_element : ℕ
longest_element = 24

-- octets that lie in front of others
pub record Fronts (os bytes : List ℕ) : Type 0 where
  pub fits : length os ≤ length bytes
  pub front : take (length os) bytes ≡ os

-- whether an element may join those that a survey found, as to its token: `once` says that no two may have the same
abbrev pub may_join : Bool → Placed Surveyed → Bool
may_join once (Err x) = false
may_join once (Ok v) = v.plain && not (once && v.hit)

module _ {A : Type 0} (s : Sort A) (token : ℕ) where
  -- whether an element of `count` octets with the measurement token `own` may follow; `may` says that it may be written at all
  unfoldable pub may_follow : ℕ → ℕ → Bool → List ℕ → Bool
  may_follow own count may there =
      may && (may_open s token && (leb (pick (eqb (length there) 0) fixed_fields (length there) + count) longest_body &&
      (eqb (length there) 0 || (begins s.action token there && may_join s.once (surveyed s 0 own there)))))

  -- the octets that are put after what is there
  abbrev pub following : List ℕ → List ℕ → List ℕ
  following there element = pick (eqb (length there) 0) (opening s.action token) [] ++ element
