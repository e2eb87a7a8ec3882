-- One or more elements of one ID, in a run (01, "Octets": actions 0 and 1 have one or more of 38 or 39). For each element: the one that
-- has to be there (7, 6, 21), its length and value (8, 9), repeat (10). The place of an element's fault is its ID octet (02, One). Vendors' elements between and
-- after them are passed over, and count neither as elements nor in the index (02, Four).
use Rattle.std.specs.Prelude.{Bool, true, false, not, ◌&&◌, ◌||◌, List, [], ◌∷◌, ◌++◌, ℕ, zero, suc, ltb, eqb, length, Ok, Err}
use Rattle.action.specs.Openings.{fixed_fields}
use Rattle.answer.specs.Checks.{Outcome, pick, ◌⇒◌, judged, and_then}
use Rattle.answer.specs.Faults.{Placed, placed_at}
use Rattle.answer.specs.declared.Refusal.{Refusal}
use Rattle.walk.specs.Elements.{past_element}
use Rattle.walk.specs.Handed.{Handed, end, cut_header, cut_contents, more, passed, cut_passed, handed_in}
use Rattle.walk.specs.Required.{required}

-- what a list of such elements goes by
pub record Sort (A : Type 0) : Type 0 where
  -- the ID of its elements, and the action of its bodies
  pub id : ℕ
  pub action : ℕ
  -- what contents mean, and whether no reserved bit is set in them
  pub means : List ℕ → Outcome A
  pub clear : List ℕ → Bool
  -- a record's measurement token, and whether no two may have the same
  pub token : A → ℕ
  pub once : Bool
  -- whether a record holds no uninterpreted contents, whether it may be written, and its octets
  pub interpreted : A → Bool
  pub may : A → Bool
  pub octets : A → List ℕ

module _ {A : Type 0} (s : Sort A) where
  -- whether a measurement token is used
  unfoldable pub used : ℕ → List A → Bool
  used t [] = false
  used t (a ∷ xs) = eqb (s.token a) t || used t xs

  -- whether a record repeats one before it
  abbrev pub repeats : A → List A → Bool
  repeats a before = s.once && used (s.token a) before

  -- the record that has to come next, after those that came before
  unfoldable pub next_in : Handed → List A → Outcome A
  next_in hs before =
      and_then (required s.id hs)
      (λ e. and_then (s.means e.contents)
      (λ a. judged (repeats a before ⇒ Refusal.Repeated ∷ []) a))

  -- the records in the run, n octets before it, after those that came before: where there is none yet, one has to come
  unfoldable pub listed : ℕ → Handed → List A → Placed (List A)
  listed n end before = pick (eqb (length before) 0) (and_then (placed_at n (next_in end before)) (λ a. Ok (a ∷ []))) (Ok before)
  listed n cut_header before = and_then (placed_at n (next_in cut_header before)) (λ a. Ok (before ++ (a ∷ [])))
  listed n (cut_contents id) before = and_then (placed_at n (next_in (cut_contents id) before)) (λ a. Ok (before ++ (a ∷ [])))
  listed n (more id c hs) before = and_then (placed_at n (next_in (more id c hs) before)) (λ a. listed (past_element n c) hs (before ++ (a ∷ [])))
  listed n (passed c hs) before = listed (past_element n c) hs before
  listed n cut_passed before = and_then (placed_at n (next_in cut_passed before)) (λ a. Ok (before ++ (a ∷ [])))

  -- the records in the run after a body's fixed fields
  unfoldable pub measurements_in : List ℕ → Placed (List A)
  measurements_in run = listed fixed_fields (handed_in run) []

  -- the elements are as a writer writes them: no reserved bit is set in any, and none of a vendor stands among them
  unfoldable pub all_clear : Handed → Bool
  all_clear end = true
  all_clear cut_header = true
  all_clear (cut_contents id) = true
  all_clear (more id c hs) = s.clear c && all_clear hs
  all_clear (passed c hs) = false
  all_clear cut_passed = true

  unfoldable pub all_interpreted : List A → Bool
  all_interpreted [] = true
  all_interpreted (a ∷ xs) = s.interpreted a && all_interpreted xs

  -- ---- written

  unfoldable pub all_octets : List A → List ℕ
  all_octets [] = []
  all_octets (a ∷ xs) = s.octets a ++ all_octets xs

  -- each may be written, and repeats none before it
  unfoldable pub may_all : List A → List A → Bool
  may_all before [] = true
  may_all before (a ∷ xs) = s.may a && (not (repeats a before) && may_all (before ++ (a ∷ [])) xs)

  -- a list that may be written has one record or more
  unfoldable pub may_list : List A → Bool
  may_list xs = ltb 0 (length xs) && may_all [] xs

-- the record at an index from 0; 16 past the last
unfoldable pub nth : {A : Type 0} → ℕ → List A → Outcome A
nth i [] = Err Refusal.Impossible
nth zero (a ∷ xs) = Ok a
nth (suc i) (a ∷ xs) = nth i xs

-- each record's fields fit their types
abbrev pub AllFit : {A : Type 0} → (A → Type 0) → List A → Type 0
AllFit Fits [] = Unit {0}
AllFit Fits (a ∷ xs) = Fits a × AllFit Fits xs
