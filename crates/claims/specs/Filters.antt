-- The elements of a run as a plain list, and those of one ID among them (01, "Octets": an element is an ID, a length, contents). What an
-- accepted body says is said over these, with no walk and no fold.
use Rattle.std.specs.Prelude.{List, [], ◌∷◌, ◌++◌, map, ◌≡◌, ℕ, ◌<◌, eqb, length, Ok}
use Rattle.answer.specs.Checks.{Outcome, pick}
use Rattle.octets.specs.Elements.{element}
use Rattle.walk.specs.Elements.{Elements, more}

pub record Item : Type 0 where
  pub id : ℕ
  pub contents : List ℕ

abbrev pub item : ℕ → List ℕ → Item
item id c = record { id = id; contents = c }

-- the octets of elements side by side: of each its ID, its length, its contents
unfoldable pub laid : List Item → List ℕ
laid [] = []
laid (x ∷ xs) = element x.id x.contents ++ laid xs

-- after these elements this one octet is left, which is no header
abbrev pub HalfAfter : List Item → ℕ → List ℕ → Type 0
HalfAfter xs o run = run ≡ laid xs ++ (o ∷ [])

-- after these elements a header with this ID is left, whose length is more than what follows it
abbrev pub CutAfter : List Item → ℕ → List ℕ → Type 0
CutAfter xs id run = (n : ℕ) × (os : List ℕ) × (run ≡ laid xs ++ (id ∷ n ∷ os)) × (length os < n)

-- those of one ID, in their order, whatever stands between them
unfoldable pub of_id : ℕ → List Item → List Item
of_id id [] = []
of_id id (x ∷ xs) = pick (eqb x.id id) (x ∷ of_id id xs) (of_id id xs)

-- all but those of one ID, in their order
unfoldable pub not_of_id : ℕ → List Item → List Item
not_of_id id [] = []
not_of_id id (x ∷ xs) = pick (eqb x.id id) (not_of_id id xs) (x ∷ not_of_id id xs)

-- elements are read as these values: as many, in the same order, each what the contents of its element mean
abbrev pub ReadAs : {A : Type 0} → (List ℕ → Outcome A) → List Item → List A → Type 0
ReadAs means xs values = map (λ (x : Item). means x.contents) xs ≡ map Ok values

-- the walk of a run, where it gives these elements and then so ends
unfoldable pub walked_as : List Item → Elements → Elements
walked_as [] ending = ending
walked_as (x ∷ xs) ending = more x.id x.contents (walked_as xs ending)
