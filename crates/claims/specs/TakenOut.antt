-- Vendors' elements taken out of an action body (02, Four): what is read with them and without them, and how many octets of theirs stand before a place.
use Rattle.std.specs.Prelude.{List, [], ◌∷◌, ◌++◌, ◌≡◌, ℕ, ◌+◌, ◌-◌, ltb, eqb, length, Ok, Err}
use Rattle.answer.specs.Checks.{pick}
use Rattle.answer.specs.Faults.{fault_at, Placed}
use Rattle.answer.specs.declared.Fault.{Fault}
use Rattle.answer.specs.declared.Refusal.{Refusal}
use Rattle.walk.specs.Handed.{vendor_id}
use Rattle.claims.specs.Filters.{Item, laid, not_of_id}

-- all elements but those of vendors after the first
abbrev pub without_vendors : List Item → List Item
without_vendors [] = []
without_vendors (x ∷ xs) = x ∷ not_of_id vendor_id xs

-- a run, and the other without them; after the elements both have the same octets, whatever they are
pub record TakenOut (run other : List ℕ) : Type 0 where
  pub items : List Item
  pub rest : List ℕ
  pub octets : run ≡ laid items ++ rest
  pub other_octets : other ≡ laid (without_vendors items) ++ rest

-- how many octets an element has: its ID, its length, its contents
abbrev pub size_of : Item → ℕ
size_of x = 2 + length x.contents

-- how many of the first d octets of these elements are those of whole vendors' elements
unfoldable pub vendor_octets : List Item → ℕ → ℕ
vendor_octets [] d = 0
vendor_octets (x ∷ xs) d = pick (ltb d (size_of x)) 0 (pick (eqb x.id vendor_id) (size_of x) 0 + vendor_octets xs (d - size_of x))

-- the same of a whole run, whose first element is passed over never
unfoldable pub skipped_octets : List Item → ℕ → ℕ
skipped_octets [] d = 0
skipped_octets (x ∷ xs) d = pick (ltb d (size_of x)) 0 (vendor_octets xs (d - size_of x))

-- two refusals with n and m octets before what is read: the same one, d octets into the one and k into the other, and so many more are those that were skipped before it
abbrev pub RefusedAlike : (ℕ → ℕ) → ℕ → ℕ → Fault → Fault → Type 0
RefusedAlike skipped n m x y = (d : ℕ) × (k : ℕ) × (r : Refusal) × (x ≡ fault_at (n + d) r) × (y ≡ fault_at (m + k) r) × (d ≡ k + skipped d)

-- what is read of both: the same values, or the same refusal
unfoldable pub ReadAlike : {A : Type 0} → (ℕ → ℕ) → ℕ → ℕ → Placed A → Placed A → Type 0
ReadAlike skipped n m (Ok a) (Ok b) = a ≡ b
ReadAlike skipped n m (Ok a) (Err y) = ⊥
ReadAlike skipped n m (Err x) (Ok b) = ⊥
ReadAlike skipped n m (Err x) (Err y) = RefusedAlike skipped n m x y
