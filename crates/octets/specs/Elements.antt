-- Elements (01, "Octets"): an ID, a length, contents; of each first the length (8), then the values (9).
use Rattle.std.specs.Prelude.{◌≡◌, Bool, true, not, List, [], ◌∷◌, ℕ, length, eqb, Ok, Result}
use Rattle.answer.specs.Checks.{Outcome, ◌⇒◌, judged}
use Rattle.answer.specs.declared.Refusal.{Refusal}
use Rattle.octets.specs.Numbers.{Octets}

-- contents of n octets that hold a record
unfoldable pub fixed : {A : Type 0} → ℕ → (List ℕ → A) → (A → Bool) → List ℕ → Outcome A
fixed n record_in forbids c =
    judged
    (not (eqb (length c) n) ⇒ Refusal.WrongLength ∷ forbids (record_in c) ⇒ Refusal.ForbiddenValue ∷ [])
    (record_in c)

-- the octets of an element
abbrev pub element : ℕ → List ℕ → List ℕ
element id contents = id ∷ length contents ∷ contents

-- Demand 2 for one element. `means` is what its contents say, `contents` are a record's octets, `may` says which records may be
-- written, `Fits` that a record's fields fit their types, `interpreted` that it holds no uninterpreted contents, and `clear`
-- that no reserved bit is set.
pub record RoundTrip {R A : Type 0} (means : List ℕ → Result A R) (contents : A → List ℕ) (may : A → Bool) (Fits : A → Type 0)
    (interpreted : A → Bool) (clear : List ℕ → Bool) : Type 0 where
  -- a record that may be written reads back the same
  pub there : (a : A) → Fits a → may a ≡ true → means (contents a) ≡ Ok a
  -- accepted contents with nothing uninterpreted and no reserved bit set are written back octet for octet
  pub back : (c : List ℕ) (a : A) → Octets c → means c ≡ Ok a → interpreted a ≡ true → clear c ≡ true
      → (may a ≡ true) × (contents a ≡ c)
  -- a record that reads back the same may be written, unless it holds uninterpreted contents
  pub exact : (a : A) → Fits a → means (contents a) ≡ Ok a → interpreted a ≡ true → may a ≡ true
  -- what is read fits its fields
  pub fits : (c : List ℕ) (a : A) → Octets c → means c ≡ Ok a → Fits a
