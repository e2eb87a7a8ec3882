-- Laws of what a body says: a Quiet element, and the elements after the fixed fields. Assumes nothing.
use Rattle.std.specs.Prelude.{Ok, Err}
use mathlib.Core.Path.{◌≡◌, sym, ap, ◌∙◌}
use mathlib.Core.List.{List}
use Prim.Native.Nat.{ℕ, ◌≤◌, ◌<◌}
use borrow.Author.Tests.{eq-eqb, ne_eqb, lt-ltb, le-ltb}
use lib.ListN.{length, drop}
use Rattle.answer.specs.Checks.{Outcome, and_then}
use Rattle.answer.specs.Faults.{fault_at, fault_nowhere, placed_at}
use Rattle.answer.specs.declared.Refusal.{Refusal}
use Rattle.answer.proofs.Judged.{past, stop, through}
use Rattle.element.specs.Quiet.{quiet_means}
use Rattle.octets.specs.Numbers.{number}
use Rattle.walk.specs.Elements.{Elements, more, elements_in, past_element}
use Rattle.beacon.specs.Beacons.{fixed_length, interval_field, element_means, says, body_means}
use Rattle.beacon.specs.declared.elements.Element.{Element}

-- a Quiet element, by its ID
pub is_quiet : (b id : ℕ) (c : List ℕ) → id ≡ 40 → and_then (quiet_means b c) (λ q. Ok (Element.Quiet q)) ≡ element_means b id c
unfolding element_means
is_quiet b id c e = rw e

-- ---- all elements

module _ {A : Type 0} (step : ℕ → List ℕ → A → Outcome A) where
  -- the outcome of the first one decides whether the others are read
  pub says_more : (n id : ℕ) (c : List ℕ) (es : Elements) (t : A) {o : Outcome A} → step id c t ≡ o
      → says step n (more id c es) t ≡ and_then (placed_at n o) (says step (past_element n c) es)
  unfolding says
  says_more n id c es t e = ap (λ (p : Outcome A). and_then (placed_at n p) (says step (past_element n c) es)) e

  -- ---- a body

  module _ (before : A) (b : ℕ) (body : List ℕ) where
    pub short_body : length body < fixed_length → Err (fault_nowhere Refusal.TooShort) ≡ body_means step before b body
    short_body h = stop _ _ _ (lt-ltb _ _ h)

    -- `n` is the interval as it was read
    module _ (n : ℕ) (h : fixed_length ≤ length body) (r : n ≡ number 2 interval_field body) where
      pub other_interval : (n ≡ b → ⊥) → Err (fault_at interval_field Refusal.OtherInterval) ≡ body_means step before b body
      other_interval d = past _ _ _ (le-ltb _ _ h) (stop _ _ _ (rw (ne_eqb (number 2 interval_field body) b (λ e. d (r ∙ e)))))

      pub body_says : n ≡ b → {t : A} → t ≡ before → says step fixed_length (elements_in (drop fixed_length body)) t ≡ body_means step before b body
      body_says e f =
          past _ _ _ (le-ltb _ _ h) (past _ _ _ (rw (eq-eqb (number 2 interval_field body) b (sym r ∙ e))) (through _ (ap (says step fixed_length (elements_in (drop fixed_length body))) f)))
