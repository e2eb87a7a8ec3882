-- The ways of a body of one element. Assumes nothing.
use Rattle.std.specs.Prelude.{Ok, Err}
use mathlib.Core.Path.{◌≡◌, refl, sym, ap, ap₂, ◌∙◌}
use mathlib.Core.List.{List}
use Prim.Native.Nat.{ℕ, ◌-◌, ◌<◌, ◌≤◌}
use lib.ListN.{length, take, drop}
use Rattle.answer.specs.Checks.{Outcome, and_then}
use Rattle.answer.specs.Faults.{fault_at, Placed, placed_at}
use Rattle.answer.specs.declared.Fault.{Fault}
use Rattle.answer.specs.declared.Refusal.{Refusal}
use Rattle.walk.proofs.Requiring.{Lies, past, left_cut, left_over, none_left}
use Rattle.walk.specs.CodeTerms.Next.{next_after}
use Rattle.walk.specs.Elements.{past_element}
use Rattle.walk.specs.Handed.{Handed, end, cut_header, cut_contents, more, passed, cut_passed, passing_in, handed_in}
use Rattle.walk.specs.declared.Contents.{Contents}
use Rattle.walk.specs.Required.{Standing, required, nothing_left}
use Rattle.single_body.specs.Singles.{single}

module _ {A : Type 0} (n id : ℕ) (means : List ℕ → Outcome A) where
  -- what follows the element that has to be there
  abbrev onward : Standing → Placed A
  onward s = and_then (placed_at n (means s.contents)) (nothing_left (past_element n s.contents) s.rest)

  -- by that element
  by_element : (hs : Handed) {o : Outcome Standing} → required id hs ≡ o → and_then (placed_at n o) onward ≡ single n id means hs
  unfolding single
  by_element hs e = ap (λ (o : Outcome Standing). and_then (placed_at n o) onward) (sym e)

  module _ {body : List ℕ} {c : Contents} (l : Lies body n id c) where
    abbrev meant : Placed A
    meant = placed_at n (means (take (c.end - c.start) (drop c.start body)))

    by_contents : {o : Placed A} → o ≡ meant → and_then o (nothing_left c.end (passing_in (drop c.end body))) ≡ single n id means (handed_in (drop n body))
    by_contents m =
        ap₂ (λ (x : Placed A) (k : ℕ). and_then x (nothing_left k (passing_in (drop c.end body)))) m (sym (past l)) ∙ by_element (handed_in (drop n body)) l.stands

    module _ {a : A} (m : Ok a ≡ meant) where
      -- where the walk goes on
      abbrev next : Placed ℕ
      next = next_after c.end (passing_in (drop c.end body))

      pub cut_after : {x : Fault} → next ≡ Err x → Err x ≡ single n id means (handed_in (drop n body))
      cut_after h = sym (left_cut a (passing_in (drop c.end body)) c.end h) ∙ by_contents m

      pub crowded : {k : ℕ} → next ≡ Ok k → k < length body → Err (fault_at k Refusal.LeftOver) ≡ single n id means (handed_in (drop n body))
      crowded on h = sym (left_over a body c.end on h) ∙ by_contents m

      pub good : {k : ℕ} → next ≡ Ok k → length body ≤ k → Ok a ≡ single n id means (handed_in (drop n body))
      good on h = sym (none_left a body c.end on h) ∙ by_contents m

-- what is made of the one element may be made of what its contents mean
pub made : {A B : Type 0} (n id : ℕ) (means : List ℕ → Outcome A) (make : A → B) (hs : Handed)
    → single n id (λ c. and_then (means c) (λ a. Ok (make a))) hs ≡ and_then (single n id means hs) (λ a. Ok (make a))
unfolding single nothing_left
made {A} {B} n id means make hs = by_element_found (required id hs)
  where
    by_rest : (k : ℕ) (rest : Handed) (a : A) → nothing_left k rest (make a) ≡ and_then (nothing_left k rest a) (λ x. Ok (make x))
    by_rest k end a = refl
    by_rest k cut_header a = refl
    by_rest k (cut_contents i) a = refl
    by_rest k (more i c hs) a = refl
    by_rest k (passed c hs) a = by_rest (past_element k c) hs a
    by_rest k cut_passed a = refl

    by_meaning : (k : ℕ) (rest : Handed) (o : Outcome A)
        → and_then (placed_at n (and_then o (λ a. Ok (make a)))) (nothing_left k rest) ≡ and_then (and_then (placed_at n o) (nothing_left k rest)) (λ a. Ok (make a))
    by_meaning k rest (Err r) = refl
    by_meaning k rest (Ok a) = by_rest k rest a

    by_element_found : (o : Outcome Standing)
        → and_then (placed_at n o) (onward n id (λ c. and_then (means c) (λ a. Ok (make a)))) ≡ and_then (and_then (placed_at n o) (onward n id means)) (λ a. Ok (make a))
    by_element_found (Err r) = refl
    by_element_found (Ok s) = by_meaning (past_element n s.contents) s.rest (means s.contents)
