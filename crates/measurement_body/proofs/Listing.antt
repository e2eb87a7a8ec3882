-- The records of a run, by the element in front. Assumes nothing.
use Rattle.std.specs.Prelude.{Ok, Err}
use mathlib.Core.Path.{◌≡◌, refl, sym, ap, subst, ◌∙◌}
use mathlib.Core.Bool.{Bool, true, false, ◌&&◌}
use mathlib.Core.List.{List, [], ◌∷◌, ◌++◌}
use Prim.Native.Nat.{ℕ}
use native.Mathlib.Omega.{arith}
use borrow.Author.Tests.{eq-eqb, ne_eqb}
use lib.Dec.{eqb}
use lib.ListN.{length}
use Rattle.answer.proofs.Booleans.{and_stop}
use Rattle.answer.proofs.Judged.{never, kept, followed}
use Rattle.answer.proofs.Judged as Judged
use Rattle.answer.proofs.Placing.{placed_value}
use Rattle.answer.specs.Checks.{pick, checked, and_then}
use Rattle.answer.specs.Faults.{fault_at, placed_at}
use Rattle.answer.specs.declared.Fault.{Fault}
use Rattle.answer.specs.declared.Refusal.{Refusal}
use Rattle.walk.proofs.Requiring.{whole, there}
use Rattle.walk.proofs.Passing.{past_passed, stands_at, no_further_back}
use Rattle.walk.specs.CodeTerms.Next.{next_after}
use Rattle.walk.specs.Elements.{Elements, past_element}
use Rattle.walk.specs.Elements as Raw
use Rattle.walk.specs.Handed.{Handed, end, cut_header, cut_contents, more, passed, cut_passed, handing}
use Rattle.walk.specs.Required.{Standing, required}
use Rattle.measurement_body.specs.Lists.{Sort, repeats, next_in, listed, all_clear}

module _ {A : Type 0} (s : Sort A) where
  -- an element that has to be there and is not: past the last the run may end
  pub stops : (n : ℕ) (es : Elements) (before : List A) {r : Refusal} → (es ≡ Raw.end → length before ≡ 0) → required s.id (handing es) ≡ Err r
      → listed s n (handing es) before ≡ Err (fault_at n r)
  unfolding listed next_in handing
  stops n Raw.end before none e = simp (eq-eqb (length before) 0 (none refl), e)
  stops n (Raw.cut_header o) before none e = simp e
  stops n (Raw.cut_contents id) before none e = simp e
  stops n (Raw.more id c es) before none e = simp e

  module _ (n : ℕ) (hs : Handed) (e : Standing) (h : required s.id hs ≡ Ok e) (before : List A) where
    in_front_lem : listed s n hs before ≡ listed s n (more s.id e.contents e.rest) before
    in_front_lem = ap (λ (x : Handed). listed s n x before) (whole s.id hs e h)

    pub misread : {r : Refusal} → s.means e.contents ≡ Err r → listed s n hs before ≡ Err (fault_at n r)
    unfolding listed next_in
    misread m = in_front_lem ∙ simp (there s.id e.contents e.rest, m)

    pub repeated : {a : A} → s.means e.contents ≡ Ok a → repeats s a before ≡ true → listed s n hs before ≡ Err (fault_at n Refusal.Repeated)
    unfolding listed next_in checked
    repeated m r = in_front_lem ∙ simp (there s.id e.contents e.rest, m, r)

    pub onward : {a : A} → s.means e.contents ≡ Ok a → repeats s a before ≡ false → listed s n hs before ≡ listed s (past_element n e.contents) e.rest (before ++ (a ∷ []))
    unfolding listed next_in checked
    onward m r = in_front_lem ∙ simp (there s.id e.contents e.rest, m, r)

  pub clear_in_front : (hs : Handed) (e : Standing) → required s.id hs ≡ Ok e → all_clear s hs ≡ (s.clear e.contents && all_clear s e.rest)
  unfolding all_clear
  clear_in_front hs e h = ap (all_clear s) (whole s.id hs e h)

  -- ---- past what is passed over

  module _ (before : List A) where
    pub listed_onward : (hs : Handed) (n : ℕ) {m : ℕ} → next_after n hs ≡ Ok m → listed s n hs before ≡ listed s m (past_passed hs) before
    unfolding listed next_after
    listed_onward end n e = cc
    listed_onward cut_header n e = cc
    listed_onward (cut_contents id) n e = cc
    listed_onward (more id c hs) n e = cc
    listed_onward (passed c hs) n e = listed_onward hs (past_element n c) e
    listed_onward cut_passed n e = absurd (never e)

    pub listed_cut : (hs : Handed) (n : ℕ) {x : Fault} → next_after n hs ≡ Err x → listed s n hs before ≡ Err x
    unfolding listed next_in required next_after
    listed_cut end n e = absurd (never (sym e))
    listed_cut cut_header n e = absurd (never (sym e))
    listed_cut (cut_contents id) n e = absurd (never (sym e))
    listed_cut (more id c hs) n e = absurd (never (sym e))
    listed_cut (passed c hs) n e = listed_cut hs (past_element n c) e
    listed_cut cut_passed n e = cc

  -- a vendor's element is none that a writer writes
  pub clear_onward : (hs : Handed) (n : ℕ) {m : ℕ} → next_after n hs ≡ Ok m → all_clear s hs ≡ (eqb m n && all_clear s (past_passed hs))
  unfolding all_clear next_after
  clear_onward end n {m} e = let here : m ≡ n = cc in simp (eq-eqb m n here)
  clear_onward cut_header n {m} e = let here : m ≡ n = cc in simp (eq-eqb m n here)
  clear_onward (cut_contents id) n {m} e = let here : m ≡ n = cc in simp (eq-eqb m n here)
  clear_onward (more id c hs) n {m} e = let here : m ≡ n = cc in simp (eq-eqb m n here)
  clear_onward (passed c hs) n {m} e = let on = no_further_back hs (past_element n c) (ap stands_at e) in sym (and_stop (eqb m n) (all_clear s (past_passed hs)) (ne_eqb m n (λ z. omega arith)))
  clear_onward cut_passed n e = absurd (never e)

  -- ---- and back

  -- what an accepted record says of the element in front
  record Heads (hs : Handed) (before : List A) (a : A) : Type 0 where
    element : Standing
    front_is : hs ≡ more s.id element.contents element.rest
    says : s.means element.contents ≡ Ok a
    new : repeats s a before ≡ false

  heads : (hs : Handed) (before : List A) (a : A) → next_in s hs before ≡ Ok a → Heads hs before a
  unfolding next_in
  heads hs before a h =
      let p = followed (required s.id hs) _ a h in
      let q = followed (s.means p.0.contents) _ a p.2 in
      let r = Judged.passed _ _ _ q.2 in
      let same : q.0 ≡ a = kept _ r.1 in
      record {
        element = p.0;
        front_is = whole s.id hs p.0 p.1;
        says = q.1 ∙ ap Ok same;
        new = subst (λ (x : A). repeats s x before ≡ false) same r.0;
      }

  -- and an accepted list of the run: the element in front, and the list goes on after it
  pub record Lists (n id : ℕ) (x : List ℕ) (hs : Handed) (before l : List A) : Type 0 where
    pub own : id ≡ s.id
    pub one : A
    pub says : s.means x ≡ Ok one
    pub new : repeats s one before ≡ false
    pub on : listed s (past_element n x) hs (before ++ (one ∷ [])) ≡ Ok l

  pub lists : (n id : ℕ) (x : List ℕ) (hs : Handed) (before l : List A) → listed s n (more id x hs) before ≡ Ok l → Lists n id x hs before l
  unfolding listed
  lists n id x hs before l h =
      let p = followed (placed_at n (next_in s (more id x hs) before)) _ l h in
      let g = heads (more id x hs) before p.0 (placed_value n (next_in s (more id x hs) before) p.1) in
      let f = g.front_is in
      let same : x ≡ g.element.contents = cc in
      record { own = cc; one = p.0; says = ap s.means same ∙ g.says; new = g.new; on = p.2 }

  -- it ends where a record has come, and where nothing is cut
  pub ended : (n : ℕ) (before l : List A) → listed s n end before ≡ Ok l → (eqb (length before) 0 ≡ false) × (before ≡ l)
  unfolding listed
  ended n before l h = by (eqb (length before) 0) h
    where
      by : (t : Bool) → pick t (and_then (placed_at n (next_in s end before)) (λ a. Ok (a ∷ []))) (Ok before) ≡ Ok l → (t ≡ false) × (before ≡ l)
      by true e =
          let p = followed (placed_at n (next_in s end before)) _ l e in
          absurd (let f = (heads end before p.0 (placed_value n (next_in s end before) p.1)).front_is in let z : ◌≡◌ {A = ℕ} 0 1 = cc in omega arith)
      by false e = (refl, cc)

  pub not_cut_header : (n : ℕ) (before l : List A) → listed s n cut_header before ≡ Ok l → ⊥
  unfolding listed
  not_cut_header n before l h =
      let p = followed (placed_at n (next_in s cut_header before)) _ l h in
      let f = (heads cut_header before p.0 (placed_value n (next_in s cut_header before) p.1)).front_is in
      let z : ◌≡◌ {A = ℕ} 0 1 = cc in omega arith

  pub not_cut_contents : (n id : ℕ) (before l : List A) → listed s n (cut_contents id) before ≡ Ok l → ⊥
  unfolding listed
  not_cut_contents n id before l h =
      let p = followed (placed_at n (next_in s (cut_contents id) before)) _ l h in
      let f = (heads (cut_contents id) before p.0 (placed_value n (next_in s (cut_contents id) before) p.1)).front_is in
      let z : ◌≡◌ {A = ℕ} 0 1 = cc in omega arith

  pub not_cut_passed : (n : ℕ) (before l : List A) → listed s n cut_passed before ≡ Ok l → ⊥
  unfolding listed
  not_cut_passed n before l h =
      let p = followed (placed_at n (next_in s cut_passed before)) _ l h in
      let f = (heads cut_passed before p.0 (placed_value n (next_in s cut_passed before) p.1)).front_is in
      let z : ◌≡◌ {A = ℕ} 0 1 = cc in omega arith
