-- Demand 2 for a body of one element, from that for the element. Assumes nothing.
use Rattle.std.specs.Prelude.{Ok}
use mathlib.Core.Path.{◌≡◌, refl, sym, ap, subst, ◌∙◌}
use mathlib.Core.Bool.{Bool, true}
use mathlib.Core.List.{List, [], ◌∷◌, ◌++◌, append-nil}
use mathlib.Core.Logic.{inl, inr}
use Prim.Native.Nat.{ℕ, suc}
use lib.ListN.{length}
use Rattle.single_body.specs.Singles.{single}
use Rattle.answer.specs.Checks.{Outcome}
use Rattle.answer.proofs.Booleans.{clash}
use Rattle.answer.proofs.Judged.{never, followed}
use Rattle.answer.proofs.Placing.{placed_value}
use Rattle.answer.specs.Faults.{placed_at}
use Rattle.octets.specs.Elements.{element, RoundTrip}
use Rattle.walk.proofs.Passing.{front_handed, none_passing, past_passed, walks_more, walks_end}
use Rattle.walk.proofs.Requiring.{whole}
use Rattle.walk.proofs.Requiring as Requiring
use Rattle.walk.proofs.RunLaws.{octets_front}
use Rattle.octets.specs.Numbers.{Octets}
use Rattle.walk.specs.Elements.{past_element}
use Rattle.walk.specs.Handed.{Handed, end, cut_header, cut_contents, more, passed, cut_passed, handed_in, vendorless}
use Rattle.walk.specs.Required.{required, nothing_left}

-- where nothing was passed over, nothing is all that is left past it
nothing_passed : (hs : Handed) → vendorless hs ≡ true → past_passed hs ≡ end → hs ≡ end
unfolding vendorless
nothing_passed end v e = refl
nothing_passed cut_header v e = e
nothing_passed (cut_contents i) v e = e
nothing_passed (more i c hs) v e = e
nothing_passed (passed c hs) v e = clash (sym v)
nothing_passed cut_passed v e = e

module _ {A : Type 0} (n id : ℕ) (means : List ℕ → Outcome A) where
  -- one element, of this ID, with these contents, and nothing after it but what is passed over
  pub record One (hs : Handed) (a : A) : Type 0 where
    pub contents : List ℕ
    pub rest : Handed
    pub only : hs ≡ more id contents rest
    pub last_one : past_passed rest ≡ end
    pub says : means contents ≡ Ok a

  last : (k : ℕ) (hs : Handed) (x a : A) → nothing_left k hs x ≡ Ok a → (past_passed hs ≡ end) × (x ≡ a)
  unfolding nothing_left
  last k end x a e = (refl, cc)
  last k cut_header x a e = absurd (never e)
  last k (cut_contents i) x a e = absurd (never e)
  last k (more i c hs) x a e = absurd (never e)
  last k (passed c hs) x a e = last (past_element k c) hs x a e
  last k cut_passed x a e = absurd (never e)

  pub one : (hs : Handed) (a : A) → single n id means hs ≡ Ok a → One hs a
  unfolding single
  one hs a e =
      let p = followed (placed_at n (required id hs)) _ a e in
      let s = p.0 in
      let q = followed (placed_at n (means s.contents)) _ a p.2 in
      let r = last (past_element n s.contents) s.rest q.0 a q.2 in
      record {
        contents = s.contents;
        rest = s.rest;
        only = whole id hs s (placed_value n (required id hs) p.1);
        last_one = r.0;
        says = placed_value n (means s.contents) q.1 ∙ ap Ok r.1;
      }

  reads : (c : List ℕ) (a : A) → means c ≡ Ok a → single n id means (more id c end) ≡ Ok a
  unfolding single nothing_left
  reads c a e = simp (Requiring.there id c end, e)

  module _ (contents : A → List ℕ) (may : A → Bool) (Fits : A → Type 0) (t : RoundTrip means contents may Fits (λ a. true) (λ c. true)) where
    -- the elements of what is written
    written : (c : List ℕ) → handed_in (element id c) ≡ more id c end
    written c =
        ap (λ (os : List ℕ). handed_in (id ∷ length c ∷ os)) (sym (append-nil c)) ∙ front_handed id c [] ∙ ap (more id c) none_passing

    inner : (run c rest : List ℕ) → Octets run → run ≡ element id c ++ rest → Octets c
    inner run c rest o e = let w : Octets (element id c ++ rest) = subst Octets e o in octets_front c rest (λ j. w (suc (suc j)))

    there : (a : A) → Fits a → may a ≡ true → single n id means (handed_in (element id (contents a))) ≡ Ok a
    there a f m = ap (single n id means) (written (contents a)) ∙ reads (contents a) a (t.there a f m)

    back : (run : List ℕ) (a : A) → Octets run → single n id means (handed_in run) ≡ Ok a → vendorless (handed_in run) ≡ true
        → (may a ≡ true) × (element id (contents a) ≡ run)
    unfolding vendorless
    back run a o e v =
        let p = one (handed_in run) a e in
        let y = walks_more run id p.contents p.rest (inl p.only) in
        let none = nothing_passed p.rest (ap vendorless (sym p.only) ∙ v) p.last_one in
        let l = y.octets ∙ ap (λ (os : List ℕ). element id p.contents ++ os) (walks_end y.rest (inr (y.after ∙ none))) ∙ append-nil (element id p.contents) in
        let b = t.back p.contents a (inner run p.contents y.rest o y.octets) p.says refl refl in
        (b.0, ap (element id) b.1 ∙ sym l)

    exact : (a : A) → Fits a → single n id means (handed_in (element id (contents a))) ≡ Ok a → may a ≡ true
    exact a f e =
        let p = one (handed_in (element id (contents a))) a e in
        let g : more id (contents a) end ≡ more id p.contents p.rest = sym (written (contents a)) ∙ p.only in
        let same : contents a ≡ p.contents = cc in
        t.exact a f (ap means same ∙ p.says) refl

    fits : (run : List ℕ) (a : A) → Octets run → single n id means (handed_in run) ≡ Ok a → Fits a
    fits run a o e =
        let p = one (handed_in run) a e in
        let y = walks_more run id p.contents p.rest (inl p.only) in
        t.fits p.contents a (inner run p.contents y.rest o y.octets) p.says

    pub single_trip : RoundTrip (λ run. single n id means (handed_in run)) (λ a. element id (contents a)) may Fits (λ a. true) (λ run. vendorless (handed_in run))
    single_trip = record { there = there; back = λ run a o e i v. back run a o e v; exact = λ a f e i. exact a f e; fits = fits }
