-- A run of octets and its elements: an element in front, and what lies after it. Assumes nothing.
use mathlib.Core.Path.{◌≡◌, refl, sym, ap, ◌∙◌}
use mathlib.Core.Bool.{Bool, true, false}
use mathlib.Core.List.{List, [], ◌∷◌, ◌++◌}
use Prim.Native.Nat.{ℕ, zero, suc, ◌+◌, ◌-◌, ◌≤◌}
use native.Mathlib.Omega.{arith}
use borrow.Author.Tests.{le-leb, leb-true}
use lib.Dec.{leb}
use lib.ListN.{length, take, drop, length-append, length-drop, take-append-drop}
use lib.Seq.{length-take-le, drop-drop, take-append_seam, drop-append_seam}
use Rattle.answer.specs.Checks.{pick}
use Rattle.octets.specs.Elements.{element}
use Rattle.octets.specs.Numbers.{Octets}
use Rattle.walk.specs.Elements.{Elements, end, cut_contents, more, elements_after, elements_in, past_element}
use Rattle.walk.proofs.Walking.{headed}

-- an element's octets in front of others
pub front : (id : ℕ) (c rest : List ℕ) → elements_in (element id c ++ rest) ≡ more id c (elements_in rest)
front id c rest =
    let fits : leb (length c) (length (c ++ rest)) ≡ true = le-leb (length c) (length (c ++ rest)) (omega (arith, length-append c rest)) in
    headed id (length c) (c ++ rest) ∙ simp (fits, take-append_seam c rest, drop-append_seam c rest)

pub none : elements_in [] ≡ end
unfolding elements_in elements_after
none = refl

-- what an element in front says of the octets
pub record Split (run : List ℕ) (id : ℕ) (c : List ℕ) (es : Elements) : Type 0 where
  pub rest : List ℕ
  pub octets : run ≡ element id c ++ rest
  pub after : elements_in rest ≡ es

split_by : (i n : ℕ) (os : List ℕ) (id : ℕ) (c : List ℕ) (es : Elements) (u : Bool) → leb n (length os) ≡ u
    → pick u (more i (take n os) (elements_in (drop n os))) (cut_contents i) ≡ more id c es → Split (i ∷ n ∷ os) id c es
split_by i n os id c es true fits e =
    let same : i ≡ id = cc in
    let part : take n os ≡ c = cc in
    let size : n ≡ length c = sym (length-take-le n os (leb-true n (length os) fits)) ∙ ap length part in
    record {
      rest = drop n os;
      octets =
          ap (λ (r : List ℕ). i ∷ n ∷ r) (sym (take-append-drop n os)) ∙ ap (λ (k : ℕ). k ∷ n ∷ take n os ++ drop n os) same
          ∙ ap (λ (k : ℕ). id ∷ k ∷ take n os ++ drop n os) size ∙ ap (λ (r : List ℕ). id ∷ length c ∷ r ++ drop n os) part;
      after = cc;
    }
split_by i n os id c es false fits e = cc

pub split : (run : List ℕ) (id : ℕ) (c : List ℕ) (es : Elements) → elements_in run ≡ more id c es → Split run id c es
unfolding elements_in elements_after
split [] id c es e = cc
split (i ∷ []) id c es e = cc
split (i ∷ n ∷ os) id c es e = split_by i n os id c es (leb n (length os)) refl (sym (headed i n os) ∙ e)

-- an element's octets in front, from a place on: its contents, and where the rest begins
pub record Lying (body : List ℕ) (at : ℕ) (x rest : List ℕ) : Type 0 where
  pub inside : past_element at x ≤ length body
  pub contents : take (past_element at x - (at + 2)) (drop (at + 2) body) ≡ x
  pub after : drop (past_element at x) body ≡ rest

pub lying : (body : List ℕ) (at id : ℕ) (x rest : List ℕ) → drop at body ≡ element id x ++ rest → Lying body at x rest
lying body at id x rest e =
    let tail : drop (at + 2) body ≡ x ++ rest = sym (drop-drop 2 at body) ∙ ap (drop 2) e in
    let size : at + 2 + length x - (at + 2) ≡ length x = omega arith in
    record {
      inside = omega (arith, ap length e, length-drop at body, length-append x rest);
      contents = ap (λ (n : ℕ). take n (drop (at + 2) body)) size ∙ ap (take (length x)) tail ∙ take-append_seam x rest;
      after = sym (drop-drop (length x) (at + 2) body) ∙ ap (drop (length x)) tail ∙ drop-append_seam x rest;
    }

empty_by : (i n : ℕ) (os : List ℕ) (u : Bool) → pick u (more i (take n os) (elements_in (drop n os))) (cut_contents i) ≡ end → i ∷ n ∷ os ≡ []
empty_by i n os true e = cc
empty_by i n os false e = cc

pub empty : (run : List ℕ) → elements_in run ≡ end → run ≡ []
unfolding elements_in elements_after
empty [] e = refl
empty (i ∷ []) e = cc
empty (i ∷ n ∷ os) e = empty_by i n os (leb n (length os)) (sym (headed i n os) ∙ e)

-- octets in front of others, and those after
pub octets_front : (c rest : List ℕ) → Octets (c ++ rest) → Octets c
octets_front [] rest o i = omega arith
octets_front (x ∷ c) rest o zero = o 0
octets_front (x ∷ c) rest o (suc i) = octets_front c rest (λ j. o (suc j)) i

pub octets_after : (c rest : List ℕ) → Octets (c ++ rest) → Octets rest
octets_after [] rest o = o
octets_after (x ∷ c) rest o = octets_after c rest (λ j. o (suc j))
