-- Parts of a list of octets are octets: its front, its rest, and the contents of the elements in it. Assumes nothing.
use mathlib.Core.Bool.{Bool, true, false}
use mathlib.Core.List.{List, [], ◌∷◌}
use mathlib.Core.Path.{sym, subst}
use Prim.Native.Nat.{ℕ, zero, suc, ◌+◌, ◌<◌}
use native.Mathlib.Omega.{arith}
use lib.Dec.{leb}
use lib.ListN.{length, take, drop}
use lib.Seq.{get_or-drop}
use Rattle.answer.proofs.Yielding.{Yields, of_refusal, of_value, after_check, after_all}
use Rattle.answer.specs.Checks.{pick}
use Rattle.octets.specs.Numbers.{Octets}
use Rattle.walk.specs.Elements.{Elements, end, cut_header, cut_contents, more, elements_after, elements_in}
use Rattle.walk.specs.Handed.{handing}
use Rattle.walk.specs.Required.{Standing, required}

-- the first of them
pub octets_take : (n : ℕ) (os : List ℕ) → Octets os → Octets (take n os)
octets_take zero os o i = omega arith
octets_take (suc n) [] o i = omega arith
octets_take (suc n) (x ∷ os) o zero = o 0
octets_take (suc n) (x ∷ os) o (suc i) = octets_take n os (λ (j : ℕ). o (suc j)) i

-- those after the first
pub octets_drop : (n : ℕ) (os : List ℕ) → Octets os → Octets (drop n os)
octets_drop n os o i = subst (λ (x : ℕ). x < 256) (sym (get_or-drop n os i 0)) (o (n + i))

-- the contents of every element are octets
abbrev pub AllOctets : Elements → Type 0
AllOctets end = Unit {0}
AllOctets (cut_header x) = Unit {0}
AllOctets (cut_contents id) = Unit {0}
AllOctets (more id c es) = Octets c × AllOctets es

-- an element whose contents are all there, or are cut
whole_octets : (t : Bool) (id : ℕ) (c : List ℕ) (es : Elements) → Octets c → AllOctets es → AllOctets (pick t (more id c es) (cut_contents id))
whole_octets true id c es o all = (o, all)
whole_octets false id c es o all = tt

-- so they are in a run of octets, from a place on
after_octets : (skip : ℕ) (os : List ℕ) → Octets os → AllOctets (elements_after skip os)
unfolding elements_after
after_octets zero [] o = tt
after_octets zero (id ∷ []) o = tt
after_octets zero (id ∷ n ∷ os) o =
    let rest : Octets os = λ (i : ℕ). o (suc (suc i)) in
    whole_octets (leb n (length os)) id (take n os) (elements_after n os) (octets_take n os rest) (after_octets n os rest)
after_octets (suc skip) [] o = tt
after_octets (suc skip) (x ∷ os) o = after_octets skip os (λ (i : ℕ). o (suc i))

-- and in all of it
pub run_octets : (os : List ℕ) → Octets os → AllOctets (elements_in os)
unfolding elements_in
run_octets os o = after_octets 0 os o

-- the contents of an element that stands there are octets
abbrev pub Stands : Standing → Type 0
Stands s = Octets s.contents

-- those of the one that has to be there are
pub required_octets : (id : ℕ) (es : Elements) → AllOctets es → Yields Stands (required id (handing es))
unfolding required handing
required_octets id end o = of_refusal Stands _
required_octets id (cut_header x) o = of_refusal Stands _
required_octets id (cut_contents i) o = after_check Stands _ _ _ (λ same. after_all Stands _ (of_refusal Stands _))
required_octets id (more i c es) o = after_check Stands _ _ _ (λ same. after_all Stands _ (of_value Stands o.0))
