-- The first octets of a list, and of a run by its elements. Assumes nothing.
use mathlib.Core.Bool.{Bool}
use mathlib.Core.List.{List}
use mathlib.Core.Path.{◌≡◌, ap, ◌∙◌}
use Prim.Native.Nat.{ℕ, ◌+◌, ◌≤◌}
use native.Mathlib.Omega.{arith}
use lib.Dec.{eqb}
use lib.ListN.{length, take, length-take}
use lib.Seq.{get_or-take, take-append-add}
use Rattle.answer.specs.Checks.{pick}
use Rattle.octets.specs.Elements.{element}
use Rattle.octets.specs.Numbers.{octets_from}
use Rattle.walk.proofs.RunLaws.{front, split}
use Rattle.walk.specs.Elements.{Elements, more, elements_in}
use Rattle.walk.specs.Handed as Handed
use Rattle.walk.specs.Handed.{vendor_id, passing, handing, passing_in, handed_in}
use Rattle.claims.proofs.ContentsIgnored.{same_from}

module _ (p : ℕ) (os : List ℕ) where
  -- k octets that stand before the cut are as they were
  pub from_kept : (k i : ℕ) → i + k ≤ p → octets_from k i (take p os) ≡ octets_from k i os
  from_kept k i h = same_from (take p os) os k i (λ j l m. get_or-take p os j 0 (omega arith))

  -- what has n octets and is cut no earlier still has them
  pub long_kept : (n : ℕ) → n ≤ p → n ≤ length os → n ≤ length (take p os)
  long_kept n h l = omega (arith, length-take p os)

-- a whole element in front stands, and what follows it is cut the same
pub element_kept : (run : List ℕ) (id : ℕ) (c : List ℕ) (es : Elements) (e : elements_in run ≡ more id c es) (k : ℕ)
    → elements_in (take (length (element id c) + k) run) ≡ more id c (elements_in (take k (split run id c es e).rest))
element_kept run id c es e k =
    let y = split run id c es e in
    ap (λ (os : List ℕ). elements_in (take (length (element id c) + k) os)) y.octets ∙ ap elements_in (take-append-add (element id c) y.rest k)
    ∙ front id c (take k y.rest)

-- and so of what the walk of an action body hands out, from the first element on and after one
pub handed_kept : (run : List ℕ) (id : ℕ) (c : List ℕ) (es : Elements) (e : elements_in run ≡ more id c es) (k : ℕ)
    → handed_in (take (length (element id c) + k) run) ≡ Handed.more id c (passing_in (take k (split run id c es e).rest))
unfolding handing
handed_kept run id c es e k = ap handing (element_kept run id c es e k)

pub passing_kept : (run : List ℕ) (id : ℕ) (c : List ℕ) (es : Elements) (e : elements_in run ≡ more id c es) (k : ℕ) (t : Bool) → eqb id vendor_id ≡ t
    → let rest = passing_in (take k (split run id c es e).rest) in
    passing_in (take (length (element id c) + k) run) ≡ pick t (Handed.passed c rest) (Handed.more id c rest)
unfolding passing
passing_kept run id c es e k t v =
    let rest = passing_in (take k (split run id c es e).rest) in
    ap passing (element_kept run id c es e k) ∙ ap (λ (u : Bool). pick u (Handed.passed c rest) (Handed.more id c rest)) v
