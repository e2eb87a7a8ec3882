-- What the walk of an action body hands out together with what it passes over is the whole run, octet for octet, whatever the run (02, Four). Assumes nothing.
use Rattle.std.specs.Prelude.{Some}
use mathlib.Core.Bool.{Bool, true, false}
use mathlib.Core.List.{List, [], ◌∷◌, ◌++◌, append_assoc}
use mathlib.Core.Logic.{inl, inr}
use mathlib.Core.Path.{◌≡◌, refl, sym, ap, subst, ◌∙◌}
use Prim.Native.Nat.{ℕ, ◌+◌, ◌-◌}
use native.Mathlib.Omega.{arith}
use borrow.Author.Tests.{eqb-true}
use borrow.Fn.Kinds.{Dens, ended_of}
use contract.Lifetimes.{Lfts}
use denote.Triple.Clauses.{AtExit}
use lib.Dec.{eqb}
use lib.ListN.{length, take, drop, length-append}
use lib.Seq.{take-append_seam}
use Rattle.answer.specs.Checks.{pick}
use Rattle.answer.specs.Faults.{Placed}
use Rattle.octets.specs.Elements.{element}
use Rattle.walk.proofs.RunLaws.{split, empty}
use Rattle.walk.proofs.pass_over as PassOver
use Rattle.walk.specs.CodeTerms.Next.{next_after}
use Rattle.walk.specs.Elements.{Elements, elements_in, past_element}
use Rattle.walk.specs.Elements as Raw
use Rattle.walk.specs.Handed.{Handed, end, cut_header, cut_contents, more, passed, cut_passed, vendor_id, passing, handing, passing_in, handed_in, octets_of, skipped_before}
use Rattle.claims.specs.PassedOver.{CutElement, LeftBy, WholeRun, standing_at, SkipsFrom}
use Rattle.claims.proofs.RunItems.{is_half, is_cut}

-- an element in front of a whole run
in_front_lem : (run os rest : List ℕ) (hs gs : Handed) → run ≡ os ++ rest → ((left : List ℕ) → LeftBy hs left → LeftBy gs left) → octets_of gs ≡ os ++ octets_of hs
    → WholeRun rest hs → WholeRun run gs
in_front_lem run os rest hs gs e keeps is w =
    record {
      left = w.left;
      octets = e ∙ ap (λ (x : List ℕ). os ++ x) w.octets ∙ sym (append_assoc os (octets_of hs) w.left) ∙ ap (λ (x : List ℕ). x ++ w.left) (sym is);
      left_is = keeps w.left w.left_is;
    }

whole_after : (es : Elements) (run : List ℕ) → elements_in run ≡ es → WholeRun run (passing es)
unfolding passing octets_of LeftBy
whole_after Raw.end run e = record { left = []; octets = empty run e; left_is = refl }
whole_after (Raw.cut_header o) run e = by (eqb o vendor_id) refl
  where
    by : (t : Bool) → eqb o vendor_id ≡ t → WholeRun run (pick t cut_passed cut_header)
    by true v = record { left = run; octets = refl; left_is = inl (is_half run o e ∙ ap (λ (n : ℕ). n ∷ []) (eqb-true o vendor_id v)) }
    by false v = record { left = run; octets = refl; left_is = (o, is_half run o e) }
whole_after (Raw.cut_contents id) run e = by (eqb id vendor_id) refl
  where
    by : (t : Bool) → eqb id vendor_id ≡ t → WholeRun run (pick t cut_passed (cut_contents id))
    by true v = record { left = run; octets = refl; left_is = inr (subst (λ (n : ℕ). CutElement n run) (eqb-true id vendor_id v) (is_cut run id e)) }
    by false v = record { left = run; octets = refl; left_is = is_cut run id e }
whole_after (Raw.more id c es) run e = let y = split run id c es e in by (eqb id vendor_id) refl (whole_after es y.rest y.after)
  where
    by : (t : Bool) → eqb id vendor_id ≡ t → WholeRun (split run id c es e).rest (passing es) → WholeRun run (pick t (passed c (passing es)) (more id c (passing es)))
    by true v on =
        let y = split run id c es e in
        in_front_lem run (element vendor_id c) y.rest (passing es) (passed c (passing es)) (y.octets ∙ ap (λ (n : ℕ). element n c ++ y.rest) (eqb-true id vendor_id v)) (λ left l. l) refl on
    by false v on =
        let y = split run id c es e in
        in_front_lem run (element id c) y.rest (passing es) (more id c (passing es)) y.octets (λ left l. l) refl on

whole_from : (es : Elements) (run : List ℕ) → elements_in run ≡ es → WholeRun run (handing es)
unfolding handing octets_of LeftBy
whole_from Raw.end run e = record { left = []; octets = empty run e; left_is = refl }
whole_from (Raw.cut_header o) run e = record { left = run; octets = refl; left_is = (o, is_half run o e) }
whole_from (Raw.cut_contents id) run e = record { left = run; octets = refl; left_is = is_cut run id e }
whole_from (Raw.more id c es) run e =
    let y = split run id c es e in
    in_front_lem run (element id c) y.rest (passing es) (more id c (passing es)) y.octets (λ left l. l) refl (whole_after es y.rest y.after)

-- from the first element on, and after one
pub whole_handed : (run : List ℕ) → WholeRun run (handed_in run)
whole_handed run = whole_from (elements_in run) run refl

pub whole_passing : (run : List ℕ) → WholeRun run (passing_in run)
whole_passing run = whole_after (elements_in run) run refl

-- ---- where `pass_over` then stands: the octets before that are those that were skipped

skipped_front : (es : Elements) (run : List ℕ) → elements_in run ≡ es → (rest : List ℕ) × (run ≡ skipped_before (passing es) ++ rest)
unfolding passing skipped_before
skipped_front Raw.end run e = (run, refl)
skipped_front (Raw.cut_header o) run e = by (eqb o vendor_id)
  where
    by : (t : Bool) → (rest : List ℕ) × (run ≡ skipped_before (pick t cut_passed cut_header) ++ rest)
    by true = (run, refl)
    by false = (run, refl)
skipped_front (Raw.cut_contents id) run e = by (eqb id vendor_id)
  where
    by : (t : Bool) → (rest : List ℕ) × (run ≡ skipped_before (pick t cut_passed (cut_contents id)) ++ rest)
    by true = (run, refl)
    by false = (run, refl)
skipped_front (Raw.more id c es) run e = let y = split run id c es e in by (eqb id vendor_id) refl (skipped_front es y.rest y.after)
  where
    by : (t : Bool) → eqb id vendor_id ≡ t → (rest : List ℕ) × ((split run id c es e).rest ≡ skipped_before (passing es) ++ rest)
        → (rest : List ℕ) × (run ≡ skipped_before (pick t (passed c (passing es)) (more id c (passing es))) ++ rest)
    by true v r =
        let y = split run id c es e in (
          r.0,
          y.octets ∙ ap (λ (n : ℕ). element n c ++ y.rest) (eqb-true id vendor_id v) ∙ ap (λ (os : List ℕ). element vendor_id c ++ os) r.1
              ∙ sym (append_assoc (element vendor_id c) (skipped_before (passing es)) r.0),
        )
    by false v r = (run, refl)

-- where the walk stands: so many octets past where it went on
record StandsPast (n k : ℕ) (x : Placed ℕ) : Type 0 where
  at : ℕ
  stands : standing_at x ≡ Some at
  many : at ≡ n + k

next_place : (hs : Handed) (n : ℕ) → StandsPast n (length (skipped_before hs)) (next_after n hs)
unfolding next_after skipped_before
next_place end n = record { at = n; stands = refl; many = omega arith }
next_place cut_header n = record { at = n; stands = refl; many = omega arith }
next_place (cut_contents id) n = record { at = n; stands = refl; many = omega arith }
next_place (more id c hs) n = record { at = n; stands = refl; many = omega arith }
next_place (passed c hs) n =
    let s = next_place hs (past_element n c) in
    record { at = s.at; stands = s.stands; many = omega (arith, s.many, length-append (element vendor_id c) (skipped_before hs)) }
next_place cut_passed n = record { at = n; stands = refl; many = omega arith }

pub skipped_octets_lem : (κs : Lfts 1) (a : Dens κs PassOver.Kinds.ps) (e : AtExit (ended_of 1 PassOver.Kinds.ps PassOver.Kinds.r) κs) (x : Placed ℕ)
    → PassOver.Reads.Post κs a x e → SkipsFrom a.1.0 (drop a.1.0 a.0.now) x
skipped_octets_lem κs a e x p =
    let run = drop a.1.0 a.0.now in
    let r = skipped_front (elements_in run) run refl in
    let s = next_place (passing_in run) a.1.0 in
    let many : s.at - a.1.0 ≡ length (skipped_before (passing_in run)) = omega (arith, s.many) in
    record {
      at = s.at;
      stands = ap standing_at p ∙ s.stands;
      skipped =
          ap (λ (n : ℕ). take n run) many ∙ ap (take (length (skipped_before (passing_in run)))) r.1 ∙ take-append_seam (skipped_before (passing_in run)) r.0;
    }
