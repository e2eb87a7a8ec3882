-- Laws of the element that has to be there, and of what is left after it. Assumes nothing.
use Rattle.std.specs.Prelude.{Ok, Err}
use mathlib.Core.Path.{◌≡◌, refl, sym, ap, subst, ◌∙◌}
use mathlib.Core.Bool.{Bool, true, false}
use mathlib.Core.List.{List, [], ◌∷◌}
use Prim.Native.Nat.{ℕ, ◌+◌, ◌-◌, ◌<◌, ◌≤◌}
use native.Mathlib.Omega.{arith}
use borrow.Author.Tests.{eq-eqb, eqb-true, not-false}
use lib.Dec.{leb, eqb}
use lib.ListN.{length, take, drop, length-drop}
use lib.Seq.{length-take-le}
use Rattle.answer.proofs.Judged as Judged
use Rattle.answer.proofs.Judged.{never}
use Rattle.answer.specs.Checks.{Outcome, pick, checked}
use Rattle.answer.specs.Faults.{fault_at, Placed}
use Rattle.answer.specs.declared.Fault.{Fault}
use Rattle.answer.specs.declared.Refusal.{Refusal}
use Rattle.walk.specs.CodeTerms.Required.{between, required_told, RequiredWithin}
use Rattle.walk.specs.CodeTerms.Next.{next_after}
use Rattle.walk.specs.Elements.{Elements, elements_after, elements_in, past_element}
use Rattle.walk.specs.Elements as Raw
use Rattle.walk.specs.Handed.{Handed, end, cut_header, cut_contents, more, passed, cut_passed, handing, passing_in, handed_in}
use Rattle.walk.specs.Required.{Standing, required, nothing_left}
use Rattle.walk.specs.declared.Contents.{Contents}
use Rattle.walk.proofs.Passing.{past_passed, onward_at}
use Rattle.walk.proofs.Walking.{at_end, headed, next_place}

-- ---- the element that has to be there

module _ (id : ℕ) where
  -- is a whole one of this ID
  pub whole : (hs : Handed) (s : Standing) → required id hs ≡ Ok s → hs ≡ more id s.contents s.rest
  unfolding required
  whole end s e = absurd (Judged.never e)
  whole cut_header s e = absurd (Judged.never e)
  whole (cut_contents i) s e = absurd (Judged.never (Judged.stands _ (Judged.passed _ _ _ e).1))
  whole (more i c hs) s e =
      let p = Judged.passed _ _ _ e in
      let k : record { contents = c; rest = hs } ≡ s = Judged.kept _ p.1 in
      ap (λ (n : ℕ). more n c hs) (eqb-true i id (not-false (eqb i id) p.0)) ∙ ap (λ (x : Standing). more id x.contents x.rest) k
  whole (passed c hs) s e = absurd (Judged.never e)
  whole cut_passed s e = absurd (Judged.never e)

  -- and such a one is there
  pub there : (c : List ℕ) (hs : Handed) → required id (more id c hs) ≡ Ok (record { contents = c; rest = hs })
  unfolding required checked
  there c hs = simp (eq-eqb id id refl)

-- ---- what `required_at` promises, by its case

-- the contents lie between two places of the run
pub record Lies (run : List ℕ) (at id : ℕ) (c : Contents) : Type 0 where
  pub stands : required id (handed_in (drop at run)) ≡ Ok (between run c)
  pub begins : c.start ≡ at + 2
  pub ordered : c.start ≤ c.end
  pub inside : c.end ≤ length run

-- they are as long as the places say
pub long : {run : List ℕ} {at id : ℕ} {c : Contents} → Lies run at id c → length (take (c.end - c.start) (drop c.start run)) ≡ c.end - c.start
long {run} {at} {id} {c} l = length-take-le (c.end - c.start) (drop c.start run) (simp length-drop (omega (arith, l.ordered, l.inside)))

-- and the next element begins where they end
pub past : {run : List ℕ} {at id : ℕ} {c : Contents} → Lies run at id c → past_element at (take (c.end - c.start) (drop c.start run)) ≡ c.end
past {run} {at} {id} {c} l = next_place run at c.start c.end l.begins l.ordered l.inside

module _ (run : List ℕ) (at id : ℕ) (x : Outcome Contents) (t : required_told run x ≡ required id (handed_in (drop at run))) where
  pub lies : RequiredWithin at (length run) x → {c : Contents} → x ≡ Ok c → Lies run at id c
  lies w e =
      let v = subst (RequiredWithin at (length run)) e w in
      record { stands = sym t ∙ ap (required_told run) e; begins = v.0; ordered = v.1; inside = v.2 }

-- ---- what is left after it

module _ {A : Type 0} (a : A) where
  -- nothing but what is passed over, as far as that goes
  pub left_onward : (hs : Handed) (n : ℕ) {m : ℕ} → next_after n hs ≡ Ok m → nothing_left n hs a ≡ nothing_left m (past_passed hs) a
  unfolding nothing_left next_after
  left_onward end n e = refl
  left_onward cut_header n e = cc
  left_onward (cut_contents id) n e = cc
  left_onward (more id c hs) n e = cc
  left_onward (passed c hs) n e = left_onward hs (past_element n c) e
  left_onward cut_passed n e = absurd (never e)

  -- or one of them is cut
  pub left_cut : (hs : Handed) (n : ℕ) {x : Fault} → next_after n hs ≡ Err x → nothing_left n hs a ≡ Err x
  unfolding nothing_left next_after
  left_cut end n e = absurd (never (sym e))
  left_cut cut_header n e = absurd (never (sym e))
  left_cut (cut_contents id) n e = absurd (never (sym e))
  left_cut (more id c hs) n e = absurd (never (sym e))
  left_cut (passed c hs) n e = left_cut hs (past_element n c) e
  left_cut cut_passed n e = cc

  module _ (n : ℕ) where
    abbrev over : Placed A
    over = Err (fault_at n Refusal.LeftOver)

    by_size : (t : Bool) (id : ℕ) (c : List ℕ) (es : Elements) → nothing_left n (handing (pick t (Raw.more id c es) (Raw.cut_contents id))) a ≡ over
    unfolding nothing_left handing
    by_size true id c es = refl
    by_size false id c es = refl

    left : (os : List ℕ) → 0 < length os → nothing_left n (handed_in os) a ≡ over
    unfolding nothing_left handing
    left [] h = absurd (omega arith)
    left (id ∷ []) h = unfold elements_in elements_after in refl
    left (id ∷ m ∷ os) h =
        ap (λ (es : Elements). nothing_left n (handing es) a) (headed id m os) ∙ by_size (leb m (length os)) id (take m os) (elements_in (drop m os))

    none : (run : List ℕ) → length run ≤ n → nothing_left n (handed_in (drop n run)) a ≡ Ok a
    unfolding nothing_left handing
    none run h = ap (λ (es : Elements). nothing_left n (handing es) a) (at_end run n h)

  -- past what is passed over, octets that are left are refused
  module _ (run : List ℕ) (at : ℕ) {next : ℕ} (e : next_after at (passing_in (drop at run)) ≡ Ok next) where
    by_next : nothing_left at (passing_in (drop at run)) a ≡ nothing_left next (handed_in (drop next run)) a
    by_next = left_onward (passing_in (drop at run)) at e ∙ ap (λ (hs : Handed). nothing_left next hs a) (onward_at run at e)

    pub left_over : next < length run → nothing_left at (passing_in (drop at run)) a ≡ Err (fault_at next Refusal.LeftOver)
    left_over h = by_next ∙ left next (drop next run) (simp length-drop (omega arith))

    pub none_left : length run ≤ next → nothing_left at (passing_in (drop at run)) a ≡ Ok a
    none_left h = by_next ∙ none next run h
