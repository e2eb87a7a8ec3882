-- The element that has to be there, in an action frame (01, "Answer numbers", "Order"; 02, One: absent (7), header cut (6), another
-- element (21), contents cut (6); left-over octets come last (22)). A vendor's element does not stand for it, and one that is cut where it would be passed over
-- is 6 (02, Four).
use Rattle.std.specs.Prelude.{not, List, [], ◌∷◌, ℕ, eqb, Ok, Err}
use Rattle.answer.specs.Checks.{Outcome, ◌⇒◌, checked, judged}
use Rattle.answer.specs.Faults.{fault_at, Placed}
use Rattle.answer.specs.declared.Refusal.{Refusal}
use Rattle.walk.specs.Elements.{past_element}
use Rattle.walk.specs.Handed.{Handed, end, cut_header, cut_contents, more, passed, cut_passed}

-- an element's contents, and what follows it
pub record Standing : Type 0 where
  pub contents : List ℕ
  pub rest : Handed

-- an element of this ID
unfoldable pub required : ℕ → Handed → Outcome Standing
required id end = Err Refusal.ElementAbsent
required id cut_header = Err Refusal.ElementCut
required id (cut_contents i) = checked (not (eqb i id) ⇒ Refusal.OtherElement ∷ []) (Err Refusal.ElementCut)
required id (more i c hs) = judged (not (eqb i id) ⇒ Refusal.OtherElement ∷ []) (record { contents = c; rest = hs })
required id (passed c hs) = Err Refusal.OtherElement
required id cut_passed = Err Refusal.ElementCut

-- nothing is left after the first n octets, but for what is passed over: the fault is at the next one
unfoldable pub nothing_left : {A : Type 0} → ℕ → Handed → A → Placed A
nothing_left n end a = Ok a
nothing_left n cut_header a = Err (fault_at n Refusal.LeftOver)
nothing_left n (cut_contents id) a = Err (fault_at n Refusal.LeftOver)
nothing_left n (more id c hs) a = Err (fault_at n Refusal.LeftOver)
nothing_left n (passed c hs) a = nothing_left (past_element n c) hs a
nothing_left n cut_passed a = Err (fault_at n Refusal.ElementCut)
