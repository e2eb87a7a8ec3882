-- Each promise of the element walk leaves one outcome: what follows a place says what stands there, and where. Assumes nothing.
use Rattle.std.specs.Prelude.{Ok, Err}
use mathlib.Core.Path.{◌≡◌, refl, sym, ap, ap₂, ◌∙◌}
use mathlib.Core.List.{List}
use Prim.Native.Nat.{ℕ, ◌-◌, ◌≤◌}
use native.Mathlib.Omega.{arith}
use lib.ListN.{length, take, drop, length-drop}
use lib.Seq.{length-take-le}
use Rattle.answer.proofs.Judged.{never}
use Rattle.answer.specs.Checks.{Outcome}
use Rattle.walk.proofs.element_at as ElementAt
use Rattle.walk.proofs.has_left_over as HasLeftOver
use Rattle.walk.proofs.pass_over as PassOver
use Rattle.walk.proofs.required_at as RequiredAt
use Rattle.walk.specs.CodeTerms.Found.{follow, Within}
use Rattle.walk.specs.CodeTerms.Required.{between, required_told, RequiredWithin}
use Rattle.walk.specs.Required.{Standing}
use Rattle.walk.specs.declared.Contents.{Contents}
use Rattle.walk.specs.declared.Found.{Found}
use Rattle.answer.specs.Outcomes.{OneResult}
use Rattle.claims.proofs.Same.{once}

-- contents that lie in the run are as long as the places say
pub long : (run : List ℕ) (start stop : ℕ) → start ≤ stop → stop ≤ length run → length (take (stop - start) (drop start run)) ≡ stop - start
long run start stop a b = length-take-le (stop - start) (drop start run) (simp length-drop (omega arith))

whole : (run : List ℕ) (id id' start start' stop stop' : ℕ) → id ≡ id' → start ≡ start' → stop ≡ stop' → Found.Whole id start stop ≡ Found.Whole id' start' stop'
whole run id id' start start' stop stop' a b c = cc

same_place : (run : List ℕ) (at : ℕ) (x y : Found) → Within at (length run) x → Within at (length run) y → follow run x ≡ follow run y → x ≡ y
same_place run at Found.End Found.End w v e = refl
same_place run at Found.End (Found.CutHeader i) w v e = absurd (let z : ◌≡◌ {A = ℕ} 0 1 = cc in omega arith)
same_place run at Found.End (Found.CutContents i) w v e = absurd (let z : ◌≡◌ {A = ℕ} 0 1 = cc in omega arith)
same_place run at Found.End (Found.Whole i s t) w v e = absurd (let z : ◌≡◌ {A = ℕ} 0 1 = cc in omega arith)
same_place run at (Found.CutHeader j) Found.End w v e = absurd (let z : ◌≡◌ {A = ℕ} 0 1 = cc in omega arith)
same_place run at (Found.CutHeader j) (Found.CutHeader i) w v e = let z : j ≡ i = cc in ap Found.CutHeader z
same_place run at (Found.CutHeader j) (Found.CutContents i) w v e = absurd (let z : ◌≡◌ {A = ℕ} 0 1 = cc in omega arith)
same_place run at (Found.CutHeader j) (Found.Whole i s t) w v e = absurd (let z : ◌≡◌ {A = ℕ} 0 1 = cc in omega arith)
same_place run at (Found.CutContents j) Found.End w v e = absurd (let z : ◌≡◌ {A = ℕ} 0 1 = cc in omega arith)
same_place run at (Found.CutContents j) (Found.CutHeader i) w v e = absurd (let z : ◌≡◌ {A = ℕ} 0 1 = cc in omega arith)
same_place run at (Found.CutContents j) (Found.CutContents i) w v e = let z : j ≡ i = cc in ap Found.CutContents z
same_place run at (Found.CutContents j) (Found.Whole i s t) w v e = absurd (let z : ◌≡◌ {A = ℕ} 0 1 = cc in omega arith)
same_place run at (Found.Whole j a b) Found.End w v e = absurd (let z : ◌≡◌ {A = ℕ} 0 1 = cc in omega arith)
same_place run at (Found.Whole j a b) (Found.CutHeader i) w v e = absurd (let z : ◌≡◌ {A = ℕ} 0 1 = cc in omega arith)
same_place run at (Found.Whole j a b) (Found.CutContents i) w v e = absurd (let z : ◌≡◌ {A = ℕ} 0 1 = cc in omega arith)
same_place run at (Found.Whole j a b) (Found.Whole i s t) w v e =
    let k : j ≡ i = cc in
    let c : take (b - a) (drop a run) ≡ take (t - s) (drop s run) = cc in
    let n : b - a ≡ t - s = sym (long run a b w.1 w.2) ∙ ap length c ∙ long run s t v.1 v.2 in
    let p : a ≡ s = w.0 ∙ sym v.0 in
    whole run j i a s b t k p (omega (arith, w.1, v.1))

-- the element that has to be there

-- contents are told by where they begin and end
same_contents : (c d : Contents) → c.start ≡ d.start → c.end ≡ d.end → c ≡ d
same_contents c d p q = ap₂ (λ (s t : ℕ). record { start = s; end = t }) p q

same_required : (run : List ℕ) (at : ℕ) (x y : Outcome Contents) → RequiredWithin at (length run) x → RequiredWithin at (length run) y → required_told run x ≡ required_told run y → x ≡ y
same_required run at (Err r) (Err q) w v e = ap Err (let same : r ≡ q = cc in same)
same_required run at (Err r) (Ok d) w v e = absurd (never e)
same_required run at (Ok c) (Err q) w v e = absurd (never (sym e))
same_required run at (Ok c) (Ok d) w v e =
    let same : between run c ≡ between run d = cc in
    let m = ap (λ (x : Standing). length x.contents) same in
    let n : c.end - c.start ≡ d.end - d.start = sym (long run c.start c.end w.1 w.2) ∙ m ∙ long run d.start d.end v.1 v.2 in
    let p : c.start ≡ d.start = w.0 ∙ sym v.0 in
    let q : c.end ≡ d.end = omega (arith, w.1, v.1) in
    ap Ok (same_contents c d p q)

pub required_at : OneResult 1 RequiredAt.Kinds.ps RequiredAt.Kinds.r RequiredAt.Reads.Post
required_at κs a e f x y p q = same_required a.0.now a.1.0 x y p.1 q.1 (p.0 ∙ sym q.0)

pub has_left_over : OneResult 1 HasLeftOver.Kinds.ps HasLeftOver.Kinds.r HasLeftOver.Reads.Post
has_left_over κs a e f x y p q = once p q

pub pass_over : OneResult 1 PassOver.Kinds.ps PassOver.Kinds.r PassOver.Reads.Post
pass_over κs a e f x y p q = once p q

pub element_at : OneResult 1 ElementAt.Kinds.ps ElementAt.Kinds.r ElementAt.Reads.Post
element_at κs a e f x y p q = same_place a.0.now a.1.0 x y p.1 q.1 (sym p.0 ∙ q.0)
