-- A run of parts, each with a head of a tag and a length of so many octets, and contents: what stands at a place of it. One law over the width of the
-- length, for the elements of a frame (one octet) and for the records of a capture (two). Assumes nothing.
use mathlib.Core.Path.{◌≡◌, sym, ap, ◌∙◌}
use mathlib.Core.List.{List, ◌∷◌, ◌++◌}
use Prim.Native.Nat.{ℕ, zero, suc, ◌+◌, ◌-◌, ◌<◌, ◌≤◌}
use native.Mathlib.Numerals.{add-one}
use native.Mathlib.Omega.{arith}
use borrow.Author.Tests.{le-leb, lt-leb}
use lib.Dec.{leb}
use lib.ListN.{length, take, drop, length-drop}
use lib.Seq.{drop-cons, drop-drop}
use Rattle.answer.specs.Checks.{pick}
use Rattle.octets.specs.Numbers.{join, octet, octets_from, number}
use Rattle.octets.proofs.JoinSplit.{length_from}

-- k octets from a place on, and the rest
pub octets_then : (k at : ℕ) (s : List ℕ) → at + k ≤ length s → drop at s ≡ octets_from k at s ++ drop (at + k) s
octets_then zero at s h = ap (λ (n : ℕ). drop n s) (let e : at ≡ at + 0 = omega arith in e)
octets_then (suc k) at s h =
    let next : at + 1 + k ≡ at + suc k = omega arith in
    drop-cons s at 0 (omega arith)
    ∙ ap (λ (n : ℕ). octet at s ∷ drop n s) (sym (add-one at))
    ∙ ap (λ (r : List ℕ). octet at s ∷ r) (octets_then k (at + 1) s (omega arith))
    ∙ ap (λ (n : ℕ). octet at s ∷ (octets_from k (at + 1) s ++ drop n s)) next

-- `walk` says what a run is made of: a part in front of the rest, or one whose contents run past the end
module _ {R : Type 0} (width : ℕ) (more : ℕ → List ℕ → R → R) (cut : ℕ → R) (walk : List ℕ → R)
    (headed : (tag : ℕ) (size rest : List ℕ) → length size ≡ width
    → walk (tag ∷ (size ++ rest)) ≡ pick (leb (join size) (length rest)) (more tag (take (join size) rest) (walk (drop (join size) rest))) (cut tag))
    (s : List ℕ) (at n : ℕ) (e : n ≡ number width (at + 1) s) (h : at + suc width ≤ length s) where
  abbrev body : ℕ
  body = at + suc width

  at_head : walk (drop at s) ≡ pick (leb n (length s - body)) (more (octet at s) (take n (drop body s)) (walk (drop (body + n) s))) (cut (octet at s))
  at_head =
      ap walk (octets_then (suc width) at s h)
      ∙ headed (octet at s) (octets_from width (at + 1) s) (drop body s) (length_from width (at + 1) s)
      ∙ ap (λ (k : ℕ). pick (leb k (length (drop body s))) (more (octet at s) (take k (drop body s)) (walk (drop k (drop body s)))) (cut (octet at s))) (sym e)
      ∙ ap (λ (k : ℕ). pick (leb n k) (more (octet at s) (take n (drop body s)) (walk (drop n (drop body s)))) (cut (octet at s))) (length-drop body s)
      ∙ ap (λ (r : List ℕ). pick (leb n (length s - body)) (more (octet at s) (take n (drop body s)) (walk r)) (cut (octet at s))) (drop-drop n body s)

  pub at_cut : length s - body < n → walk (drop at s) ≡ cut (octet at s)
  at_cut k = at_head ∙ simp (lt-leb n (length s - body) k)

  pub at_whole : n ≤ length s - body → walk (drop at s) ≡ more (octet at s) (take (body + n - body) (drop body s)) (walk (drop (body + n) s))
  at_whole k =
      let same : n ≡ body + n - body = omega arith in
      at_head ∙ simp (le-leb n (length s - body) k) (ap (λ (j : ℕ). more (octet at s) (take j (drop body s)) (walk (drop (body + n) s))) same)
