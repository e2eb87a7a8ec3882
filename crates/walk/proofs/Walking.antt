-- The elements of a run, from a place on. Assumes nothing.
use mathlib.Core.Path.{◌≡◌, refl, ap, ◌∙◌}
use mathlib.Core.List.{List, [], ◌∷◌, ◌++◌}
use Prim.Native.Nat.{ℕ, zero, suc, ◌+◌, ◌-◌, ◌*◌, ◌<◌, ◌≤◌}
use native.Mathlib.Omega.{arith}
use lib.Dec.{leb}
use lib.ListN.{length, take, drop, length-drop, drop_of_length-le}
use lib.Seq.{drop-cons, length-take-le}
use Rattle.answer.specs.Checks.{pick}
use Rattle.octets.specs.Numbers.{join, octet, number}
use Rattle.octets.proofs.Prefixed as Prefixed
use Rattle.walk.specs.Elements.{Elements, end, cut_header, cut_contents, more, elements_after, elements_in, past_element}

-- after so many octets are the elements of what is left without them
pub after : (k : ℕ) (os : List ℕ) → elements_after k os ≡ elements_in (drop k os)
unfolding elements_in elements_after
after zero os = refl
after (suc k) [] = refl
after (suc k) (o ∷ os) = after k os

-- past an element that lies in a run between two places
pub next_place : (run : List ℕ) (at start stop : ℕ) → start ≡ at + 2 → start ≤ stop → stop ≤ length run → past_element at (take (stop - start) (drop start run)) ≡ stop
next_place run at start stop begins ordered inside =
    let long = length-take-le (stop - start) (drop start run) (simp length-drop (omega arith)) in omega arith

-- a header, and what it says of the rest
pub headed : (id n : ℕ) (os : List ℕ)
    → elements_in (id ∷ n ∷ os) ≡ pick (leb n (length os)) (more id (take n os) (elements_in (drop n os))) (cut_contents id)
headed id n os = opened ∙ ap (λ (es : Elements). pick (leb n (length os)) (more id (take n os) es) (cut_contents id)) (after n os)
  where
    opened : elements_in (id ∷ n ∷ os) ≡ pick (leb n (length os)) (more id (take n os) (elements_after n os)) (cut_contents id)
    opened = unfold elements_in elements_after in refl

-- the same, of a length of one octet
headed_by : (id : ℕ) (size rest : List ℕ) → length size ≡ 1
    → let n = join size in elements_in (id ∷ (size ++ rest)) ≡ pick (leb n (length rest)) (more id (take n rest) (elements_in (drop n rest))) (cut_contents id)
headed_by id [] rest e = absurd (omega arith)
headed_by id (n ∷ []) rest e =
    headed id n rest ∙ ap (λ (k : ℕ). pick (leb k (length rest)) (more id (take k rest) (elements_in (drop k rest))) (cut_contents id)) (let one : n ≡ n + 256 * 0 = omega arith in one)
headed_by id (n ∷ m ∷ size) rest e = absurd (omega arith)

module _ (s : List ℕ) (at : ℕ) where
  pub at_end : length s ≤ at → elements_in (drop at s) ≡ end
  unfolding elements_in elements_after
  at_end h = simp (drop_of_length-le s h)

  pub at_cut_header : at < length s → length s - at < 2 → elements_in (drop at s) ≡ cut_header (octet at s)
  unfolding elements_in elements_after
  at_cut_header h k = simp (drop-cons s at 0 h, drop_of_length-le s {i = suc at} (omega arith))

  module _ (n : ℕ) (e : n ≡ octet (at + 1) s) (h : at + 2 ≤ length s) where
    size : n ≡ number 1 (at + 1) s
    size = omega (arith, e)

    pub at_cut_contents : length s - (at + 2) < n → elements_in (drop at s) ≡ cut_contents (octet at s)
    at_cut_contents = Prefixed.at_cut 1 more cut_contents elements_in headed_by s at n size h

    pub at_whole : n ≤ length s - (at + 2)
        → elements_in (drop at s) ≡ more (octet at s) (take (at + 2 + n - (at + 2)) (drop (at + 2) s)) (elements_in (drop (at + 2 + n) s))
    at_whole = Prefixed.at_whole 1 more cut_contents elements_in headed_by s at n size h
