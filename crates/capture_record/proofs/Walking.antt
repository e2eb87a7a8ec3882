-- The records of the used part, from a place on. Assumes nothing.
use mathlib.Core.Path.{◌≡◌, refl, ap, ◌∙◌}
use mathlib.Core.List.{List, [], ◌∷◌, ◌++◌}
use Prim.Native.Nat.{ℕ, zero, suc, ◌+◌, ◌-◌, ◌<◌, ◌≤◌}
use native.Mathlib.Omega.{arith}
use lib.Dec.{leb}
use lib.ListN.{length, take, drop, length-drop, drop_of_length-le}
use Rattle.answer.specs.Checks.{pick}
use Rattle.octets.specs.Numbers.{join, octet, number}
use Rattle.octets.proofs.Prefixed as Prefixed
use Rattle.capture_record.specs.Records.{Records, end, cut, more, records_after, records_in}

-- after so many octets are the records of what is left without them
after : (k : ℕ) (os : List ℕ) → records_after k os ≡ records_in (drop k os)
unfolding records_in records_after
after zero os = refl
after (suc k) [] = refl
after (suc k) (o ∷ os) = after k os

-- kind and length, and what they say of the rest
headed : (kind : ℕ) (size rest : List ℕ) → length size ≡ 2
    → let n = join size in records_in (kind ∷ (size ++ rest)) ≡ pick (leb n (length rest)) (more kind (take n rest) (records_in (drop n rest))) cut
headed kind [] rest e = absurd (omega arith)
headed kind (a ∷ []) rest e = absurd (omega arith)
headed kind (a ∷ b ∷ []) rest e = opened ∙ ap (λ (rs : Records). pick (leb n (length rest)) (more kind (take n rest) rs) cut) (after n rest)
  where
    n : ℕ
    n = join (a ∷ b ∷ [])

    opened : records_in (kind ∷ a ∷ b ∷ rest) ≡ pick (leb n (length rest)) (more kind (take n rest) (records_after n rest)) cut
    opened = unfold records_in records_after in refl
headed kind (a ∷ b ∷ c ∷ size) rest e = absurd (omega arith)

-- one or two octets are no head
short : (os : List ℕ) → 1 ≤ length os → length os < 3 → records_in os ≡ cut
unfolding records_in records_after
short [] lo hi = absurd (omega arith)
short (a ∷ []) lo hi = refl
short (a ∷ b ∷ []) lo hi = refl
short (a ∷ b ∷ c ∷ os) lo hi = absurd (omega arith)

module _ (s : List ℕ) (at : ℕ) where
  pub at_end : length s ≤ at → records_in (drop at s) ≡ end
  unfolding records_in records_after
  at_end h = simp (drop_of_length-le s h)

  pub at_cut_head : at < length s → length s - at < 3 → records_in (drop at s) ≡ cut
  at_cut_head h k = short (drop at s) (omega (arith, length-drop at s)) (omega (arith, length-drop at s))

  module _ (n : ℕ) (e : n ≡ number 2 (at + 1) s) (h : at + 3 ≤ length s) where
    pub at_cut_contents : length s - (at + 3) < n → records_in (drop at s) ≡ cut
    at_cut_contents = Prefixed.at_cut 2 more (λ kind. cut) records_in headed s at n e h

    pub at_whole : n ≤ length s - (at + 3)
        → records_in (drop at s) ≡ more (octet at s) (take (at + 3 + n - (at + 3)) (drop (at + 3) s)) (records_in (drop (at + 3 + n) s))
    at_whole = Prefixed.at_whole 2 more (λ kind. cut) records_in headed s at n e h

-- the ways in which the used part goes on
pub ruleset ways = (at_end, at_cut_head, at_cut_contents, at_whole)
