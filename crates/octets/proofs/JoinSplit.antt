-- Numbers and their octets: joined and split undo each other at every width, by one induction each. Assumes nothing.
use mathlib.Core.Path.{◌≡◌, refl, sym, ap, ap₂, ◌∙◌}
use mathlib.Core.List.{List, [], ◌∷◌, ◌++◌}
use Prim.Native.Nat.{ℕ, zero, suc, ◌+◌, ◌*◌, ◌/◌, ◌%◌, ◌<◌, ◌≤◌, ◌^◌}
use native.Mathlib.Nat.{pow-succ', zero-add, add-zero, suc-add}
use native.Mathlib.Numerals.{add-one}
use native.Mathlib.Omega.{arith}
use lib.ListN.{length, take, drop, replicate, get_or-eq_default}
use lib.Seq.{drop-cons, take_all, get_or-append-add}
use Rattle.octets.specs.Numbers.{Octets, join, split, octet, octets_from, number}

pub join_split : (k x : ℕ) → x < 256 ^ k → join (split k x) ≡ x
join_split zero x h = omega arith
join_split (suc k) x h =
    let i = join_split k (x / 256) (omega (arith, pow-succ' 256 k)) in
    ap (λ (y : ℕ). x % 256 + 256 * y) i ∙ omega arith

pub split_join : (os : List ℕ) → Octets os → split (length os) (join os) ≡ os
split_join [] h = refl
split_join (o ∷ os) h =
    let low : (o + 256 * join os) % 256 ≡ o = omega (arith, h 0) in
    let high : (o + 256 * join os) / 256 ≡ join os = omega (arith, h 0) in
    simp (low, high, split_join os (λ i. h (suc i)))

pub join_bound : (os : List ℕ) → Octets os → join os < 256 ^ length os
join_bound [] h = omega arith
join_bound (o ∷ os) h =
    let i = join_bound os (λ i. h (suc i)) in
    omega (arith, h 0, pow-succ' 256 (length os))

-- ---- octets from a place on

pub from_octets : (k i : ℕ) (os : List ℕ) → Octets os → Octets (octets_from k i os)
from_octets zero i os o j = omega arith
from_octets (suc k) i os o zero = o i
from_octets (suc k) i os o (suc j) = from_octets k (i + 1) os o j

pub length_from : (k i : ℕ) (os : List ℕ) → length (octets_from k i os) ≡ k
length_from zero i os = refl
length_from (suc k) i os = ap suc (length_from k (i + 1) os)

-- two runs one after the other are one run
pub from_add : (j k i : ℕ) (os : List ℕ) → octets_from (j + k) i os ≡ octets_from j i os ++ octets_from k (i + j) os
from_add zero k i os = ap₂ (λ (n p : ℕ). octets_from n p os) (zero-add k) (sym (add-zero i))
from_add (suc j) k i os =
    let later : i + 1 + j ≡ i + suc j = omega arith in
    ap (λ (n : ℕ). octets_from n i os) (suc-add j k)
    ∙ ap (λ (r : List ℕ). octet i os ∷ r) (from_add j k (i + 1) os ∙ ap (λ (p : ℕ). octets_from j (i + 1) os ++ octets_from k p os) later)

-- past what stands in front, they are those of the rest
pub from_after : (k i : ℕ) (xs ys : List ℕ) → octets_from k (length xs + i) (xs ++ ys) ≡ octets_from k i ys
from_after zero i xs ys = refl
from_after (suc k) i xs ys =
    let next : length xs + i + 1 ≡ length xs + (i + 1) = omega arith in
    ap₂ (λ (o : ℕ) (r : List ℕ). o ∷ r)
    (get_or-append-add xs ys i 0)
    (ap (λ (p : ℕ). octets_from k p (xs ++ ys)) next ∙ from_after k (i + 1) xs ys)

-- the octets of a number that was read are those that were read
pub split_number : (k i : ℕ) (os : List ℕ) → Octets os → split k (number k i os) ≡ octets_from k i os
split_number k i os o =
    ap (λ (n : ℕ). split n (number k i os)) (sym (length_from k i os)) ∙ split_join (octets_from k i os) (from_octets k i os o)

pub number_bound : (k i : ℕ) (os : List ℕ) → Octets os → number k i os < 256 ^ k
number_bound k i os o = rw (length_from k i os) at (join_bound (octets_from k i os) (from_octets k i os o))

-- past the end there is nothing
pub from_past : (k i : ℕ) (os : List ℕ) → length os ≤ i → octets_from k i os ≡ replicate k 0
from_past zero i os h = refl
from_past (suc k) i os h = simp (get_or-eq_default os 0 {n = i} h, from_past k (i + 1) os (omega arith))

nothing_joined : (k : ℕ) → join (replicate k 0) ≡ 0
nothing_joined zero = refl
nothing_joined (suc k) = omega (arith, nothing_joined k)

pub number_past : (k i : ℕ) (os : List ℕ) → length os ≤ i → number k i os ≡ 0
number_past k i os h = ap join (from_past k i os h) ∙ nothing_joined k

pub take_from : (k i : ℕ) (os : List ℕ) → i + k ≤ length os → take k (drop i os) ≡ octets_from k i os
take_from zero i os h = refl
take_from (suc k) i os h =
    rw (drop-cons os i 0 (omega arith), ← (add-one i)) (ap (λ (r : List ℕ). octet i os ∷ r) (take_from k (i + 1) os (omega arith)))

-- all the octets, one by one
pub all_from : (k : ℕ) (os : List ℕ) → length os ≡ k → octets_from k 0 os ≡ os
all_from k os e = sym (take_from k 0 os (omega arith)) ∙ take_all k os (omega arith)
