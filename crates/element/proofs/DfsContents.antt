-- Element 41: what is accepted, how it is put together, and demand 2 for it. Assumes nothing.
use Rattle.std.specs.Prelude.{Ok}
use mathlib.Core.Bool.{Bool, true, false, not, ◌&&◌}
use mathlib.Core.List.{List, [], ◌∷◌, ◌++◌}
use mathlib.Core.Path.{◌≡◌, refl, sym, ap, ap₂, ◌∙◌, subst}
use Prim.Native.Nat.{ℕ, ◌+◌, ◌-◌, ◌*◌, ◌%◌, ◌<◌, ◌≤◌}
use native.Mathlib.Omega.{arith}
use borrow.Author.Tests.{le-leb, eq-eqb, leb-true, eqb-true, lt-ltb, not-false}
use lib.Dec.{leb, eqb}
use lib.ListN.{length, take, length-drop, length-append}
use Rattle.std.proofs.lemmas.Slice.{take-put_mid}
use borrow.Rule.Slice.PartMut.{put_mid}
use lib.Seq.{take_at}
use Rattle.answer.proofs.Judged.{past, done, passed, kept}
use Rattle.octets.proofs.JoinSplit.{all_from}
use Rattle.octets.specs.Elements.{RoundTrip}
use Rattle.octets.specs.Numbers.{Octets, octet, octets_from}
use Rattle.element.specs.IbssDfs.{Dfs, pairs_in, dfs_in, dfs_length, dfs_forbids, dfs_means, pair_means, dfs_contents, dfs_may_of, dfs_may, dfs_octets, DfsFits, few_pairs, in_element}

-- ---- the length

module _ (n : ℕ) where
  length_right : 7 ≤ n → (n - 7) % 2 ≡ 0 → dfs_length n ≡ true
  length_right h even = ap₂ (λ (a b : Bool). a && b) (le-leb 7 n h) (eq-eqb ((n - 7) % 2) 0 even)

  right_length : dfs_length n ≡ true → (7 ≤ n) × ((n - 7) % 2 ≡ 0)
  right_length e = by (leb 7 n) (eqb ((n - 7) % 2) 0) refl refl e
    where
      by : (a b : Bool) → leb 7 n ≡ a → eqb ((n - 7) % 2) 0 ≡ b → (a && b) ≡ true → (7 ≤ n) × ((n - 7) % 2 ≡ 0)
      by true true f g h = (leb-true 7 n f, eqb-true ((n - 7) % 2) 0 g)
      by true false f g h = absurd (let z : ◌≡◌ {A = ℕ} 0 1 = cc in omega arith)
      by false b f g h = absurd (let z : ◌≡◌ {A = ℕ} 0 1 = cc in omega arith)

-- ---- an accepted element

module _ (c : List ℕ) where
  good : dfs_length (length c) ≡ true → dfs_forbids (octets_from 6 0 c) (octet 6 c) ≡ false → Ok (dfs_in c) ≡ dfs_means c
  unfolding dfs_means
  good e f = past _ _ _ (ap not e) (past _ _ _ f (done _))

  -- an accepted record is the one in contents of such a length, and none that is forbidden
  pub opened : (d : Dfs) → dfs_means c ≡ Ok d → (dfs_length (length c) ≡ true) × (dfs_in c ≡ d) × (dfs_forbids d.owner d.recovery ≡ false)
  unfolding dfs_means
  opened d e =
      let p = passed _ _ _ e in
      let q = passed _ _ _ p.1 in
      let k : dfs_in c ≡ d = kept _ q.1 in
      (not-false (dfs_length (length c)) p.0, k, subst (λ (x : Dfs). dfs_forbids x.owner x.recovery ≡ false) k q.0)

-- ---- the pairs

pub a_pair : (i : ℕ) (c : List ℕ) → i < pairs_in (length c) → Ok (record { channel = octet (7 + 2 * i) c; map = octet (7 + 2 * i + 1) c }) ≡ pair_means i c
unfolding pair_means
a_pair i c h = past _ _ _ (ap not (lt-ltb i (pairs_in (length c)) h)) (done _)

-- ---- writing

-- what may be written
module _ (owner : List ℕ) (recovery n : ℕ) where
  may_be : dfs_may_of owner recovery n ≡ true → (dfs_forbids owner recovery ≡ false) × (n % 2 ≡ 0) × (n ≤ 248)
  may_be e = by (dfs_forbids owner recovery) (eqb (n % 2) 0) (leb n 248) refl refl refl e
    where
      by : (f even short : Bool) → dfs_forbids owner recovery ≡ f → eqb (n % 2) 0 ≡ even → leb n 248 ≡ short → (not f && (even && short)) ≡ true
          → (dfs_forbids owner recovery ≡ false) × (n % 2 ≡ 0) × (n ≤ 248)
      by false true true a b d h = (a, eqb-true (n % 2) 0 b, leb-true n 248 d)
      by false true false a b d h = absurd (let z : ◌≡◌ {A = ℕ} 0 1 = cc in omega arith)
      by false false short a b d h = absurd (let z : ◌≡◌ {A = ℕ} 0 1 = cc in omega arith)
      by true even short a b d h = absurd (let z : ◌≡◌ {A = ℕ} 0 1 = cc in omega arith)

  may : dfs_forbids owner recovery ≡ false → n % 2 ≡ 0 → n ≤ 248 → dfs_may_of owner recovery n ≡ true
  may a b d = ap₂ (λ (x y : Bool). not x && y) a (ap₂ (λ (x y : Bool). x && y) (eq-eqb (n % 2) 0 b) (le-leb n 248 d))

-- a head put in front, and a part put after it
pub put_together : (head part room : List ℕ) (n : ℕ) {front after : List ℕ} → front ≡ head → after ≡ part
    → take (length head + length part) (put_mid (length head) n (front ++ room) after) ≡ head ++ part
put_together head part room n {front} {after} e f =
    take-put_mid (length head) n (front ++ room) after (length head + length part) (omega (arith, ap length f)) (omega (arith, ap length e, length-append front room))
    ∙ ap₂ (λ (xs ys : List ℕ). xs ++ ys) (take_at front room (length head) (ap length e) ∙ e) f

-- the octets of an element, with its head spelled out
pub its_octets : (d : Dfs) → length d.owner ≡ 6 → (41 ∷ (7 + length d.pairs) ∷ (octets_from 6 0 d.owner ++ (d.recovery ∷ d.pairs))) ≡ dfs_octets d
unfolding dfs_octets
its_octets d six =
    ap₂ (λ (n : ℕ) (os : List ℕ). 41 ∷ n ∷ os)
    (let e : 7 + length d.pairs ≡ length (d.owner ++ (d.recovery ∷ d.pairs)) = omega (arith, length-append d.owner (d.recovery ∷ d.pairs)) in e)
    (ap (λ (os : List ℕ). os ++ (d.recovery ∷ d.pairs)) (all_from 6 d.owner six))

-- ---- demand 2

-- an address in front of the rest
in_contents : (d : Dfs) → DfsFits d → dfs_in (dfs_contents d) ≡ d
in_contents d f = by d.owner f
  where
    by : (o : List ℕ) → length o ≡ 6 → dfs_in (o ++ (d.recovery ∷ d.pairs)) ≡ record { owner = o; recovery = d.recovery; pairs = d.pairs }
    by [] e = absurd (omega arith)
    by (o0 ∷ []) e = absurd (omega arith)
    by (o0 ∷ o1 ∷ []) e = absurd (omega arith)
    by (o0 ∷ o1 ∷ o2 ∷ []) e = absurd (omega arith)
    by (o0 ∷ o1 ∷ o2 ∷ o3 ∷ []) e = absurd (omega arith)
    by (o0 ∷ o1 ∷ o2 ∷ o3 ∷ o4 ∷ []) e = absurd (omega arith)
    by (o0 ∷ o1 ∷ o2 ∷ o3 ∷ o4 ∷ o5 ∷ []) e = refl
    by (o0 ∷ o1 ∷ o2 ∷ o3 ∷ o4 ∷ o5 ∷ o6 ∷ os) e = absurd (omega arith)

contents_length : (d : Dfs) → DfsFits d → length (dfs_contents d) ≡ 7 + length d.pairs
contents_length d f = omega (arith, f, length-append d.owner (d.recovery ∷ d.pairs))

pub dfs_trip : RoundTrip dfs_means dfs_contents dfs_may DfsFits few_pairs in_element
dfs_trip = record { there = there; back = back; exact = exact; fits = λ c d o e. subst DfsFits (opened c d e).1 refl }
  where
    forbids_same : (d : Dfs) → DfsFits d → dfs_forbids (octets_from 6 0 (dfs_contents d)) (octet 6 (dfs_contents d)) ≡ dfs_forbids d.owner d.recovery
    forbids_same d f = ap (λ (x : Dfs). dfs_forbids x.owner x.recovery) (in_contents d f)

    there : (d : Dfs) → DfsFits d → dfs_may d ≡ true → dfs_means (dfs_contents d) ≡ Ok d
    there d f m =
        let b = may_be d.owner d.recovery (length d.pairs) m in
        let n = contents_length d f in
        sym (good (dfs_contents d) (length_right (length (dfs_contents d)) (omega (arith, n)) (omega (arith, n, b.1))) (forbids_same d f ∙ b.0))
        ∙ ap Ok (in_contents d f)

    back : (c : List ℕ) (d : Dfs) → Octets c → dfs_means c ≡ Ok d → few_pairs d ≡ true → in_element c ≡ true → (dfs_may d ≡ true) × (dfs_contents d ≡ c)
    back c d o e i k =
        let p = opened c d e in
        let n = right_length (length c) p.0 in
        let same : length d.pairs ≡ length c - 7 = ap (λ (x : Dfs). length x.pairs) (sym p.1) ∙ length-drop 7 c in (
          may d.owner d.recovery (length d.pairs) p.2 (omega (arith, n.1, same)) (leb-true (length d.pairs) 248 i),
          ap dfs_contents (sym p.1) ∙ whole c n.0,
        )
      where
        whole : (os : List ℕ) → 7 ≤ length os → dfs_contents (dfs_in os) ≡ os
        whole [] h = absurd (omega arith)
        whole (o0 ∷ []) h = absurd (omega arith)
        whole (o0 ∷ o1 ∷ []) h = absurd (omega arith)
        whole (o0 ∷ o1 ∷ o2 ∷ []) h = absurd (omega arith)
        whole (o0 ∷ o1 ∷ o2 ∷ o3 ∷ []) h = absurd (omega arith)
        whole (o0 ∷ o1 ∷ o2 ∷ o3 ∷ o4 ∷ []) h = absurd (omega arith)
        whole (o0 ∷ o1 ∷ o2 ∷ o3 ∷ o4 ∷ o5 ∷ []) h = absurd (omega arith)
        whole (o0 ∷ o1 ∷ o2 ∷ o3 ∷ o4 ∷ o5 ∷ o6 ∷ os) h = refl

    exact : (d : Dfs) → DfsFits d → dfs_means (dfs_contents d) ≡ Ok d → few_pairs d ≡ true → dfs_may d ≡ true
    exact d f e i =
        let p = opened (dfs_contents d) d e in
        let n = right_length (length (dfs_contents d)) p.0 in
        may d.owner d.recovery (length d.pairs) p.2 (omega (arith, n.1, contents_length d f)) (leb-true (length d.pairs) 248 i)
