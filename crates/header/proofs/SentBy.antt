-- A frame of an IBSS beside the same frame from an AP (02, Five: "It accepts document 01's frames of its BSSID from any individual address"). Assumes nothing.
use Rattle.std.specs.Prelude.{Ok, Err}
use mathlib.Core.Bool.{Bool, true, false, not, ◌||◌}
use mathlib.Core.List.{List, [], ◌∷◌, ◌++◌}
use mathlib.Core.Logic.{⊎_elim}
use mathlib.Core.Path.{◌≡◌, refl, sym, ap, ap₂, ◌∙◌}
use Prim.Native.Nat.{ℕ, zero, suc, ◌+◌, ◌≤◌}
use native.Mathlib.Omega.{arith}
use borrow.Author.Tests.{lt-ltb, ltb-true, ltb-false}
use lib.Dec.{ltb}
use lib.ListN.{length, take, drop, replicate, length-append, length-take, length-drop, drop_of_length-le, take-append-drop, get_or-append}
use lib.Seq.{length-take-le, get_or-append-add, drop-append-add, drop-drop}
use Rattle.answer.proofs.Booleans.{either, neither}
use Rattle.answer.proofs.Judged.{stop, passed, followed}
use Rattle.answer.specs.Checks.{Outcome, ◌⇒◌, judged, and_then}
use Rattle.answer.specs.declared.Refusal.{Refusal}
use Rattle.octets.proofs.JoinSplit.{all_from}
use Rattle.octets.specs.Numbers.{octet, octets_from, bit}
use Rattle.header.specs.Headers.{header_length, body_of, same, da, sa, bssid, foreign_header, to_all, foreign_address, management_means, address_means, header_means, from_ap}
use Rattle.header.specs.declared.Head.{Head}
use Rattle.header.specs.declared.address.Cell.{Cell}
use Rattle.header.specs.declared.management.Subtype.{Subtype}
use Rattle.header.proofs.Addresses.{same_self}

-- ---- octets of two lists, the one after the other

module _ (xs ys : List ℕ) where
  in_front_lem : (k i : ℕ) → i + k ≤ length xs → octets_from k i (xs ++ ys) ≡ octets_from k i xs
  in_front_lem zero i h = refl
  in_front_lem (suc k) i h = ap₂ (λ (o : ℕ) (os : List ℕ). o ∷ os) (get_or-append xs ys 0 i (omega arith)) (in_front_lem k (i + 1) (omega arith))

  after_these : (k i : ℕ) → octets_from k (length xs + i) (xs ++ ys) ≡ octets_from k i ys
  after_these zero i = refl
  after_these (suc k) i =
      ap₂ (λ (o : ℕ) (os : List ℕ). o ∷ os) (get_or-append-add xs ys i 0)
      (ap (λ (n : ℕ). octets_from k n (xs ++ ys)) (let e : length xs + i + 1 ≡ length xs + (i + 1) = omega arith in e) ∙ after_these k (i + 1))

-- ---- SA replaced by an address

module _ (a : List ℕ) (six : length a ≡ 6) (f : List ℕ) where
  module _ (long : header_length ≤ length f) where
    ten : length (take 10 f) ≡ 10
    ten = length-take-le 10 f (omega arith)

    as_long : length (from_ap a f) ≡ length f
    unfolding from_ap
    as_long = simp (length-append, length-drop) (omega (arith, ten, six))

    -- what stands before SA, SA, and what stands after it
    before : (k i : ℕ) → i + k ≤ 10 → octets_from k i (from_ap a f) ≡ octets_from k i f
    unfolding from_ap
    before k i h =
        in_front_lem (take 10 f) (a ++ drop 16 f) k i (omega (arith, ten))
        ∙ sym (in_front_lem (take 10 f) (drop 10 f) k i (omega (arith, ten)))
        ∙ ap (octets_from k i) (take-append-drop 10 f)

    its_sender : sa (from_ap a f) ≡ a
    unfolding from_ap
    its_sender =
        ap (λ (n : ℕ). octets_from 6 n (take 10 f ++ (a ++ drop 16 f))) (let e : 10 ≡ length (take 10 f) + 0 = omega (arith, ten) in e)
        ∙ after_these (take 10 f) (a ++ drop 16 f) 6 0
        ∙ in_front_lem a (drop 16 f) 6 0 (omega (arith, six))
        ∙ all_from 6 a six

    after : (k i : ℕ) → octets_from k (16 + i) (from_ap a f) ≡ octets_from k (16 + i) f
    unfolding from_ap
    after k i =
        ap (λ (n : ℕ). octets_from k n (take 10 f ++ (a ++ drop 16 f))) (let e : 16 + i ≡ length (take 10 f) + (length a + i) = omega (arith, ten, six) in e)
        ∙ after_these (take 10 f) (a ++ drop 16 f) k (length a + i)
        ∙ after_these a (drop 16 f) k i
        ∙ sym (after_these (take 16 f) (drop 16 f) k i)
        ∙ ap₂ (octets_from k) (let e : length (take 16 f) + i ≡ 16 + i = omega (arith, length-take-le 16 f (omega arith)) in e) (take-append-drop 16 f)

    same_first : octet 0 (from_ap a f) ≡ octet 0 f
    same_first = ap (octet 0) (before 1 0 (omega arith))

    same_header : foreign_header (from_ap a f) ≡ foreign_header f
    unfolding foreign_header
    same_header = rw (same_first, ap (octet 0) (before 1 1 (omega arith)), ap (octet 0) (after 1 6))

    same_management : management_means (from_ap a f) ≡ management_means f
    unfolding management_means
    same_management = rw (as_long, same_header, same_first)

    same_to_all : to_all (from_ap a f) ≡ to_all f
    unfolding to_all
    same_to_all = ap (λ (os : List ℕ). same os (replicate 6 255)) (before 6 4 (omega arith))

    same_address : (own : List ℕ) → bit 0 (octet 0 (sa f)) ≡ false → foreign_address Cell.Ibss own a f ≡ foreign_address Cell.Ap own a (from_ap a f)
    unfolding foreign_address
    same_address own single =
        ap (λ (t : Bool). t || (not (same (bssid f) a) || not (same (da f) own || to_all f))) (single ∙ sym (ap not (ap (λ (os : List ℕ). same os a) its_sender ∙ same_self a)))
        ∙ ap₂ (λ (os : List ℕ) (t : Bool). not (same (sa (from_ap a f)) a) || (not (same os a) || t)) (sym (after 6 0))
        (ap₂ (λ (os : List ℕ) (t : Bool). not (same os own || t)) (sym (before 6 4 (omega arith))) (sym same_to_all))

    same_whole : (own : List ℕ) → bit 0 (octet 0 (sa f)) ≡ false → header_means Cell.Ibss own a f ≡ header_means Cell.Ap own a (from_ap a f)
    unfolding header_means address_means
    same_whole own single =
        ap₂ (λ (o : Outcome Subtype) (to : Outcome Bool). and_then o (λ s. and_then to (λ t. Ok (record { subtype = s; to_all = t })))) (sym same_management)
        (ap₂ (λ (foreign all : Bool). judged (foreign ⇒ Refusal.ForeignAddress ∷ []) all) (same_address own single) (sym same_to_all))

  -- a frame with no whole header has none with another SA either
  still_short : length f ≤ 23 → length (from_ap a f) ≤ 23
  unfolding from_ap
  still_short h = simp (length-append, length-drop) (omega (arith, length-take 10 f, six))

  too_short : (cell : Cell) (own bss g : List ℕ) → length g ≤ 23 → Err Refusal.TooShort ≡ header_means cell own bss g
  unfolding header_means management_means
  too_short cell own bss g h = ap (λ (o : Outcome Subtype). and_then o (λ s. and_then (address_means cell own bss g) (λ t. Ok (record { subtype = s; to_all = t })))) (stop _ _ _ (lt-ltb (length g) header_length (omega arith)))

  -- from an individual address it is heard as from the AP
  pub heard_as_from_ap : (own : List ℕ) → bit 0 (octet 0 (sa f)) ≡ false → header_means Cell.Ibss own a f ≡ header_means Cell.Ap own a (from_ap a f)
  heard_as_from_ap own single =
      ⊎_elim
      (λ (e : ltb (length f) header_length ≡ true).
      let h = ltb-true (length f) header_length e in
      sym (too_short Cell.Ibss own a f (omega arith)) ∙ too_short Cell.Ap own a (from_ap a f) (still_short (omega arith)))
      (λ (e : ltb (length f) header_length ≡ false). same_whole (ltb-false (length f) header_length e) own single)
      (either (ltb (length f) header_length))

  pub same_body : body_of (from_ap a f) ≡ body_of f
  unfolding from_ap
  same_body =
      ⊎_elim
      (λ (e : ltb (length f) header_length ≡ true).
      let h = ltb-true (length f) header_length e in
      drop_of_length-le (from_ap a f) {i = header_length} (let s = still_short (omega arith) in omega arith) ∙ sym (drop_of_length-le f {i = header_length} (omega arith)))
      (λ (e : ltb (length f) header_length ≡ false).
      let long = ltb-false (length f) header_length e in
      ap (λ (n : ℕ). drop n (take 10 f ++ (a ++ drop 16 f))) (let e : 24 ≡ length (take 10 f) + (length a + 8) = omega (arith, ten long, six) in e)
      ∙ drop-append-add (take 10 f) (a ++ drop 16 f) (length a + 8)
      ∙ drop-append-add a (drop 16 f) 8
      ∙ drop-drop 8 16 f)
      (either (ltb (length f) header_length))

-- whoever is heard in an IBSS has an individual address
pub individual : (own bss f : List ℕ) (h : Head) → header_means Cell.Ibss own bss f ≡ Ok h → bit 0 (octet 0 (sa f)) ≡ false
unfolding header_means address_means foreign_address
individual own bss f h e =
    let m = followed (management_means f) _ h e in
    let t = followed (address_means Cell.Ibss own bss f) _ h m.2 in
    (neither _ _ (passed _ _ _ t.1).0).0
