-- Frames that differ in reserved bits alone, and in what else of a header is not looked at, are read the same, refused ones too (01, "Octets": "Reserved
-- bits are ignored when read"). Assumes nothing.
use Rattle.std.specs.Prelude.{Ok}
use mathlib.Core.Bool.{Bool, false, not, ◌||◌}
use mathlib.Core.List.{List, [], ◌∷◌}
use mathlib.Core.Logic.{◌⊎◌, inl, inr}
use mathlib.Core.Path.{◌≡◌, refl, sym, ap, ap₂, subst, ◌∙◌}
use Prim.Native.Nat.{ℕ, ◌/◌, ◌%◌, ◌≤◌, ◌<◌}
use native.Mathlib.Omega.{arith}
use borrow.Author.Tests.{ne_eqb, le-ltb}
use lib.Dec.{ltb, eqb}
use lib.ListN.{length, take, replicate, length-append, take-append-drop}
use lib.Seq.{get_or-take}
use Rattle.answer.proofs.Judged.{passed, kept, followed}
use Rattle.answer.proofs.Placing.{nowhere_value}
use Rattle.answer.specs.Checks.{Outcome, ◌⇒◌, judged, and_then}
use Rattle.answer.specs.Faults.{Placed, nowhere, placed_past}
use Rattle.answer.specs.declared.Refusal.{Refusal}
use Rattle.frame.specs.Actions.{Body}
use Rattle.frame.specs.Frames.{Kind, action, kind_of, sent, frame_means}
use Rattle.header.specs.Headers.{header_length, longest_frame, body_of, same, da, sa, bssid, flags, subtype, fragment, is_read, subtype_of, has_foreign_flag, foreign_header, to_all, foreign_address, management_means, address_means, header_means}
use Rattle.header.specs.declared.Head.{Head}
use Rattle.header.specs.declared.address.Cell.{Cell}
use Rattle.header.specs.declared.management.Subtype.{Subtype}
use Rattle.octets.specs.Numbers.{octet, bit}
use Rattle.claims.specs.Reserved.{header_ignored, MeasurementsAlike, FramesAlike}
use Rattle.claims.proofs.ContentsIgnored.{same_octet, same_from}
use Rattle.claims.proofs.MeasurementsIgnored.{then_alike, runs_as_long, action_ignored}
use Rattle.claims.proofs.Same.{accepted_once}
use Rattle.claims.proofs.SameBits.{low_bits}

-- what every management frame must be, by its length, its octet 0, whether a flag is set that may not be, and its fragment number
abbrev managed_by : ℕ → ℕ → Bool → ℕ → Outcome Subtype
managed_by n first flag fragment =
    judged
    (ltb n header_length ⇒ Refusal.TooShort
    ∷ ltb longest_frame n ⇒ Refusal.TooLong
    ∷ (not (eqb (first % 4) 0) || (not (eqb (first / 4 % 4) 0) || (not (is_read (first / 16)) || (flag || not (eqb fragment 0))))) ⇒ Refusal.ForeignHeader
    ∷ [])
    (subtype_of (first / 16))

-- whose it must be, by its three addresses
abbrev addressed_by : List ℕ → List ℕ → List ℕ → List ℕ → List ℕ → Outcome Bool
addressed_by own ap' to from bss =
    judged
    ((not (same from ap') || (not (same bss ap') || not (same to own || same to (replicate 6 255)))) ⇒ Refusal.ForeignAddress ∷ [])
    (same to (replicate 6 255))

abbrev head_of : Subtype → Bool → Head
head_of s t = record { subtype = s; to_all = t }

module _ (f g : List ℕ) (a : FramesAlike f g) where
  -- ---- the header

  head_bit : (i k : ℕ) → i < header_length → header_ignored i k ≡ false → bit k (octet i f) ≡ bit k (octet i g)
  head_bit i k h e =
      sym (ap (bit k) (get_or-take header_length f i 0 h)) ∙ a.headers.same_bits i k e ∙ ap (bit k) (get_or-take header_length g i 0 h)

  head_octet : (i : ℕ) → i < header_length → ((k : ℕ) → header_ignored i k ≡ false) → octet i f ≡ octet i g
  head_octet i h e = sym (get_or-take header_length f i 0 h) ∙ same_octet a.headers i e ∙ get_or-take header_length g i 0 h

  same_first : octet 0 f ≡ octet 0 g
  same_first = head_octet 0 (omega arith) (λ k. refl)

  same_flags : has_foreign_flag (flags f) ≡ has_foreign_flag (flags g)
  same_flags =
      let to-ds = head_bit 1 0 (omega arith) refl in
      let from-ds = head_bit 1 1 (omega arith) refl in
      let more-fragments = head_bit 1 2 (omega arith) refl in
      let protected = head_bit 1 6 (omega arith) refl in
      rw (to-ds, from-ds, more-fragments, protected)

  same_fragment : fragment f ≡ fragment g
  same_fragment = low_bits 4 (octet 22 f) (octet 22 g) (λ k h. head_bit 22 k (omega arith) (simp (le-ltb 3 k (omega arith))))

  -- DA, SA and BSSID stand in octets 4 to 21
  address_octet : (i : ℕ) → 4 ≤ i → i < 22 → octet i f ≡ octet i g
  address_octet i h j =
      head_octet i (omega arith)
      (λ k. simp (ne_eqb i 1 (omega arith), ne_eqb i 2 (omega arith), ne_eqb i 3 (omega arith), ne_eqb i 22 (omega arith), ne_eqb i 23 (omega arith)))

  same_da : da f ≡ da g
  same_da = same_from f g 6 4 (λ i h j. address_octet i (omega arith) (omega arith))

  same_sa : sa f ≡ sa g
  same_sa = same_from f g 6 10 (λ i h j. address_octet i (omega arith) (omega arith))

  same_bssid : bssid f ≡ bssid g
  same_bssid = same_from f g 6 16 (λ i h j. address_octet i (omega arith) (omega arith))

  body_as_long : length (body_of f) ≡ length (body_of g)
  body_as_long = by a.bodies
    where
      by : (body_of f ≡ body_of g) ⊎ ((subtype f ≡ 13) × MeasurementsAlike (body_of f) (body_of g)) → length (body_of f) ≡ length (body_of g)
      by (inl e) = ap length e
      by (inr (s, m)) = omega (arith, ap length m.octets, runs_as_long m.run m.other_run m.alike, ap length m.other_octets)

  as_long : length f ≡ length g
  as_long =
      omega (
        arith,
        a.headers.as_long,
        body_as_long,
        ap length (take-append-drop header_length f),
        ap length (take-append-drop header_length g),
        length-append (take header_length f) (body_of f),
        length-append (take header_length g) (body_of g),
      )

  same_management : management_means f ≡ management_means g
  unfolding management_means foreign_header
  same_management =
      ap₂ (λ (n o : ℕ). managed_by n o (has_foreign_flag (flags f)) (fragment f)) as_long same_first
      ∙ ap₂ (managed_by (length g) (octet 0 g)) same_flags same_fragment

  module _ (own ap' : List ℕ) where
    same_address : address_means Cell.Ap own ap' f ≡ address_means Cell.Ap own ap' g
    unfolding address_means foreign_address to_all
    same_address = ap₂ (λ (x y : List ℕ). addressed_by own ap' x y (bssid f)) same_da same_sa ∙ ap (addressed_by own ap' (da g) (sa g)) same_bssid

    same_header : header_means Cell.Ap own ap' f ≡ header_means Cell.Ap own ap' g
    unfolding header_means
    same_header =
        ap₂ (λ (m : Outcome Subtype) (o : Outcome Bool). and_then m (λ s. and_then o (λ t. Ok (head_of s t)))) same_management same_address

    -- ---- the body

    -- an accepted header has the subtype of the frame
    subtype_is : (h : Head) → header_means Cell.Ap own ap' g ≡ Ok h → subtype_of (subtype g) ≡ h.subtype
    unfolding header_means management_means
    subtype_is h e =
        let p = followed (management_means g) _ h e in
        let q = followed (address_means Cell.Ap own ap' g) _ h p.2 in
        let r = passed _ _ _ (passed _ _ _ (passed _ _ _ p.1).1).1 in
        kept _ r.1 ∙ ap (λ (x : Head). x.subtype) (let is : head_of p.0 q.0 ≡ h = accepted_once q.2 in is)

    module _ (b : ℕ) where
      same_kind : (h : Head) → header_means Cell.Ap own ap' g ≡ Ok h → kind_of b h.subtype (body_of f) ≡ kind_of b h.subtype (body_of g)
      same_kind h e = by a.bodies
        where
          by : (body_of f ≡ body_of g) ⊎ ((subtype f ≡ 13) × MeasurementsAlike (body_of f) (body_of g))
              → kind_of b h.subtype (body_of f) ≡ kind_of b h.subtype (body_of g)
          by (inl same) = ap (kind_of b h.subtype) same
          by (inr (is, m)) =
              subst (λ (s : Subtype). kind_of b s (body_of f) ≡ kind_of b s (body_of g))
              (ap subtype_of (sym is ∙ ap (λ (o : ℕ). o / 16) same_first) ∙ subtype_is h e)
              (ap (λ (o : Placed Body). and_then o (λ x. Ok (action x))) (action_ignored (body_of f) (body_of g) m))

      -- read the same
      pub frame_ignored : frame_means own ap' b f ≡ frame_means own ap' b g
      unfolding frame_means
      frame_ignored =
          ap (λ (o : Outcome Head). and_then (nowhere o) (λ h. sent h.to_all (placed_past header_length (kind_of b h.subtype (body_of f))))) same_header
          ∙ then_alike (nowhere (header_means Cell.Ap own ap' g)) _ _
          (λ h e. ap (λ (k : Placed Kind). sent h.to_all (placed_past header_length k)) (same_kind h (nowhere_value (header_means Cell.Ap own ap' g) e)))
