-- What stands before the fault is sound (02, One): of a frame that is refused at its first element or later, the octets before the fault are a frame that is
-- accepted, or an action frame whose first element is absent. Assumes nothing.
use Rattle.std.specs.Prelude.{Ok, Err}
use mathlib.Core.Bool.{Bool, true, false, not, ◌||◌}
use mathlib.Core.List.{List}
use mathlib.Core.Logic.{◌⊎◌, inl, inr, ⊎_elim}
use mathlib.Core.Path.{◌≡◌, refl, sym, ap, ap₂, ◌∙◌}
use Prim.Native.Nat.{ℕ, ◌+◌, ◌/◌, ◌≤◌}
use native.Mathlib.Omega.{arith}
use borrow.Author.Tests.{eqb-true, eqb-false, not-false}
use lib.Dec.{eqb}
use lib.ListN.{take, replicate, length-take}
use lib.Seq.{get_or-take, get_or-drop}
use Rattle.action.specs.Openings.{fixed_fields, switch_fixed_fields}
use Rattle.answer.proofs.Booleans.{clash, either, neither}
use Rattle.answer.proofs.Judged.{passed, kept, followed}
use Rattle.answer.proofs.Placing.{nowhere_value}
use Rattle.answer.specs.Checks.{Outcome, pick, and_then}
use Rattle.answer.specs.Faults.{fault_at, Placed, nowhere, placed_past}
use Rattle.answer.specs.declared.Refusal.{Refusal}
use Rattle.beacon.specs.Beacons.{Told, fixed_length, beacon_means}
use Rattle.frame.specs.Actions.{Body, action_means}
use Rattle.frame.specs.Frames.{Kind, beacon, probe_response, action, kind_of, sent, frame_means}
use Rattle.header.proofs.Heard.{heard_as, has_header, not_too_long}
use Rattle.header.specs.Headers.{header_length, body_of, same, da, sa, bssid, version, type, flags, fragment, subtype, is_read, has_foreign_flag, subtype_of, foreign_header, to_all, foreign_address, management_means, address_means, header_means}
use Rattle.header.specs.declared.Head.{Head}
use Rattle.header.specs.declared.address.Cell.{Cell}
use Rattle.header.specs.declared.management.Subtype.{Subtype}
use Rattle.octets.specs.Numbers.{octet}
use Rattle.claims.specs.SoundBefore.{first_element, SoundBefore}
use Rattle.claims.proofs.BodiesBefore.{notice_before, fields_of, action_before}
use Rattle.octets.proofs.Parts.{after_cut}
use Rattle.claims.proofs.Cut.{from_kept, long_kept}
use Rattle.claims.proofs.ElementsBefore.{Accepts}
use Rattle.claims.proofs.RefusedAt.{refused_by, made_refused, not_nowhere, past_place}
use Rattle.claims.proofs.Same.{accepted_once}

-- ---- the header: all that is read of it stands in the first 24 octets

module _ (p : ℕ) (f : List ℕ) (h : header_length ≤ p) where
  same_header : foreign_header (take p f) ≡ foreign_header f
  unfolding foreign_header
  same_header =
      let first = get_or-take p f 0 0 (omega arith) in
      let flags = get_or-take p f 1 0 (omega arith) in
      let sequence = get_or-take p f 22 0 (omega arith) in
      rw (first, flags, sequence)

  same_to_all : to_all (take p f) ≡ to_all f
  unfolding to_all
  same_to_all = ap (λ (os : List ℕ). same os (replicate 6 255)) (from_kept p f 6 4 (omega arith))

  same_address : (own ap' : List ℕ) → foreign_address Cell.Ap own ap' (take p f) ≡ foreign_address Cell.Ap own ap' f
  unfolding foreign_address
  same_address own ap' =
      ap₂ (λ (from bss : List ℕ). not (same from ap') || (not (same bss ap') || not (same (da (take p f)) own || to_all (take p f))))
      (from_kept p f 6 10 (omega arith)) (from_kept p f 6 16 (omega arith))
      ∙ ap₂ (λ (to : List ℕ) (all : Bool). not (same (sa f) ap') || (not (same (bssid f) ap') || not (same to own || all))) (from_kept p f 6 4 (omega arith)) same_to_all

  same_subtype : subtype (take p f) ≡ subtype f
  same_subtype = ap (λ (o : ℕ). o / 16) (get_or-take p f 0 0 (omega arith))

-- what an accepted header says of the frame, and that it stands in the first octets
record Headed (own ap' : List ℕ) (f : List ℕ) (h : Head) : Type 0 where
  read : is_read (subtype f) ≡ true
  is : subtype_of (subtype f) ≡ h.subtype
  stays : (p : ℕ) → header_length ≤ p → header_means Cell.Ap own ap' (take p f) ≡ Ok h

is_read_lem : (f : List ℕ) → foreign_header f ≡ false → is_read (subtype f) ≡ true
unfolding foreign_header
is_read_lem f e =
    let rest = has_foreign_flag (flags f) || not (eqb (fragment f) 0) in
    let typed = (neither (not (eqb (version f) 0)) (not (eqb (type f) 0) || (not (is_read (subtype f)) || rest)) e).1 in
    not-false (is_read (subtype f)) (neither (not (is_read (subtype f))) rest (neither (not (eqb (type f) 0)) (not (is_read (subtype f)) || rest) typed).1).0

headed : (own ap' : List ℕ) (f : List ℕ) (h : Head) → header_means Cell.Ap own ap' f ≡ Ok h → Headed own ap' f h
unfolding header_means management_means address_means
headed own ap' f h e =
    let m = followed (management_means f) _ h e in
    let a = followed (address_means Cell.Ap own ap' f) _ h m.2 in
    let managed = passed _ _ _ (passed _ _ _ (passed _ _ _ m.1).1).1 in
    let addressed = passed _ _ _ a.1 in
    let is : subtype_of (subtype f) ≡ m.0 = kept _ managed.1 in
    let to : to_all f ≡ a.0 = kept _ addressed.1 in
    record {
      read = is_read_lem f managed.0;
      is = is ∙ ap (λ (x : Head). x.subtype) (accepted_once a.2);
      stays =
          λ p late.
          heard_as Cell.Ap own ap' (take p f) m.0 a.0
          (long_kept p f header_length late (has_header Cell.Ap own ap' f h e))
          (omega (arith, length-take p f, not_too_long Cell.Ap own ap' f h e))
          (same_header p f late ∙ managed.0)
          (same_address p f late own ap' ∙ addressed.0)
          (ap subtype_of (same_subtype p f late) ∙ is)
          (same_to_all p f late ∙ to)
          ∙ a.2;
    }

-- a frame that is read and is no action frame is a beacon or a probe response
notice_is : (n : ℕ) → is_read n ≡ true → eqb n 13 ≡ false → (subtype_of n ≡ Subtype.Beacon) ⊎ (subtype_of n ≡ Subtype.ProbeResponse)
notice_is n e other = by (eqb n 5) (eqb n 8) (eqb n 13) e other
  where
    by : (t u v : Bool) → (t || (u || v)) ≡ true → v ≡ false
        → (pick t Subtype.ProbeResponse (pick u Subtype.Beacon Subtype.Action) ≡ Subtype.Beacon)
        ⊎ (pick t Subtype.ProbeResponse (pick u Subtype.Beacon Subtype.Action) ≡ Subtype.ProbeResponse)
    by true u v g k = inr refl
    by false true v g k = inl refl
    by false false v g k = clash (sym g ∙ k)

-- ---- the frame

module _ (own ap' : List ℕ) (b : ℕ) (f : List ℕ) (p : ℕ) (h : Head) (head : header_means Cell.Ap own ap' f ≡ Ok h) (q : ℕ) (place : p ≡ header_length + q) where
  -- the first octets mean what the first octets of the body do
  cut_means : frame_means own ap' b (take p f) ≡ sent h.to_all (placed_past header_length (kind_of b h.subtype (take q (body_of f))))
  unfolding frame_means
  cut_means =
      ap (λ (o : Outcome Head). and_then (nowhere o) (λ x. sent x.to_all (placed_past header_length (kind_of b x.subtype (body_of (take p f))))))
      ((headed own ap' f h head).stays p (omega (arith, place)))
      ∙ ap (λ (os : List ℕ). sent h.to_all (placed_past header_length (kind_of b h.subtype os)))
      (ap (λ (n : ℕ). body_of (take n f)) place ∙ after_cut header_length q f (has_header Cell.Ap own ap' f h head))

  cut_accepted : Accepts (kind_of b h.subtype (take q (body_of f))) → Accepts (frame_means own ap' b (take p f))
  cut_accepted (k, e) = (_, cut_means ∙ ap (λ (o : Placed Kind). sent h.to_all (placed_past header_length o)) e)

  cut_refused : (r : Refusal) → kind_of b h.subtype (take q (body_of f)) ≡ Err (fault_at q r) → frame_means own ap' b (take p f) ≡ Err (fault_at p r)
  cut_refused r e =
      cut_means ∙ ap (λ (o : Placed Kind). sent h.to_all (placed_past header_length o)) e ∙ ap (λ (n : ℕ). Err (fault_at n r)) (sym place)

  module _ (r : Refusal) (e : kind_of b h.subtype (body_of f) ≡ Err (fault_at q r)) (late : first_element f ≤ p) where
    of_kind_lem : (s : Subtype) → h.subtype ≡ s → (os : List ℕ) → kind_of b h.subtype os ≡ kind_of b s os
    of_kind_lem s is os = ap (λ (x : Subtype). kind_of b x os) is

    -- a beacon or a probe response
    of_notice : (make : Told → Kind) (s : Subtype) → ((os : List ℕ) → kind_of b s os ≡ and_then (beacon_means b os) (λ t. Ok (make t)))
        → h.subtype ≡ s → fixed_length ≤ q → Accepts (kind_of b h.subtype (take q (body_of f)))
    of_notice make s means is after =
        let body = body_of f in
        let x = notice_before b body q r after (made_refused (beacon_means b body) make (sym (of_kind_lem s is body ∙ means body) ∙ e)) in
        (make x.0, of_kind_lem s is (take q body) ∙ means (take q body) ∙ ap (λ (o : Placed Told). and_then o (λ t. Ok (make t))) x.1)

    notice_sound : eqb (subtype f) 13 ≡ false → SoundBefore own ap' b f p
    notice_sound other =
        let k = headed own ap' f h head in
        let starts : first_element f ≡ header_length + fixed_length = simp other in
        let after : fixed_length ≤ q = omega (arith, late, starts, place) in
        let accepts = cut_accepted (by k.is after (notice_is (subtype f) k.read other)) in
        record { first_absent = λ is g. absurd (eqb-false (subtype f) 13 other is); notice_accepted = λ g. accepts; later_accepted = λ g. accepts }
      where
        by : subtype_of (subtype f) ≡ h.subtype → fixed_length ≤ q → (subtype_of (subtype f) ≡ Subtype.Beacon) ⊎ (subtype_of (subtype f) ≡ Subtype.ProbeResponse)
            → Accepts (kind_of b h.subtype (take q (body_of f)))
        by is after (inl g) = of_notice beacon Subtype.Beacon (λ os. refl) (sym is ∙ g) after
        by is after (inr g) = of_notice probe_response Subtype.ProbeResponse (λ os. refl) (sym is ∙ g) after

    -- an action frame
    action_sound : eqb (subtype f) 13 ≡ true → SoundBefore own ap' b f p
    action_sound own-kind =
        let body = body_of f in
        let is : h.subtype ≡ Subtype.Action = sym (headed own ap' f h head).is ∙ ap subtype_of (eqb-true (subtype f) 13 own-kind) in
        let starts : first_element f ≡ header_length + fields_of body =
        ap (λ (t : Bool). pick t (pick (eqb (octet 25 f) 4) 26 27) 36) own-kind ∙ behind (eqb (octet 25 f) 4)
        ∙ ap (λ (o : ℕ). header_length + pick (eqb o 4) switch_fixed_fields fixed_fields) (sym (get_or-drop header_length f 1 0)) in
        let x = action_before body q r (omega (arith, late, starts, place)) (made_refused (action_means body) action (sym (of_kind_lem Subtype.Action is body) ∙ e)) in
        let cut : kind_of b h.subtype (take q body) ≡ and_then (action_means (take q body)) (λ a. Ok (action a)) = of_kind_lem Subtype.Action is (take q body) in
        record {
          first_absent =
              λ k g.
              cut_refused Refusal.ElementAbsent
              (cut ∙ ap (λ (o : Placed Body). and_then o (λ a. Ok (action a))) (x.absent (omega (arith, g, starts, place))));
          notice_accepted = λ g. clash (sym own-kind ∙ g);
          later_accepted =
              λ g.
              let y = x.later (omega (arith, g, starts, place)) in
              cut_accepted (action y.0, cut ∙ ap (λ (o : Placed Body). and_then o (λ a. Ok (action a))) y.1);
        }
      where
        behind : (t : Bool) → pick t 26 27 ≡ header_length + pick t switch_fixed_fields fixed_fields
        behind true = refl
        behind false = refl

    sound : SoundBefore own ap' b f p
    sound = ⊎_elim action_sound notice_sound (either (eqb (subtype f) 13))

-- whatever the refusal: one of the fields before the elements is at a place before the first
pub sound_before : (own ap' : List ℕ) (b : ℕ) (f : List ℕ) (p : ℕ) (r : Refusal) → frame_means own ap' b f ≡ Err (fault_at p r) → first_element f ≤ p
    → SoundBefore own ap' b f p
unfolding frame_means
sound_before own ap' b f p r e late =
    refused_by (nowhere (header_means Cell.Ap own ap' f)) _ e
    (λ g. absurd (not_nowhere p r (header_means Cell.Ap own ap' f) g))
    (λ h g k.
    let x = past_place p r header_length (kind_of b h.subtype (body_of f)) (made_refused (placed_past header_length (kind_of b h.subtype (body_of f))) _ k) in
    sound own ap' b f p h (nowhere_value (header_means Cell.Ap own ap' f) g) x.own x.place r x.refuses late)
