-- The station as which a frame is read, and whom an accepted frame was sent to. Assumes nothing.
use Rattle.std.specs.Prelude.{Ok, Some, None, Option, position}
use mathlib.Core.Bool.{Bool, true, false, not, ◌||◌}
use mathlib.Core.List.{List, [], ◌∷◌}
use mathlib.Core.Logic.{⊎_elim}
use mathlib.Core.Path.{◌≡◌, refl, sym, ap, ◌∙◌}
use Prim.Native.Nat.{ℕ}
use borrow.Author.Tests.{not-false}
use lib.ListN.{replicate}
use Rattle.answer.proofs.Booleans.{clash, either, neither}
use Rattle.answer.proofs.Judged.{passed, kept, followed}
use Rattle.answer.proofs.Placing.{nowhere_value}
use Rattle.answer.specs.Checks.{Outcome, pick, ◌⇒◌, judged, and_then}
use Rattle.answer.specs.Faults.{nowhere, placed_past}
use Rattle.answer.specs.declared.Refusal.{Refusal}
use Rattle.frame.specs.Frames.{Sent, kind_of, sent, frame_means}
use Rattle.header.proofs.Addresses.{same_is}
use Rattle.header.specs.Headers.{header_length, body_of, same, da, bssid, to_all, foreign_sender, foreign_address, management_means, address_means, header_means}
use Rattle.header.specs.declared.Head.{Head}
use Rattle.header.specs.declared.address.Cell.{Cell}
use Rattle.octets.specs.Numbers.{bit, octet}
use Rattle.row.specs.Rows.{is_of}
use Rattle.table.specs.CodeTerms.Hearing.{reader_at}
use Rattle.table.specs.Tables.{is_joined, reader_of}
use Rattle.table.specs.declared.Table.{Table}
use Rattle.table.proofs.FirstRow.{found_at, none_such}

-- ---- who reads

module _ (t : Table) (f : List ℕ) where
  pub reader_joined : is_joined t (da f) ≡ true → reader_of t f ≡ da f
  unfolding reader_of
  reader_joined e = ap (λ (b : Bool). pick b (da f) (replicate 6 255)) e

  pub reader_else : is_joined t (da f) ≡ false → reader_of t f ≡ replicate 6 255
  unfolding reader_of
  reader_else e = ap (λ (b : Bool). pick b (da f) (replicate 6 255)) e

  pub reader_placed : (q : Option ℕ) → position (is_of (da f)) t.rows ≡ q → reader_at q (da f) ≡ reader_of t f
  reader_placed (Some i) e = sym (reader_joined (found_at (is_of (da f)) t.rows i e).there)
  reader_placed None e = sym (reader_else (none_such (is_of (da f)) t.rows e).0)

-- ---- an accepted frame

module _ (own ap' : List ℕ) (b : ℕ) (f : List ℕ) (x : Sent) (e : frame_means own ap' b f ≡ Ok x) where
  its_head : (h : Head) × (header_means Cell.Ap own ap' f ≡ Ok h) × (h.to_all ≡ x.to_all)
  unfolding frame_means
  its_head =
      let p = followed (nowhere (header_means Cell.Ap own ap' f)) _ x e in
      let q = followed (placed_past header_length (kind_of b p.0.subtype (body_of f))) _ x p.2 in
      let same : p.0.to_all ≡ x.to_all = cc q.2 in
      (p.0, nowhere_value (header_means Cell.Ap own ap' f) p.1, same)

  its_address : (foreign_address Cell.Ap own ap' f ≡ false) × (to_all f ≡ x.to_all)
  unfolding header_means address_means
  its_address =
      let h = its_head in
      let m = followed (management_means f) _ h.0 h.1 in
      let a = followed (address_means Cell.Ap own ap' f) _ h.0 m.2 in
      let p = passed _ _ _ a.1 in
      let same : a.0 ≡ h.0.to_all = cc a.2 in
      (p.0, kept (to_all f) p.1 ∙ same ∙ h.2)

  pub sent_to_all : to_all f ≡ x.to_all
  sent_to_all = its_address.1

  -- it was sent to this station or to all ones
  pub reached : (same (da f) own || to_all f) ≡ true
  unfolding foreign_address
  reached =
      not-false (same (da f) own || to_all f)
      (neither (not (same (bssid f) ap')) (not (same (da f) own || to_all f)) (neither (foreign_sender Cell.Ap ap' f) _ its_address.0).1).1

-- one that only frames to all ones reach
pub to_all_ones : (ap' : List ℕ) (b : ℕ) (f : List ℕ) (x : Sent) → frame_means (replicate 6 255) ap' b f ≡ Ok x → x.to_all ≡ true
unfolding to_all
to_all_ones ap' b f x e = sym (sent_to_all (replicate 6 255) ap' b f x e) ∙ once (to_all f) (reached (replicate 6 255) ap' b f x e)
  where
    once : (t : Bool) → (t || t) ≡ true → t ≡ true
    once true y = refl
    once false y = y

-- all ones is no individual address
pub single_alone : (f own : List ℕ) → same (da f) own ≡ true → bit 0 (octet 0 own) ≡ false → to_all f ≡ false
unfolding to_all
single_alone f own is single =
    ⊎_elim
    (λ (y : to_all f ≡ true).
    clash (ap (λ (a : List ℕ). bit 0 (octet 0 a)) (sym (same_is (da f) (replicate 6 255) y) ∙ same_is (da f) own is) ∙ single))
    (λ (n : to_all f ≡ false). n)
    (either (to_all f))

-- ---- stations that a frame reaches alike read it alike

module _ (ap' : List ℕ) (f : List ℕ) where
  abbrev head_by : Bool → Outcome Head
  head_by reach =
      and_then (management_means f)
      (λ s. and_then {A = Bool} (judged ((foreign_sender Cell.Ap ap' f || (not (same (bssid f) ap') || not reach)) ⇒ Refusal.ForeignAddress ∷ []) (to_all f))
      (λ a. Ok (record { subtype = s; to_all = a })))

  by_reach : (own : List ℕ) → header_means Cell.Ap own ap' f ≡ head_by (same (da f) own || to_all f)
  unfolding header_means address_means foreign_address
  by_reach own = refl

  pub head_alike : (own own' : List ℕ) → (same (da f) own || to_all f) ≡ (same (da f) own' || to_all f)
      → header_means Cell.Ap own ap' f ≡ header_means Cell.Ap own' ap' f
  head_alike own own' e = by_reach own ∙ ap head_by e ∙ sym (by_reach own')

  pub read_alike : (b : ℕ) (own own' : List ℕ) → (same (da f) own || to_all f) ≡ (same (da f) own' || to_all f)
      → frame_means own ap' b f ≡ frame_means own' ap' b f
  unfolding frame_means
  read_alike b own own' e =
      ap (λ (o : Outcome Head). and_then (nowhere o) (λ h. sent h.to_all (placed_past header_length (kind_of b h.subtype (body_of f))))) (head_alike own own' e)
