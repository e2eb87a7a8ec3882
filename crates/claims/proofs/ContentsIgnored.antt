-- Contents of elements 38 and 39 that differ in reserved bits alone are read the same (01, "Octets": "Reserved bits are ignored when read"). Assumes
-- nothing.
use mathlib.Core.Bool.{Bool, true, false, ◌&&◌}
use mathlib.Core.List.{List, [], ◌∷◌}
use mathlib.Core.Path.{◌≡◌, refl, sym, ap, ap₂, subst, ◌∙◌}
use Prim.Native.Nat.{ℕ, zero, suc, ◌+◌, ◌/◌, ◌%◌, ◌≤◌, ◌<◌}
use native.Mathlib.Omega.{arith}
use borrow.Author.Tests.{ne_eqb, eqb-true, eqb-false, le-leb, not-true}
use lib.Dec.{ltb, leb, eqb}
use lib.ListN.{length}
use Rattle.answer.proofs.Booleans.{both, neither}
use Rattle.answer.specs.Checks.{Outcome, pick, ◌⇒◌, judged}
use Rattle.answer.specs.declared.Refusal.{Refusal}
use Rattle.measurement_element.specs.Found.{found_by}
use Rattle.measurement_element.specs.MeasurementReport.{report_flags, no_densities, is_histogram, report_in, report_misfits, report_forbids, report_means}
use Rattle.measurement_element.specs.MeasurementRequest.{request_matter_in, request_misfits, request_forbids, request_means}
use Rattle.measurement_element.specs.Span.{span_in}
use Rattle.measurement_element.specs.declared.found.Found.{Found}
use Rattle.measurement_element.specs.declared.measurement_report.Reason.{Reason}
use Rattle.measurement_element.specs.declared.measurement_report.Report.{Report}
use Rattle.measurement_element.specs.declared.measurement_request.Matter as Asked
use Rattle.measurement_element.specs.declared.measurement_report.Matter as Reported
use Rattle.measurement_element.specs.declared.measurement_request.Request.{Request}
use Rattle.measurement_element.specs.declared.span.Span.{Span}
use Rattle.octets.specs.Numbers.{octet, octets_from, join, bit}
use Rattle.claims.specs.Reserved.{AlikeBut, request_reserved, has_map, report_reserved}
use Rattle.claims.proofs.SameBits.{same_number, same_bit, lowest, low_bits}

-- ---- octets that are the same

-- an octet none of whose bits is ignored
pub same_octet : {ignored : ℕ → ℕ → Bool} {c d : List ℕ} → AlikeBut ignored c d → (i : ℕ) → ((k : ℕ) → ignored i k ≡ false) → octet i c ≡ octet i d
same_octet {ignored} {c} {d} a i h = same_number (octet i c) (octet i d) (λ k. a.same_bits i k (h k))

-- several octets from a place on
pub same_from : (c d : List ℕ) (n i : ℕ) → ((j : ℕ) → i ≤ j → j < i + n → octet j c ≡ octet j d) → octets_from n i c ≡ octets_from n i d
same_from c d zero i e = refl
same_from c d (suc n) i e =
    ap₂ ◌∷◌ (e i (omega arith) (omega arith)) (same_from c d n (i + 1) (λ j h k. e j (omega arith) (omega arith)))

abbrev span_of : ℕ → List ℕ → List ℕ → Span
span_of channel start duration = record { channel = channel; start = join start; duration = join duration }

-- where and when, which stands in octets 3 to 13
same_span : (c d : List ℕ) → ((i : ℕ) → 3 ≤ i → i ≤ 13 → octet i c ≡ octet i d) → span_in c ≡ span_in d
same_span c d e =
    ap (λ (n : ℕ). span_of n (octets_from 8 4 c) (octets_from 2 12 c)) (e 3 (omega arith) (omega arith))
    ∙ ap₂ (span_of (octet 3 d)) (same_from c d 8 4 (λ j h k. e j (omega arith) (omega arith))) (same_from c d 2 12 (λ j h k. e j (omega arith) (omega arith)))

-- ---- 38

abbrev asked : ℕ → ℕ → Asked.Matter → Request
asked token kind matter = record { token = token; kind = kind; matter = matter }

-- what is read of a request goes by its length and its record alone
abbrev request_by : ℕ → Request → Outcome Request
request_by n r =
    judged
    (ltb n 3 ⇒ Refusal.WrongLength ∷ request_misfits r.matter n ⇒ Refusal.WrongLength ∷ request_forbids r ⇒ Refusal.ForbiddenValue ∷ [])
    r

module _ (c d : List ℕ) (a : AlikeBut (request_reserved c) c d) where
  -- all but the mode
  other : (i : ℕ) → (i ≡ 1 → ⊥) → octet i c ≡ octet i d
  other i h = same_octet a i (λ k. simp (ne_eqb i 1 h))

  same_matter : request_matter_in (octet 1 c) (octet 2 c) c ≡ request_matter_in (octet 1 d) (octet 2 d) d
  same_matter =
      by (bit 1 (octet 1 c)) (leb (octet 2 c) 2) refl refl
      ∙ ap₂ (λ (u v : Bool). matter u v (octet 1 d) d) (a.same_bits 1 1 refl) (ap (λ (n : ℕ). leb n 2) (other 2 (omega arith)))
    where
      matter : Bool → Bool → ℕ → List ℕ → Asked.Matter
      matter u v mode e = pick u (Asked.Matter.Enable (v && bit 2 mode) (v && bit 3 mode)) (pick v (Asked.Matter.Measure (span_in e)) Asked.Matter.Uninterpreted)

      by : (u v : Bool) → bit 1 (octet 1 c) ≡ u → leb (octet 2 c) 2 ≡ v → matter u v (octet 1 c) c ≡ matter u v (octet 1 d) d
      by true true on valid = ap₂ Asked.Matter.Enable (a.same_bits 1 2 (simp (on, valid))) (a.same_bits 1 3 (simp (on, valid)))
      by true false on reserved = refl
      by false true off valid = ap Asked.Matter.Measure (same_span c d (λ i h k. other i (omega arith)))
      by false false off reserved = refl

  pub request_ignored : request_means c ≡ request_means d
  unfolding request_means
  request_ignored =
      ap₂ request_by a.as_long
      (ap₂ (λ (token kind : ℕ). asked token kind (request_matter_in (octet 1 c) (octet 2 c) c)) (other 0 (omega arith)) (other 2 (omega arith))
      ∙ ap (asked (octet 0 d) (octet 2 d)) same_matter)

-- ---- 39

abbrev reported : ℕ → ℕ → Reported.Matter → List ℕ → Report
reported token kind matter densities = record { token = token; kind = kind; matter = matter; densities = densities }

-- what is read of a report goes by its length, its mode bits and its record alone
abbrev report_by : ℕ → ℕ → Report → Outcome Report
report_by n flags r =
    judged
    (ltb n 3 ⇒ Refusal.WrongLength
    ∷ ltb 1 flags ⇒ Refusal.ForbiddenValue
    ∷ report_misfits r.matter n ⇒ Refusal.WrongLength
    ∷ report_forbids r.matter ⇒ Refusal.ForbiddenValue
    ∷ [])
    r

-- what it reports, by its mode bits, its type, its span and the octet after that
abbrev matter_by : Bool → Bool → Bool → ℕ → Span → ℕ → Reported.Matter
matter_by late incapable refused kind span o =
    pick late (Reported.Matter.NotMeasured Reason.Late)
    (pick incapable (Reported.Matter.NotMeasured Reason.Incapable)
    (pick refused (Reported.Matter.NotMeasured Reason.Refused)
    (pick (ltb 2 kind) Reported.Matter.Uninterpreted (Reported.Matter.Measured span (found_by kind o)))))

same_matter_by : {u v w x y z : Bool} {k l : ℕ} {s t : Span} {o p : ℕ} → u ≡ x → v ≡ y → w ≡ z → k ≡ l → s ≡ t → o ≡ p
    → matter_by u v w k s o ≡ matter_by x y z l t p
same_matter_by a b c d e f = rw (a, b, c, d, e, f)

-- a report with a map
abbrev basic : ℕ → Span → ℕ → Report
basic token span m = reported token 0 (Reported.Matter.Measured span (Found.Map m)) no_densities

mapped : (c : List ℕ) → octet 2 c ≡ 0 → bit 0 (octet 1 c) ≡ false → bit 1 (octet 1 c) ≡ false → bit 2 (octet 1 c) ≡ false
    → report_in c ≡ basic (octet 0 c) (span_in c) (octet 14 c % 32)
mapped c kind late incapable refused = simp (late, incapable, refused, kind)

module _ (c d : List ℕ) (a : AlikeBut (report_reserved c) c d) where
  -- all but the mode and the map
  untouched : (i : ℕ) → (i ≡ 1 → ⊥) → (i ≡ 14 → ⊥) → octet i c ≡ octet i d
  untouched i h j = same_octet a i (λ k. simp (ne_eqb i 1 h, ne_eqb i 14 j))

  mode_bit : (k : ℕ) → leb k 2 ≡ true → bit k (octet 1 c) ≡ bit k (octet 1 d)
  mode_bit k h = a.same_bits 1 k (simp h)

  same_flags : report_flags (octet 1 c) ≡ report_flags (octet 1 d)
  same_flags =
      let e = lowest (octet 1 c) (octet 1 d) (mode_bit 0 refl) in
      let f = same_bit (octet 1 c / 2) (octet 1 d / 2) (mode_bit 1 refl) in
      let g = same_bit (octet 1 c / 4) (octet 1 d / 4) (mode_bit 2 refl) in
      rw (e, f, g)

  -- a basic report with no mode bit: of the map bits 0 to 4 are read
  module _ (map : has_map c ≡ true) where
    map_bit : (k : ℕ) → leb k 4 ≡ true → bit k (octet 14 c) ≡ bit k (octet 14 d)
    map_bit k h = a.same_bits 14 k (simp (map, h))

    same_map : octet 14 c % 32 ≡ octet 14 d % 32
    same_map = low_bits 5 (octet 14 c) (octet 14 d) (λ k h. map_bit k (le-leb k 4 (omega arith)))

    with_map : report_in c ≡ report_in d
    with_map =
        let p = both (eqb (octet 2 c) 0) _ map in
        let q = neither (bit 0 (octet 1 c)) _ (not-true _ p.1) in
        let r = neither (bit 1 (octet 1 c)) _ q.1 in
        let k = eqb-true (octet 2 c) 0 p.0 in
        let span = same_span c d (λ i h j. untouched i (omega arith) (omega arith)) in
        mapped c k q.0 r.0 r.1
        ∙ ap (λ (n : ℕ). basic n (span_in c) (octet 14 c % 32)) (untouched 0 (omega arith) (omega arith))
        ∙ ap₂ (basic (octet 0 d)) span same_map
        ∙ sym (mapped d (sym (untouched 2 (omega arith) (omega arith)) ∙ k) (sym (mode_bit 0 refl) ∙ q.0) (sym (mode_bit 1 refl) ∙ r.0) (sym (mode_bit 2 refl) ∙ r.1))

  -- any other
  module _ (none : has_map c ≡ false) where
    all_but_mode : (i : ℕ) → (i ≡ 1 → ⊥) → octet i c ≡ octet i d
    all_but_mode i h = by (eqb i 14) refl
      where
        by : (t : Bool) → eqb i 14 ≡ t → octet i c ≡ octet i d
        by true e = subst (λ (n : ℕ). octet n c ≡ octet n d) (sym (eqb-true i 14 e)) (same_octet a 14 (λ k. simp none))
        by false e = untouched i h (eqb-false i 14 e)

    without_map : report_in c ≡ report_in d
    without_map =
        let kind = all_but_mode 2 (omega arith) in
        let span = same_span c d (λ i h j. all_but_mode i (omega arith)) in
        let matter = same_matter_by (mode_bit 0 refl) (mode_bit 1 refl) (mode_bit 2 refl) kind span (all_but_mode 14 (omega arith)) in
        let densities = same_from c d 8 14 (λ i h j. all_but_mode i (omega arith)) in
        ap₂ (λ (t k : ℕ). reported t k (report_in c).matter (report_in c).densities) (all_but_mode 0 (omega arith)) kind
        ∙ ap₂ (λ (m : Reported.Matter) (l : List ℕ). reported (octet 0 d) (octet 2 d) m (pick (is_histogram m) l no_densities)) matter densities

  pub report_ignored : report_means c ≡ report_means d
  unfolding report_means
  report_ignored = ap₂ (report_by (length c)) same_flags (by (has_map c) refl) ∙ ap (λ (n : ℕ). report_by n (report_flags (octet 1 d)) (report_in d)) a.as_long
    where
      by : (t : Bool) → has_map c ≡ t → report_in c ≡ report_in d
      by true e = with_map e
      by false e = without_map e
