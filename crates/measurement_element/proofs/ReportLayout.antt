-- How the octets of a Measurement Report lie in the twenty-four that are built. Assumes nothing.
use mathlib.Core.Path.{◌≡◌, refl, ap, ap₂, subst, ◌∙◌}
use mathlib.Core.List.{List, [], ◌∷◌, ◌++◌}
use Prim.Native.Nat.{ℕ, ◌+◌, ◌≤◌}
use native.Mathlib.Omega.{arith}
use lib.ListN.{length, take}
use Rattle.octets.specs.Numbers.{octet, octets_from}
use Rattle.octets.proofs.JoinSplit.{all_from}
use Rattle.measurement_element.specs.CodeTerms.Built.{report_span, report_last, report_built}
use Rattle.measurement_element.specs.Found.{found_size}
use Rattle.measurement_element.specs.MeasurementReport.{report_mode, report_octets, report_size}
use Rattle.measurement_element.specs.Span.{span_octets}
use Rattle.measurement_element.specs.declared.found.Found.{Found}
use Rattle.measurement_element.specs.declared.measurement_report.Matter.{Matter}
use Rattle.measurement_element.specs.declared.measurement_report.Report.{Report}
use Rattle.measurement_element.specs.declared.span.Span.{Span}

abbrev pub made : ℕ → ℕ → List ℕ → Matter → Report
made t k ds m = record { token = t; kind = k; matter = m; densities = ds }

found_within : (f : Found) → (3 ≤ found_size f) × (found_size f ≤ 22)
found_within (Found.Map m) = omega arith
found_within (Found.Busy x) = omega arith
found_within Found.Densities = omega arith

pub within : (m : Matter) → (3 ≤ report_size m) × (report_size m ≤ 22)
within (Matter.NotMeasured r) = omega arith
within (Matter.Measured s f) = found_within f
within Matter.Uninterpreted = omega arith

module _ (t k : ℕ) (ds : List ℕ) (eight : length ds ≡ 8) where
  pub counted : (m : Matter) → length (report_octets (made t k ds m)) ≡ 2 + report_size m
  unfolding report_octets
  counted (Matter.NotMeasured r) = refl
  counted (Matter.Measured s (Found.Map m)) = refl
  counted (Matter.Measured s (Found.Busy x)) = refl
  counted (Matter.Measured s Found.Densities) = rw eight
  counted Matter.Uninterpreted = refl

  -- all that is built; a histogram's octets fill it, and those of any other report lie in front
  abbrev built : Matter → List ℕ
  built m =
      39 ∷ report_size m ∷ t ∷ report_mode m ∷ k ∷ span_octets (report_span m) ++ (report_last m (octet 0 ds) ∷ octets_from 7 1 ds)

  pub laid_out : (m : Matter) → take (length (report_octets (made t k ds m))) (built m) ≡ report_octets (made t k ds m)
  unfolding report_octets
  laid_out (Matter.NotMeasured r) = refl
  laid_out (Matter.Measured s (Found.Map m)) = refl
  laid_out (Matter.Measured s (Found.Busy x)) = refl
  laid_out (Matter.Measured s Found.Densities) =
      let histogram = Matter.Measured s Found.Densities in
      subst (λ (d : List ℕ). take (length (report_octets (made t k d histogram))) (built histogram) ≡ report_octets (made t k d histogram)) (all_from 8 ds eight) refl
  laid_out Matter.Uninterpreted = refl

-- the octets as the code builds them, from the parts that it has
pub built_of : (token kind : ℕ) (m : Matter) (ds : List ℕ) {size mode last : ℕ} {s : List ℕ} {sp : Span}
    → size ≡ report_size m → mode ≡ report_mode m → sp ≡ report_span m → s ≡ span_octets sp → last ≡ report_last m (octet 0 ds)
    → (39 ∷ size ∷ token ∷ mode ∷ kind ∷ []) ++ octets_from 11 0 s ++ (last ∷ octets_from 7 1 ds) ≡ report_built (made token kind ds m)
built_of token kind m ds {size} {mode} {last} {s} {sp} a b c d e =
    ap₂ (λ (x y : ℕ). (39 ∷ x ∷ token ∷ y ∷ kind ∷ []) ++ octets_from 11 0 s ++ (last ∷ octets_from 7 1 ds)) a b
    ∙ ap₂ (λ (x : List ℕ) (y : ℕ). (39 ∷ report_size m ∷ token ∷ report_mode m ∷ kind ∷ []) ++ x ++ (y ∷ octets_from 7 1 ds))
    (ap (octets_from 11 0) (d ∙ ap span_octets c)) e
