-- How the octets of a Measurement Request lie in the sixteen that are built. Assumes nothing.
use mathlib.Core.Path.{◌≡◌, refl}
use mathlib.Core.List.{◌∷◌}
use Prim.Native.Nat.{ℕ, ◌+◌, ◌≤◌}
use native.Mathlib.Omega.{arith}
use lib.ListN.{length, take}
use Rattle.measurement_element.specs.Span.{span_octets}
use Rattle.measurement_element.specs.CodeTerms.Built.{request_span}
use Rattle.measurement_element.specs.MeasurementRequest.{request_mode, request_octets, request_size}
use Rattle.measurement_element.specs.declared.measurement_request.Matter.{Matter}
use Rattle.measurement_element.specs.declared.measurement_request.Request.{Request}

abbrev pub made : ℕ → ℕ → Matter → Request
made t k m = record { token = t; kind = k; matter = m }

pub counted : (m : Matter) (t k : ℕ) → length (request_octets (made t k m)) ≡ 2 + request_size m
unfolding request_octets
counted (Matter.Enable q p) t k = refl
counted (Matter.Measure s) t k = refl
counted Matter.Uninterpreted t k = refl

pub laid_out : (m : Matter) (t k : ℕ)
    → take (length (request_octets (made t k m))) (38 ∷ request_size m ∷ t ∷ request_mode m ∷ k ∷ span_octets (request_span m)) ≡ request_octets (made t k m)
unfolding request_octets
laid_out (Matter.Enable q p) t k = refl
laid_out (Matter.Measure s) t k = refl
laid_out Matter.Uninterpreted t k = refl

pub within : (m : Matter) → request_size m ≤ 14
within (Matter.Enable q p) = omega arith
within (Matter.Measure s) = omega arith
within Matter.Uninterpreted = omega arith
