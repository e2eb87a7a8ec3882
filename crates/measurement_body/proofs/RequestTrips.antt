-- What demand 2 for a list asks of one Measurement Request. Assumes nothing.
use mathlib.Core.Path.{◌≡◌, refl, sym}
use mathlib.Core.Bool.{Bool, true, false, not}
use Prim.Native.Nat.{ℕ}
use lib.Dec.{leb}
use Rattle.answer.proofs.Booleans.{both, clash}
use Rattle.answer.specs.Checks.{pick}
use Rattle.measurement_element.specs.MeasurementRequest.{request_forbids, request_matter_interpreted, request_agrees, request_contents, request_may, request_clear, request_octets, RequestFits}
use Rattle.measurement_element.specs.declared.measurement_request.Matter.{Matter}
use Rattle.measurement_element.specs.declared.measurement_request.Request.{Request}
use Rattle.measurement_element.proofs.RequestLayout.{made}
use Rattle.measurement_element.proofs.RequestTrip.{request_trip}
use Rattle.measurement_body.specs.Requests.{request_sort}
use Rattle.measurement_body.proofs.ListTrip.{Trip}

agreed : (m : Matter) (k : ℕ) → request_agrees m k ≡ true → request_matter_interpreted m ≡ true
agreed (Matter.Enable q p) k h = refl
agreed (Matter.Measure s) k h = refl
agreed Matter.Uninterpreted k h = h

agreeing : (r : Request) → request_may r ≡ true → request_agrees r.matter r.kind ≡ true
unfolding request_may
agreeing r h = (both (not (request_forbids r)) (request_agrees r.matter r.kind) h).1

known : (r : Request) → request_may r ≡ true → request_matter_interpreted r.matter ≡ true
known r h = agreed r.matter r.kind (agreeing r h)

-- every reserved bit is written as 0
clean : (m : Matter) (t k : ℕ) (u : Bool) → leb k 2 ≡ u → request_agrees m k ≡ true → request_clear (request_contents (made t k m)) ≡ true
clean (Matter.Enable true true) t k true h w = rw h
clean (Matter.Enable true false) t k true h w = rw h
clean (Matter.Enable false true) t k true h w = rw h
clean (Matter.Enable false false) t k u h w = both_ways (leb k 2)
  where
    both_ways : (b : Bool) → pick b true true ≡ true
    both_ways true = refl
    both_ways false = refl
clean (Matter.Enable true p) t k false h w = clash (sym (simp h at w))
clean (Matter.Enable false true) t k false h w = clash (sym (simp h at w))
clean (Matter.Measure s) t k u h w = refl
clean Matter.Uninterpreted t k u h w = refl

pub requests_trip : Trip request_sort RequestFits
unfolding request_octets
requests_trip =
    record {
      contents = request_contents;
      trip = request_trip;
      laid = λ r. refl;
      own = refl;
      known = known;
      clean = λ r h. clean r.matter r.token r.kind (leb r.kind 2) refl (agreeing r h);
    }
