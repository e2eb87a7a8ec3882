-- Demand 2 for lists of Measurement Requests and of Measurement Reports, and for their bodies. Assumes nothing.
use Rattle.std.specs.Prelude.{Ok}
use mathlib.Core.Path.{◌≡◌}
use mathlib.Core.Bool.{true}
use mathlib.Core.List.{List, ◌++◌}
use Prim.Native.Nat.{ℕ, ◌≤◌}
use lib.ListN.{length}
use Rattle.measurement_element.specs.MeasurementReport.{ReportFits}
use Rattle.measurement_element.specs.MeasurementRequest.{RequestFits}
use Rattle.octets.specs.Elements.{RoundTrip}
use Rattle.octets.specs.Numbers.{Octets}
use Rattle.octets.specs.Writing.{filled}
use Rattle.walk.specs.Handed.{handed_in}
use Rattle.measurement_body.specs.Bodies.{longest_body, opening, body_octets, may_open}
use Rattle.measurement_body.specs.Calls.{appends}
use Rattle.measurement_body.specs.Kinds.{Measurement, sort_of}
use Rattle.measurement_body.specs.Lists.{AllFit, measurements_in, all_clear, all_interpreted, all_octets, may_list}
use Rattle.measurement_body.specs.declared.kinds.Kind.{Kind}
use Rattle.measurement_body.proofs.AppendAll.{append_all, append_back}
use Rattle.measurement_body.proofs.ListTrip.{Trip, list_trip}
use Rattle.measurement_body.proofs.ReportTrips.{reports_trip}
use Rattle.measurement_body.proofs.RequestTrips.{requests_trip}

-- a record's fields fit their types
abbrev pub MeasurementFits : (k : Kind) → Measurement k → Type 0
MeasurementFits Kind.Requests = RequestFits
MeasurementFits Kind.Reports = ReportFits

one : (k : Kind) → Trip (sort_of k) (MeasurementFits k)
one Kind.Requests = requests_trip
one Kind.Reports = reports_trip

module _ (k : Kind) where
  -- what may be written reads back the same, and what was read, with nothing uninterpreted and no reserved bit set, is written back
  pub measurements_trip : RoundTrip (measurements_in (sort_of k)) (all_octets (sort_of k)) (may_list (sort_of k)) (AllFit (MeasurementFits k)) (all_interpreted (sort_of k)) (λ run. all_clear (sort_of k) (handed_in run))
  measurements_trip = list_trip (sort_of k) (MeasurementFits k) (one k)

  -- by one call of `append` for each, in a body with a token that it may have
  module _ (token : ℕ) (allowed : may_open (sort_of k) token ≡ true) (buffer : List ℕ) where
    pub measurements_append_all : (xs : List (Measurement k)) → AllFit (MeasurementFits k) xs → may_list (sort_of k) xs ≡ true
        → length (body_octets (sort_of k) token xs) ≤ longest_body → length (body_octets (sort_of k) token xs) ≤ length buffer
        → appends (sort_of k) token xs 0 buffer
        ≡ record { used = Ok (length (body_octets (sort_of k) token xs)); octets = filled (body_octets (sort_of k) token xs) buffer }
    measurements_append_all = append_all (sort_of k) (MeasurementFits k) (one k) token allowed buffer

    pub measurements_append_back : (run : List ℕ) (xs : List (Measurement k)) → Octets run → measurements_in (sort_of k) run ≡ Ok xs
        → all_interpreted (sort_of k) xs ≡ true → all_clear (sort_of k) (handed_in run) ≡ true
        → length (opening (sort_of k).action token ++ run) ≤ longest_body → length (opening (sort_of k).action token ++ run) ≤ length buffer
        → appends (sort_of k) token xs 0 buffer
        ≡ record { used = Ok (length (opening (sort_of k).action token ++ run)); octets = filled (opening (sort_of k).action token ++ run) buffer }
    measurements_append_back = append_back (sort_of k) (MeasurementFits k) (one k) token allowed buffer
