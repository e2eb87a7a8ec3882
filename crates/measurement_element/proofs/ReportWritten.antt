-- What is written of a report: nothing uninterpreted, and every reserved bit 0. Assumes nothing.
use mathlib.Core.Path.{◌≡◌, refl, sym, ap, ◌∙◌}
use mathlib.Core.Bool.{true, not, ◌&&◌}
use mathlib.Core.List.{List}
use Prim.Native.Nat.{ℕ}
use borrow.Author.Tests.{eqb-true}
use lib.Dec.{ltb, eqb}
use Rattle.answer.proofs.Booleans.{clash, both}
use Rattle.octets.specs.Numbers.{octet}
use Rattle.measurement_element.specs.MeasurementReport.{report_forbids, matter_interpreted, report_interpreted, report_agrees, report_contents, report_measured, report_may, report_clear, map_clear, silent}
use Rattle.measurement_element.specs.declared.found.Found.{Found}
use Rattle.measurement_element.specs.declared.measurement_report.Matter.{Matter}
use Rattle.measurement_element.specs.declared.measurement_report.Reason.{Reason}
use Rattle.measurement_element.specs.declared.measurement_report.Report.{Report}
use Rattle.measurement_element.proofs.ReportLayout.{made}

-- what may be written agrees with its type
agrees : (r : Report) → report_may r ≡ true → report_agrees r.matter r.kind ≡ true
unfolding report_may
agrees r h =
    (both (not (report_forbids r.matter)) (report_agrees r.matter r.kind)
    (both (not (report_forbids r.matter) && report_agrees r.matter r.kind) (silent r.matter r.densities) h).0
    ).1

agreed : (m : Matter) (k : ℕ) → report_agrees m k ≡ true → matter_interpreted m ≡ true
agreed (Matter.NotMeasured r) k h = refl
agreed (Matter.Measured s f) k h = refl
agreed Matter.Uninterpreted k h = h

module _ (t k : ℕ) (ds : List ℕ) where
  -- the octet after the span, by the type that the contents have
  at_type : (m : Matter) (n : ℕ) → eqb k n ≡ true
      → map_clear (report_measured k (report_contents (made t k ds m))) (octet 14 (report_contents (made t k ds m)))
      ≡ map_clear (report_measured n (report_contents (made t k ds m))) (octet 14 (report_contents (made t k ds m)))
  at_type m n e =
      ap (λ (j : ℕ). map_clear (report_measured j (report_contents (made t k ds m))) (octet 14 (report_contents (made t k ds m)))) (eqb-true k n e)

  clean : (m : Matter) → report_agrees m k ≡ true → report_clear (report_contents (made t k ds m)) ≡ true
  clean (Matter.NotMeasured Reason.Late) h = refl
  clean (Matter.NotMeasured Reason.Incapable) h = refl
  clean (Matter.NotMeasured Reason.Refused) h = refl
  clean (Matter.Measured s (Found.Map x)) h =
      let p = both (eqb k 0) (ltb x 32) h in
      at_type (Matter.Measured s (Found.Map x)) 0 p.0 ∙ p.1
  clean (Matter.Measured s (Found.Busy x)) h = at_type (Matter.Measured s (Found.Busy x)) 1 h
  clean (Matter.Measured s Found.Densities) h = at_type (Matter.Measured s Found.Densities) 2 h
  clean Matter.Uninterpreted h = clash (sym h)

module _ (r : Report) (h : report_may r ≡ true) where
  pub written_interpreted : report_interpreted r ≡ true
  written_interpreted = agreed r.matter r.kind (agrees r h)

  pub written_clear : report_clear (report_contents r) ≡ true
  written_clear = clean r.token r.kind r.densities r.matter (agrees r h)
