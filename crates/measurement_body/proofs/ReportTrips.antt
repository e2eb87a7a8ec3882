-- What demand 2 for a list asks of one Measurement Report. Assumes nothing.
use mathlib.Core.Path.{refl}
use Rattle.measurement_element.specs.MeasurementReport.{report_contents, report_octets, ReportFits}
use Rattle.measurement_element.proofs.ReportTrip.{report_trip}
use Rattle.measurement_element.proofs.ReportWritten.{written_interpreted, written_clear}
use Rattle.measurement_body.specs.Reports.{report_sort}
use Rattle.measurement_body.proofs.ListTrip.{Trip}

pub reports_trip : Trip report_sort ReportFits
unfolding report_octets
reports_trip =
    record {
      contents = report_contents;
      trip = report_trip;
      laid = λ r. refl;
      own = refl;
      known = written_interpreted;
      clean = written_clear;
    }
