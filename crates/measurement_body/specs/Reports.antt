-- Measurement Reports in a run (01, "Octets"): elements 39, of which several may have one token.
use Rattle.std.specs.Prelude.{false}
use Rattle.measurement_element.specs.MeasurementReport.{report_means, report_clear, report_interpreted, report_may, report_octets}
use Rattle.measurement_element.specs.declared.measurement_report.Report.{Report}
use Rattle.measurement_body.specs.Lists.{Sort}

abbrev pub report_sort : Sort Report
report_sort =
    record {
      id = 39;
      action = 1;
      means = report_means;
      clear = report_clear;
      token = λ r. r.token;
      once = false;
      interpreted = report_interpreted;
      may = report_may;
      octets = report_octets;
    }
