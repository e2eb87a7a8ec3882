-- The two kinds of measurement body (01, "Octets": actions 0 and 1).
use Rattle.measurement_element.specs.declared.measurement_report.Report.{Report}
use Rattle.measurement_element.specs.declared.measurement_request.Request.{Request}
use Rattle.measurement_body.specs.Lists.{Sort}
use Rattle.measurement_body.specs.Reports.{report_sort}
use Rattle.measurement_body.specs.Requests.{request_sort}
use Rattle.measurement_body.specs.declared.kinds.Kind.{Kind}

-- a record of the kind
abbrev pub Measurement : Kind → Type 0
Measurement Kind.Requests = Request
Measurement Kind.Reports = Report

abbrev pub sort_of : (k : Kind) → Sort (Measurement k)
sort_of Kind.Requests = request_sort
sort_of Kind.Reports = report_sort
