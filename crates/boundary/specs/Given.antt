-- Records of the TPC Report and of the measurement elements as a caller gives them, by numbers.
use Rattle.std.specs.Prelude.{Bool, ℕ, eqb}
use Rattle.answer.specs.Checks.{pick}
use Rattle.measurement_element.specs.declared.found.Found.{Found}
use Rattle.measurement_element.specs.declared.measurement_report.Matter as Says
use Rattle.measurement_element.specs.declared.measurement_report.Reason.{Reason}
use Rattle.measurement_element.specs.declared.measurement_report.Report.{Report}
use Rattle.measurement_element.specs.declared.measurement_request.Matter as Asks
use Rattle.measurement_element.specs.declared.measurement_request.Request.{Request}
use Rattle.measurement_element.specs.declared.span.Span.{Span}
use Rattle.element.specs.declared.tpc_report.TpcReport.{TpcReport}
use Rattle.octets.specs.Numbers.{split}
use Rattle.octets.specs.Signed.{signed_of}

-- power and margin as the element has them, each an octet
abbrev pub tpc_given : ℕ → ℕ → TpcReport
tpc_given power margin = record { power = signed_of power; margin = signed_of margin }

-- 0 an Enable element, 1 a measurement; every other number stands for what is not interpreted, which no writer takes
unfoldable pub asks_given : ℕ → Bool → Bool → Span → Asks.Matter
asks_given number request report span =
    pick (eqb number 0) (Asks.Matter.Enable request report)
    (pick (eqb number 1) (Asks.Matter.Measure span)
    Asks.Matter.Uninterpreted)

abbrev pub request_given : ℕ → ℕ → ℕ → Bool → Bool → ℕ → ℕ → ℕ → Request
request_given token kind number request report channel start duration =
    record {
      token = token;
      kind = kind;
      matter = asks_given number request report (record { channel = channel; start = start; duration = duration });
    }

-- 0 Late, 1 Incapable, 2 Refused, 3 a basic report with its map, 4 a CCA report with its busy fraction, 5 an RPI histogram
unfoldable pub says_given : ℕ → ℕ → Span → Says.Matter
says_given number value span =
    pick (eqb number 0) (Says.Matter.NotMeasured Reason.Late)
    (pick (eqb number 1) (Says.Matter.NotMeasured Reason.Incapable)
    (pick (eqb number 2) (Says.Matter.NotMeasured Reason.Refused)
    (pick (eqb number 3) (Says.Matter.Measured span (Found.Map value))
    (pick (eqb number 4) (Says.Matter.Measured span (Found.Busy value))
    (pick (eqb number 5) (Says.Matter.Measured span Found.Densities)
    Says.Matter.Uninterpreted)))))

-- the eight densities are the octets of one number, the first of them the least significant
abbrev pub report_given : ℕ → ℕ → ℕ → ℕ → ℕ → ℕ → ℕ → ℕ → Report
report_given token kind number value channel start duration densities =
    record {
      token = token;
      kind = kind;
      matter = says_given number value (record { channel = channel; start = start; duration = duration });
      densities = split 8 densities;
    }
