-- Measurement Requests in a run (01, "Octets"): elements 38, of which no two have one token.
use Rattle.std.specs.Prelude.{true}
use Rattle.measurement_element.specs.MeasurementRequest.{request_means, request_clear, request_interpreted, request_may, request_octets}
use Rattle.measurement_element.specs.declared.measurement_request.Request.{Request}
use Rattle.measurement_body.specs.Lists.{Sort}

abbrev pub request_sort : Sort Request
request_sort =
    record {
      id = 38;
      action = 0;
      means = request_means;
      clear = request_clear;
      token = λ r. r.token;
      once = true;
      interpreted = request_interpreted;
      may = request_may;
      octets = request_octets;
    }
