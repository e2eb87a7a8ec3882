-- The readings that an element of a Measurement Request is answered with (01, "Replies": "the caller's own Refused or readings (a map, busy µs or eight
-- times, as the type asks; another kind 16)"; "Readings are judged only where the reply carries them").
use Rattle.std.specs.Prelude.{true, false, List, ◌≡◌, ℕ, ◌<◌, replicate, Ok}
use Rattle.fraction.specs.Fractions.{busy_of, densities_of}
use Rattle.measured_report.specs.Reports.{is_late}
use Rattle.measured_report.specs.declared.Finding.{Finding}
use Rattle.measured_report.specs.declared.Readings.{Readings}
use Rattle.measurement_element.specs.Found.{map_forbids}
use Rattle.measurement_element.specs.MeasurementReport.{no_densities}
use Rattle.measurement_element.specs.declared.found.Found.{Found}
use Rattle.measurement_element.specs.declared.measurement_request.Matter.{Matter}
use Rattle.measurement_element.specs.declared.measurement_request.Request.{Request}
use Rattle.measurement_element.specs.declared.span.Span.{Span}

-- what the caller has found, as the type asks, and what a report of that type has of it: 0 the map, with no reserved bit, and unmeasured with none of
-- bits 0 to 3; 1 the fraction of the busy µs; 2 the densities of the eight times
pub data AsAsked (duration : ℕ) (times : List ℕ) : ℕ → Finding → Found → List ℕ → Type 0 where
  basic : {map : ℕ} → map < 32 → map_forbids map ≡ false → AsAsked duration times 0 (Finding.Map map) (Found.Map map) no_densities
  cca : {time fraction : ℕ} → busy_of duration time ≡ Ok fraction → AsAsked duration times 1 (Finding.Busy time) (Found.Busy fraction) no_densities
  rpi : {densities : List ℕ} → densities_of duration times ≡ Ok densities → AsAsked duration times 2 Finding.Times Found.Densities densities

-- any for a type over 2, and where the start is late; else the caller's own Refused, or readings as the type asks
pub data Possible (clock : ℕ) (readings : Readings) (request : Request) : Type 0 where
  incapable : request.matter ≡ Matter.Uninterpreted → Possible clock readings request
  late : {asked : Span} → request.matter ≡ Matter.Measure asked → is_late clock asked ≡ true → Possible clock readings request
  refuses : {asked : Span} → request.matter ≡ Matter.Measure asked → readings.finding ≡ Finding.Refused → Possible clock readings request
  carried : {asked : Span} {found : Found} {densities : List ℕ} → request.matter ≡ Matter.Measure asked
      → AsAsked asked.duration readings.times request.kind readings.finding found densities → Possible clock readings request

-- what a station always has: it refuses to measure
abbrev pub refusing : Readings
refusing = record { finding = Finding.Refused; times = replicate 8 0 }
