-- Element 39, Measurement Report (01, "Octets"; 7.3.2.22): token, mode, type. Mode bits 0 Late, 1 Incapable, 2 Refused; more than
-- one, at length 3 or more: 9; exactly one: length 3. With none, types 0 and 1 have length 15 and type 2 has 22: channel, start
-- (8), duration (2), then what was found; other types have 3 or more.
use Rattle.std.specs.Prelude.{Bool, true, false, not, ◌&&◌, ◌||◌, List, [], ◌∷◌, ◌++◌, ◌≡◌, ℕ, ◌+◌, ◌/◌, ◌%◌, length, replicate, ltb, eqb}
use Rattle.answer.specs.Checks.{Outcome, pick, ◌⇒◌, judged}
use Rattle.answer.specs.declared.Refusal.{Refusal}
use Rattle.octets.specs.Elements.{element}
use Rattle.octets.specs.Numbers.{octet, octets_from, bit}
use Rattle.octets.specs.Sums.{sum_of}
use Rattle.measurement_element.specs.Found.{found_by, found_size, found_forbids, found_agrees, found_clear, found_octets, has_densities}
use Rattle.measurement_element.specs.Span.{span_in, span_octets, span_forbids, SpanFits}
use Rattle.measurement_element.specs.declared.measurement_report.Matter.{Matter}
use Rattle.measurement_element.specs.declared.measurement_report.Reason.{Reason}
use Rattle.measurement_element.specs.declared.measurement_report.Report.{Report}

-- how many of Late, Incapable and Refused are set
abbrev pub report_flags : ℕ → ℕ
report_flags mode = mode % 2 + (mode / 2 % 2 + mode / 4 % 2)

-- a measurement, by its type
abbrev pub report_measured : ℕ → List ℕ → Matter
report_measured kind c = pick (ltb 2 kind) Matter.Uninterpreted (Matter.Measured (span_in c) (found_by kind (octet 14 c)))

abbrev pub report_matter_in : ℕ → ℕ → List ℕ → Matter
report_matter_in mode kind c =
    pick (bit 0 mode) (Matter.NotMeasured Reason.Late)
    (pick (bit 1 mode) (Matter.NotMeasured Reason.Incapable)
    (pick (bit 2 mode) (Matter.NotMeasured Reason.Refused) (report_measured kind c)))

abbrev pub no_densities : List ℕ
no_densities = replicate 8 0

-- whether eight densities stand beside what is reported
abbrev pub is_histogram : Matter → Bool
is_histogram (Matter.NotMeasured r) = false
is_histogram (Matter.Measured s f) = has_densities f
is_histogram Matter.Uninterpreted = false

abbrev pub densities_in : Matter → List ℕ → List ℕ
densities_in m c = pick (is_histogram m) (octets_from 8 14 c) no_densities

abbrev pub report_of : ℕ → ℕ → Matter → List ℕ → Report
report_of token kind matter c =
    record { token = token; kind = kind; matter = matter; densities = densities_in matter c }

abbrev pub report_in : List ℕ → Report
report_in c = report_of (octet 0 c) (octet 2 c) (report_matter_in (octet 1 c) (octet 2 c) c) c

-- uninterpreted contents are those of a type over 2 with no mode bit
abbrev pub matter_interpreted : Matter → Bool
matter_interpreted (Matter.NotMeasured r) = true
matter_interpreted (Matter.Measured s f) = true
matter_interpreted Matter.Uninterpreted = false

abbrev pub report_interpreted : Report → Bool
report_interpreted r = matter_interpreted r.matter

-- how long contents are that are interpreted, and those that are written
abbrev pub report_size : Matter → ℕ
report_size (Matter.NotMeasured r) = 3
report_size (Matter.Measured s f) = found_size f
report_size Matter.Uninterpreted = 3

-- whether contents have a wrong length for what they report; none has under 3 octets
abbrev pub report_misfits : Matter → ℕ → Bool
report_misfits m n = matter_interpreted m && not (eqb n (report_size m))

-- a channel over 200, or a map that says of what was not measured what it showed
abbrev pub report_forbids : Matter → Bool
report_forbids (Matter.NotMeasured r) = false
report_forbids (Matter.Measured s f) = span_forbids s || found_forbids f
report_forbids Matter.Uninterpreted = false

unfoldable pub report_means : List ℕ → Outcome Report
report_means c =
    judged
    (ltb (length c) 3 ⇒ Refusal.WrongLength
    ∷ ltb 1 (report_flags (octet 1 c)) ⇒ Refusal.ForbiddenValue
    ∷ report_misfits (report_in c).matter (length c) ⇒ Refusal.WrongLength
    ∷ report_forbids (report_in c).matter ⇒ Refusal.ForbiddenValue
    ∷ [])
    (report_in c)

-- ---- written

-- the mode, with every reserved bit 0
abbrev pub reason_mode : Reason → ℕ
reason_mode Reason.Late = 1
reason_mode Reason.Incapable = 2
reason_mode Reason.Refused = 4

abbrev pub report_mode : Matter → ℕ
report_mode (Matter.NotMeasured r) = reason_mode r
report_mode (Matter.Measured s f) = 0
report_mode Matter.Uninterpreted = 0

abbrev pub report_matter_octets : Matter → List ℕ → List ℕ
report_matter_octets (Matter.NotMeasured r) ds = []
report_matter_octets (Matter.Measured s f) ds = span_octets s ++ found_octets f ds
report_matter_octets Matter.Uninterpreted ds = []

abbrev pub report_contents : Report → List ℕ
report_contents r =
    (r.token ∷ report_mode r.matter ∷ r.kind ∷ []) ++ report_matter_octets r.matter r.densities

-- whether a type can report this; uninterpreted contents are never written
abbrev pub report_agrees : Matter → ℕ → Bool
report_agrees (Matter.NotMeasured r) kind = true
report_agrees (Matter.Measured s f) kind = found_agrees f kind
report_agrees Matter.Uninterpreted kind = false

-- only an RPI histogram has densities
abbrev pub silent : Matter → List ℕ → Bool
silent m ds = is_histogram m || eqb (sum_of ds) 0

-- what the reader would refuse may not be written, nor a reserved bit in the map, nor uninterpreted contents
unfoldable pub report_may : Report → Bool
report_may r = not (report_forbids r.matter) && report_agrees r.matter r.kind && silent r.matter r.densities

unfoldable pub report_octets : Report → List ℕ
report_octets r = element 39 (report_contents r)

abbrev pub map_clear : Matter → ℕ → Bool
map_clear (Matter.NotMeasured r) o = true
map_clear (Matter.Measured s f) o = found_clear f o
map_clear Matter.Uninterpreted o = true

-- no reserved bit is set: bits 3 to 7 of the mode, and bits 5 to 7 of the map
abbrev pub report_clear : List ℕ → Bool
report_clear c = ltb (octet 1 c) 8 && map_clear (report_in c).matter (octet 14 c)

-- ---- the fields fit their types

abbrev pub ReportMatterFits : Matter → Type 0
ReportMatterFits (Matter.NotMeasured r) = Unit {0}
ReportMatterFits (Matter.Measured s f) = SpanFits s
ReportMatterFits Matter.Uninterpreted = Unit {0}

abbrev pub ReportFits : Report → Type 0
ReportFits r = ReportMatterFits r.matter × (length r.densities ≡ 8)
