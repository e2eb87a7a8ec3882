-- Element 38, Measurement Request (01, "Octets"; 7.3.2.21): token, mode, type. Mode bit 1 is Enable; with it the length is 3 and
-- bits 2 and 3 are Request and Report. Without it types 0 basic, 1 CCA and 2 RPI have length 14, and others 3 or more.
use Rattle.std.specs.Prelude.{Bool, true, false, not, ◌&&◌, ◌||◌, List, [], ◌∷◌, ◌++◌, ℕ, ◌+◌, ◌%◌, length, ltb, leb, eqb}
use Rattle.answer.specs.Checks.{Outcome, pick, ◌⇒◌, judged}
use Rattle.answer.specs.declared.Refusal.{Refusal}
use Rattle.octets.specs.Numbers.{octet, bit}
use Rattle.octets.specs.Elements.{element}
use Rattle.measurement_element.specs.Span.{span_in, span_octets, span_forbids, SpanFits}
use Rattle.measurement_element.specs.declared.measurement_request.Matter.{Matter}
use Rattle.measurement_element.specs.declared.measurement_request.Request.{Request}

-- the Request and Report bits are invalid with a reserved type, which is one over 2: such a bit is set to 0 (7.3.2.21), and one that is set counts as reserved
abbrev pub valid_with : ℕ → Bool → Bool
valid_with kind b = leb kind 2 && b

-- what is asked, by the mode and the type
abbrev pub request_matter_in : ℕ → ℕ → List ℕ → Matter
request_matter_in mode kind c =
    pick (bit 1 mode)
    (Matter.Enable (valid_with kind (bit 2 mode)) (valid_with kind (bit 3 mode)))
    (pick (leb kind 2) (Matter.Measure (span_in c)) Matter.Uninterpreted)

abbrev pub request_in : List ℕ → Request
request_in c = record { token = octet 0 c; kind = octet 2 c; matter = request_matter_in (octet 1 c) (octet 2 c) c }

-- whether contents have a wrong length for what they ask; none has under 3 octets
abbrev pub request_misfits : Matter → ℕ → Bool
request_misfits (Matter.Enable q p) n = not (eqb n 3)
request_misfits (Matter.Measure s) n = not (eqb n 14)
request_misfits Matter.Uninterpreted n = false

abbrev pub request_matter_forbids : Matter → Bool
request_matter_forbids (Matter.Enable q p) = false
request_matter_forbids (Matter.Measure s) = span_forbids s
request_matter_forbids Matter.Uninterpreted = false

-- token 0, or a channel over 200
abbrev pub request_forbids : Request → Bool
request_forbids r = eqb r.token 0 || request_matter_forbids r.matter

unfoldable pub request_means : List ℕ → Outcome Request
request_means c =
    judged
    (ltb (length c) 3 ⇒ Refusal.WrongLength
    ∷ request_misfits (request_in c).matter (length c) ⇒ Refusal.WrongLength
    ∷ request_forbids (request_in c) ⇒ Refusal.ForbiddenValue
    ∷ [])
    (request_in c)

-- ---- written

-- the mode, with every reserved bit 0
abbrev pub request_mode : Matter → ℕ
request_mode (Matter.Enable q p) = 2 + (pick q 4 0 + pick p 8 0)
request_mode (Matter.Measure s) = 0
request_mode Matter.Uninterpreted = 0

abbrev pub request_matter_octets : Matter → List ℕ
request_matter_octets (Matter.Enable q p) = []
request_matter_octets (Matter.Measure s) = span_octets s
request_matter_octets Matter.Uninterpreted = []

abbrev pub request_contents : Request → List ℕ
request_contents r = (r.token ∷ request_mode r.matter ∷ r.kind ∷ []) ++ request_matter_octets r.matter

-- how long contents are that are written
abbrev pub request_size : Matter → ℕ
request_size (Matter.Enable q p) = 3
request_size (Matter.Measure s) = 14
request_size Matter.Uninterpreted = 3

-- uninterpreted contents are those of a type over 2 without Enable
abbrev pub request_matter_interpreted : Matter → Bool
request_matter_interpreted (Matter.Enable q p) = true
request_matter_interpreted (Matter.Measure s) = true
request_matter_interpreted Matter.Uninterpreted = false

abbrev pub request_interpreted : Request → Bool
request_interpreted r = request_matter_interpreted r.matter

-- whether a type can ask for this
abbrev pub request_agrees : Matter → ℕ → Bool
request_agrees (Matter.Enable q p) kind = leb kind 2 || not (q || p)
request_agrees (Matter.Measure s) kind = leb kind 2
request_agrees Matter.Uninterpreted kind = false

-- what the reader would refuse may not be written, nor uninterpreted contents
unfoldable pub request_may : Request → Bool
request_may r = not (request_forbids r) && request_agrees r.matter r.kind

unfoldable pub request_octets : Request → List ℕ
request_octets r = element 38 (request_contents r)

-- no reserved bit is set in the mode of a type: with Enable all but bits 1 to 3 are reserved, or all but bit 1 where those are invalid; without it all but bit 1
abbrev pub mode_clear : ℕ → ℕ → Bool
mode_clear kind mode = pick (bit 1 mode) (pick (leb kind 2) (eqb (mode % 2) 0 && ltb mode 16) (eqb mode 2)) (eqb mode 0)

abbrev pub request_clear : List ℕ → Bool
request_clear c = mode_clear (octet 2 c) (octet 1 c)

-- ---- the fields fit their types

abbrev pub RequestMatterFits : Matter → Type 0
RequestMatterFits (Matter.Enable q p) = Unit {0}
RequestMatterFits (Matter.Measure s) = SpanFits s
RequestMatterFits Matter.Uninterpreted = Unit {0}

abbrev pub RequestFits : Request → Type 0
RequestFits r = RequestMatterFits r.matter
