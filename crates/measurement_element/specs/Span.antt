-- Where and when something is or was measured (01, "Octets": 38 and 39; 7.3.2.21.1, 7.3.2.22.1): channel, start (8), duration
-- (2), after the token, the mode and the type.
use Rattle.std.specs.Prelude.{Bool, List, [], ◌∷◌, ◌++◌, ℕ, ◌<◌, ◌^◌, ltb}
use Rattle.channel.specs.Centres.{highest}
use Rattle.octets.specs.Numbers.{octet, number, split}
use Rattle.measurement_element.specs.declared.span.Span.{Span}

abbrev pub span_in : List ℕ → Span
span_in c = record { channel = octet 3 c; start = number 8 4 c; duration = number 2 12 c }

abbrev pub span_octets : Span → List ℕ
span_octets s = (s.channel ∷ []) ++ split 8 s.start ++ split 2 s.duration

-- a measurement channel over 200
abbrev pub span_forbids : Span → Bool
span_forbids s = ltb highest s.channel

-- its fields fit their types
abbrev pub SpanFits : Span → Type 0
SpanFits s = (s.start < 256 ^ 8) × (s.duration < 256 ^ 2)

-- no measurement at all
abbrev pub no_span : Span
no_span = record { channel = 0; start = 0; duration = 0 }
