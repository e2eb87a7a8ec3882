-- A span after a token, a mode and a type: read back, and written back. Assumes nothing.
use mathlib.Core.Path.{◌≡◌, ap₂}
use mathlib.Core.List.{List, [], ◌∷◌, ◌++◌}
use Prim.Native.Nat.{ℕ}
use Rattle.octets.specs.Numbers.{Octets, octet, octets_from}
use Rattle.octets.proofs.JoinSplit.{join_split, split_number, number_bound}
use Rattle.measurement_element.specs.Span.{span_in, span_octets, SpanFits}
use Rattle.measurement_element.specs.declared.span.Span.{Span}

pub span_there : (t m k : ℕ) (s : Span) (rest : List ℕ) → SpanFits s
    → span_in ((t ∷ m ∷ k ∷ []) ++ (span_octets s ++ rest)) ≡ s
span_there t m k s rest f = simp (join_split 8 s.start f.0, join_split 2 s.duration f.1)

pub span_back : (c : List ℕ) → Octets c → span_octets (span_in c) ≡ octets_from 11 3 c
span_back c o = ap₂ (λ s d. (octet 3 c ∷ []) ++ s ++ d) (split_number 8 4 c o) (split_number 2 12 c o)

pub span_fits : (c : List ℕ) → Octets c → SpanFits (span_in c)
span_fits c o = (number_bound 8 4 c o, number_bound 2 12 c o)
