-- What a measurement of types 0 to 2 found (01, "Octets": 39; 7.3.2.22.1 to 7.3.2.22.3): after the span a map, a busy fraction or eight densities. The
-- densities stand beside the rest of the report.
use Rattle.std.specs.Prelude.{Bool, true, false, not, ◌&&◌, List, [], ◌∷◌, ℕ, ◌%◌, ltb, eqb}
use Rattle.answer.specs.Checks.{pick}
use Rattle.octets.specs.Numbers.{bit}
use Rattle.measurement_element.specs.declared.found.Found.{Found}

-- by the type, and the first octet after the span; of a map the reserved bits 5 to 7 are ignored
abbrev pub found_by : ℕ → ℕ → Found
found_by kind o = pick (eqb kind 0) (Found.Map (o % 32)) (pick (eqb kind 1) (Found.Busy o) Found.Densities)

-- how long the contents are: types 0 and 1 have length 15, type 2 has 22
abbrev pub found_size : Found → ℕ
found_size (Found.Map m) = 15
found_size (Found.Busy f) = 15
found_size Found.Densities = 22

-- unmeasured, with any of bits 0 to 3
abbrev pub map_forbids : ℕ → Bool
map_forbids m = bit 4 m && not (eqb (m % 16) 0)

abbrev pub found_forbids : Found → Bool
found_forbids (Found.Map m) = map_forbids m
found_forbids (Found.Busy f) = false
found_forbids Found.Densities = false

-- whether a measurement of this type finds this, with no reserved bit in the map
abbrev pub found_agrees : Found → ℕ → Bool
found_agrees (Found.Map m) kind = eqb kind 0 && ltb m 32
found_agrees (Found.Busy f) kind = eqb kind 1
found_agrees Found.Densities kind = eqb kind 2

-- no reserved bit is set in the octet after the span: bits 5 to 7 of a map
abbrev pub found_clear : Found → ℕ → Bool
found_clear (Found.Map m) o = ltb o 32
found_clear (Found.Busy f) o = true
found_clear Found.Densities o = true

abbrev pub found_octets : Found → List ℕ → List ℕ
found_octets (Found.Map m) ds = m ∷ []
found_octets (Found.Busy f) ds = f ∷ []
found_octets Found.Densities ds = ds

abbrev pub has_densities : Found → Bool
has_densities (Found.Map m) = false
has_densities (Found.Busy f) = false
has_densities Found.Densities = true
