-- Element 40, Quiet (01, "Octets"; 7.3.2.23), length 6: count, period, duration (2), offset (2). `b` is the beacon interval.
use Rattle.std.specs.Prelude.{Bool, not, ◌||◌, List, ◌∷◌, [], ◌++◌, ℕ, ◌<◌, ◌^◌, leb, eqb}
use Rattle.answer.specs.Checks.{Outcome}
use Rattle.octets.specs.Numbers.{octet, number, split}
use Rattle.octets.specs.Elements.{fixed, element}
use Rattle.element.specs.declared.quiet.Quiet.{Quiet}

abbrev pub quiet_in : List ℕ → Quiet
quiet_in c = record { count = octet 0 c; period = octet 1 c; duration = number 2 2 c; offset = number 2 4 c }

-- a count of 0, or an offset of B or more
abbrev pub quiet_forbids : ℕ → Quiet → Bool
quiet_forbids b q = eqb q.count 0 || leb b q.offset

unfoldable pub quiet_means : ℕ → List ℕ → Outcome Quiet
quiet_means b = fixed 6 quiet_in (quiet_forbids b)

abbrev pub quiet_contents : Quiet → List ℕ
quiet_contents q = (q.count ∷ q.period ∷ []) ++ split 2 q.duration ++ split 2 q.offset

-- what the reader would refuse may not be written
abbrev pub quiet_may : ℕ → Quiet → Bool
quiet_may b q = not (quiet_forbids b q)

unfoldable pub quiet_octets : Quiet → List ℕ
quiet_octets q = element 40 (quiet_contents q)

-- its fields fit their types
abbrev pub QuietFits : Quiet → Type 0
QuietFits q = (q.duration < 256 ^ 2) × (q.offset < 256 ^ 2)
