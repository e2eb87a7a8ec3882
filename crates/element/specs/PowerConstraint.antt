-- Element 32, Power Constraint (01, "Octets"; 7.3.2.15): length 1.
use Rattle.std.specs.Prelude.{Bool, true, false, List, [], ◌∷◌, ℕ}
use Rattle.answer.specs.Checks.{Outcome}
use Rattle.octets.specs.Numbers.{octet}
use Rattle.octets.specs.Elements.{fixed, element}
use Rattle.element.specs.declared.power_constraint.PowerConstraint.{PowerConstraint}

abbrev pub power_in : List ℕ → PowerConstraint
power_in c = record { decibels = octet 0 c }

unfoldable pub power_means : List ℕ → Outcome PowerConstraint
power_means = fixed 1 power_in (λ p. false)

abbrev pub power_contents : PowerConstraint → List ℕ
power_contents p = p.decibels ∷ []

-- every one may be written
abbrev pub power_may : PowerConstraint → Bool
power_may p = true

unfoldable pub power_octets : PowerConstraint → List ℕ
power_octets p = element 32 (power_contents p)
