-- Element 34, TPC Request (01, "Octets"; 7.3.2.17): length 0, so there is nothing in it to read.
use Rattle.std.specs.Prelude.{false, List, [], ℕ}
use Rattle.answer.specs.Checks.{Outcome}
use Rattle.octets.specs.Elements.{fixed, element}

unfoldable pub tpc_request_means : List ℕ → Outcome (Unit {0})
tpc_request_means = fixed 0 (λ c. tt) (λ u. false)

abbrev pub tpc_request_octets : List ℕ
tpc_request_octets = element 34 []
