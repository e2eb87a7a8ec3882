-- Element 35, TPC Report (01, "Octets"; 7.3.2.18), length 2: power in dBm, margin in dB, both signed.
use Rattle.std.specs.Prelude.{Bool, true, false, List, [], ◌∷◌, ℕ}
use Rattle.std.specs.Int.{w8}
use Rattle.std.proofs.Common.{SFits}
use Rattle.answer.specs.Checks.{Outcome}
use Rattle.octets.specs.Numbers.{octet}
use Rattle.octets.specs.Signed.{signed_of, octet_of}
use Rattle.octets.specs.Elements.{fixed, element}
use Rattle.element.specs.declared.tpc_report.TpcReport.{TpcReport}

abbrev pub tpc_report_in : List ℕ → TpcReport
tpc_report_in c = record { power = signed_of (octet 0 c); margin = signed_of (octet 1 c) }

unfoldable pub tpc_report_means : List ℕ → Outcome TpcReport
tpc_report_means = fixed 2 tpc_report_in (λ t. false)

abbrev pub tpc_report_contents : TpcReport → List ℕ
tpc_report_contents t = octet_of t.power ∷ octet_of t.margin ∷ []

-- every one may be written
abbrev pub tpc_report_may : TpcReport → Bool
tpc_report_may t = true

unfoldable pub tpc_report_octets : TpcReport → List ℕ
tpc_report_octets t = element 35 (tpc_report_contents t)

-- both are signed octets
abbrev pub TpcReportFits : TpcReport → Type 0
TpcReportFits t = SFits w8 t.power × SFits w8 t.margin
