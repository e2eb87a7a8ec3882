-- Demand 2 for the elements of one length (01, "Octets"). Assumes nothing.
use mathlib.Core.Path.{refl, ap₂, ◌∙◌}
use mathlib.Core.Bool.{true, false}
use mathlib.Core.List.{[], ◌∷◌, ◌++◌}
use Prim.Native.Nat.{ℕ}
use Rattle.octets.specs.Numbers.{octet}
use Rattle.octets.proofs.JoinSplit.{join_split, split_number, number_bound, all_from}
use Rattle.octets.proofs.TwosComplement.{octet_signed, signed_octet, signed_fits}
use Rattle.element.specs.ChannelSwitch.{switch_in, switch_forbids, switch_means, switch_contents, switch_may}
use Rattle.octets.specs.Elements.{RoundTrip}
use Rattle.element.specs.PowerConstraint.{power_in, power_means, power_contents, power_may}
use Rattle.element.specs.TpcRequest.{tpc_request_means}
use Rattle.element.specs.TpcReport.{tpc_report_in, tpc_report_means, tpc_report_contents, tpc_report_may, TpcReportFits}
use Rattle.element.specs.Quiet.{quiet_in, quiet_forbids, quiet_means, quiet_contents, quiet_may, QuietFits}
use Rattle.element.proofs.FixedLength.{trip}

pub power_trip : RoundTrip power_means power_contents power_may (λ p. Unit {0}) (λ p. true) (λ c. true)
unfolding power_means
power_trip =
    trip 1 power_in (λ p. false) power_contents (λ p. Unit {0}) (λ p. refl) (λ p f. refl) (λ c o e. all_from 1 c e) (λ c o. tt)

pub tpc_request_trip : RoundTrip tpc_request_means (λ u. []) (λ u. true) (λ u. Unit {0}) (λ u. true) (λ c. true)
unfolding tpc_request_means
tpc_request_trip =
    trip 0 (λ c. tt) (λ u. false) (λ u. []) (λ u. Unit {0}) (λ u. refl) (λ u f. refl) (λ c o e. all_from 0 c e) (λ c o. tt)

pub tpc_report_trip : RoundTrip tpc_report_means tpc_report_contents tpc_report_may TpcReportFits (λ t. true) (λ c. true)
unfolding tpc_report_means
tpc_report_trip =
    trip 2 tpc_report_in (λ t. false) tpc_report_contents TpcReportFits (λ t. refl)
    (λ t f. simp (signed_octet t.power f.0, signed_octet t.margin f.1))
    (λ c o e. simp (octet_signed (octet 0 c) (o 0), octet_signed (octet 1 c) (o 1)) (all_from 2 c e))
    (λ c o. (signed_fits (octet 0 c) (o 0), signed_fits (octet 1 c) (o 1)))

pub switch_trip : RoundTrip switch_means switch_contents switch_may (λ s. Unit {0}) (λ s. true) (λ c. true)
unfolding switch_means
switch_trip =
    trip 3 switch_in switch_forbids switch_contents (λ s. Unit {0}) (λ s. refl) (λ s f. refl) (λ c o e. all_from 3 c e) (λ c o. tt)

pub quiet_trip : (b : ℕ) → RoundTrip (quiet_means b) quiet_contents (quiet_may b) QuietFits (λ q. true) (λ c. true)
unfolding quiet_means
quiet_trip b =
    trip 6 quiet_in (quiet_forbids b) quiet_contents QuietFits (λ q. refl)
    (λ q f. simp (join_split 2 q.duration f.0, join_split 2 q.offset f.1))
    (λ c o e. ap₂ (λ d f. (octet 0 c ∷ octet 1 c ∷ []) ++ d ++ f) (split_number 2 2 c o) (split_number 2 4 c o) ∙ all_from 6 c e)
    (λ c o. (number_bound 2 2 c o, number_bound 2 4 c o))
