-- Demand 2 for the eight elements: each record that may be written reads back the same, and accepted contents with nothing
-- uninterpreted and no reserved bit set are written back octet for octet. `RoundTrip` says it, with what 16 is given for and
-- that what is read fits its fields. Assumes nothing.
use Rattle.std.specs.Prelude.{Ok}
use mathlib.Core.Bool.{true}
use mathlib.Core.List.{[], ◌∷◌}
use mathlib.Core.Path.{◌≡◌, sym, ap, ap₂, ◌∙◌}
use Prim.Native.Nat.{ℕ, ◌+◌, ◌*◌, ◌<◌}
use native.Mathlib.Omega.{arith}
use lib.ListN.{length, length-append}
use lib.Seq.{get_or-append-add}
use Rattle.element.specs.ChannelSwitch.{switch_means, switch_contents, switch_may}
use Rattle.element.specs.IbssDfs.{Dfs, dfs_means, pair_means, dfs_contents, dfs_may, DfsFits, few_pairs, in_element}
use Rattle.octets.specs.Elements.{RoundTrip}
use Rattle.octets.specs.Numbers.{octet}
use Rattle.measurement_element.specs.MeasurementReport.{report_means, report_contents, report_may, ReportFits, report_interpreted, report_clear}
use Rattle.measurement_element.specs.MeasurementRequest.{request_means, request_contents, request_may, RequestFits, request_interpreted, request_clear}
use Rattle.element.specs.PowerConstraint.{power_means, power_contents, power_may}
use Rattle.element.specs.Quiet.{quiet_means, quiet_contents, quiet_may, QuietFits}
use Rattle.element.specs.TpcReport.{tpc_report_means, tpc_report_contents, tpc_report_may, TpcReportFits}
use Rattle.element.specs.TpcRequest.{tpc_request_means}
use Rattle.measurement_element.proofs.ReportTrip.{report_trip}
use Rattle.measurement_element.proofs.RequestTrip.{request_trip}
use Rattle.element.proofs.DfsContents.{a_pair, dfs_trip}
use Rattle.element.proofs.RoundTrips.{power_trip, tpc_request_trip, tpc_report_trip, switch_trip, quiet_trip}

pub power_constraint : RoundTrip power_means power_contents power_may (λ p. Unit {0}) (λ p. true) (λ c. true)
power_constraint = power_trip

pub tpc_request_lem : RoundTrip tpc_request_means (λ u. []) (λ u. true) (λ u. Unit {0}) (λ u. true) (λ c. true)
tpc_request_lem = tpc_request_trip

pub tpc_report_lem : RoundTrip tpc_report_means tpc_report_contents tpc_report_may TpcReportFits (λ t. true) (λ c. true)
tpc_report_lem = tpc_report_trip

pub channel_switch : RoundTrip switch_means switch_contents switch_may (λ s. Unit {0}) (λ s. true) (λ c. true)
channel_switch = switch_trip

pub measurement_request : RoundTrip request_means request_contents request_may RequestFits request_interpreted request_clear
measurement_request = request_trip

pub measurement_report : RoundTrip report_means report_contents report_may ReportFits report_interpreted report_clear
measurement_report = report_trip

pub quiet : (interval : ℕ) → RoundTrip (quiet_means interval) quiet_contents (quiet_may interval) QuietFits (λ q. true) (λ c. true)
quiet interval = quiet_trip interval

-- of contents and pairs that an element holds
pub ibss_dfs : RoundTrip dfs_means dfs_contents dfs_may DfsFits few_pairs in_element
ibss_dfs = dfs_trip

-- and each pair that was written is read by its index
pub ibss_dfs_pair : (d : Dfs) (i : ℕ) → DfsFits d → 2 * i + 1 < length d.pairs → pair_means i (dfs_contents d) ≡ Ok (record { channel = octet (2 * i) d.pairs; map = octet (2 * i + 1) d.pairs })
ibss_dfs_pair d i f h =
    let size = length-append d.owner (d.recovery ∷ d.pairs) in
    sym (a_pair i (dfs_contents d) (omega (arith, f, size)))
    ∙ ap₂ (λ (c m : ℕ). Ok (record { channel = c; map = m })) (among (2 * i) (7 + 2 * i) (omega arith)) (among (2 * i + 1) (7 + 2 * i + 1) (omega arith))
  where
    -- the octets of the pairs stand after seven others
    among : (k n : ℕ) → n ≡ 7 + k → octet n (dfs_contents d) ≡ octet k d.pairs
    among k n e =
        let head = d.recovery ∷ [] in
        ap (λ (j : ℕ). octet j (dfs_contents d)) (let place : n ≡ length d.owner + (length head + k) = omega (arith, f, e) in place)
        ∙ get_or-append-add d.owner (d.recovery ∷ d.pairs) (length head + k) 0
        ∙ get_or-append-add head d.pairs k 0
