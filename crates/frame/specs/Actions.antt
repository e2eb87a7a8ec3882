-- What an action body means (01, "Octets": 0, action, token, elements for actions 0 (one or more 38), 1 (one or more 39), 2 (one 34)
-- and 3 (one 35); action 4 has no token and one 37), and the octets of each. Vendors' elements after the first are passed over (02, Four). Places are counted from
-- the body's first octet.
use Rattle.std.specs.Prelude.{Bool, true, not, ◌&&◌, List, ℕ, eqb, drop, Ok}
use Rattle.action.specs.Openings.{fixed_fields, switch_fixed_fields, opens_with}
use Rattle.action.specs.declared.Opening.{Opening}
use Rattle.single_body.specs.Singles.{single, tpc_request_body, tpc_report_body, switch_body}
use Rattle.answer.specs.Checks.{pick, and_then}
use Rattle.answer.specs.Faults.{Placed}
use Rattle.element.specs.ChannelSwitch.{switch_means, switch_may}
use Rattle.measurement_element.specs.MeasurementReport.{ReportFits}
use Rattle.measurement_element.specs.MeasurementRequest.{RequestFits}
use Rattle.element.specs.TpcReport.{tpc_report_means, TpcReportFits}
use Rattle.element.specs.TpcRequest.{tpc_request_means}
use Rattle.element.specs.declared.channel_switch.ChannelSwitch.{ChannelSwitch}
use Rattle.measurement_element.specs.declared.measurement_report.Report.{Report}
use Rattle.measurement_element.specs.declared.measurement_request.Request.{Request}
use Rattle.element.specs.declared.tpc_report.TpcReport.{TpcReport}
use Rattle.measurement_body.specs.Bodies.{body_octets}
use Rattle.measurement_body.specs.Lists.{AllFit, measurements_in, may_list, all_interpreted, all_clear}
use Rattle.measurement_body.specs.Reports.{report_sort}
use Rattle.measurement_body.specs.Requests.{request_sort}
use Rattle.octets.specs.Numbers.{octet}
use Rattle.walk.specs.Handed.{handed_in, vendorless}

-- the five bodies, with their tokens and records
pub data Body : Type 0 where
  requests : ℕ → List Request → Body
  reports : ℕ → List Report → Body
  tpc_request : ℕ → Body
  tpc_report : ℕ → TpcReport → Body
  switch : ChannelSwitch → Body

-- what follows the fixed fields
abbrev pub after_opening : List ℕ → Opening → Placed Body
after_opening body Opening.Switch = and_then (single switch_fixed_fields 37 switch_means (handed_in (drop switch_fixed_fields body))) (λ s. Ok (switch s))
after_opening body (Opening.Token action token) =
    pick (eqb action 0) (and_then (measurements_in request_sort (drop fixed_fields body)) (λ rs. Ok (requests token rs)))
    (pick (eqb action 1) (and_then (measurements_in report_sort (drop fixed_fields body)) (λ rs. Ok (reports token rs)))
    (pick (eqb action 2) (and_then (single fixed_fields 34 tpc_request_means (handed_in (drop fixed_fields body))) (λ u. Ok (tpc_request token)))
    (and_then (single fixed_fields 35 tpc_report_means (handed_in (drop fixed_fields body))) (λ t. Ok (tpc_report token t)))))

unfoldable pub action_means : List ℕ → Placed Body
action_means body = and_then (opens_with body) (after_opening body)

-- ---- written

unfoldable pub action_octets : Body → List ℕ
action_octets (requests token rs) = body_octets request_sort token rs
action_octets (reports token rs) = body_octets report_sort token rs
action_octets (tpc_request token) = tpc_request_body token
action_octets (tpc_report token t) = tpc_report_body token t
action_octets (switch s) = switch_body s

-- token 0 is forbidden in actions 0 and 2
unfoldable pub action_may : Body → Bool
action_may (requests token rs) = not (eqb token 0) && may_list request_sort rs
action_may (reports token rs) = may_list report_sort rs
action_may (tpc_request token) = not (eqb token 0)
action_may (tpc_report token t) = true
action_may (switch s) = switch_may s

unfoldable pub action_interpreted : Body → Bool
action_interpreted (requests token rs) = all_interpreted request_sort rs
action_interpreted (reports token rs) = all_interpreted report_sort rs
action_interpreted (tpc_request token) = true
action_interpreted (tpc_report token t) = true
action_interpreted (switch s) = true

-- no reserved bit is set, which only measurement elements have, and no vendor's element is there: "Write-back of octets holds for frames without them" (02, Four)
unfoldable pub action_clear : List ℕ → Bool
action_clear body =
    pick (eqb (octet 1 body) 0) (all_clear request_sort (handed_in (drop fixed_fields body)))
    (pick (eqb (octet 1 body) 1) (all_clear report_sort (handed_in (drop fixed_fields body)))
    (pick (eqb (octet 1 body) 4) (vendorless (handed_in (drop switch_fixed_fields body))) (vendorless (handed_in (drop fixed_fields body)))))

-- ---- the fields fit their types

unfoldable pub ActionFits : Body → Type 0
ActionFits (requests token rs) = AllFit RequestFits rs
ActionFits (reports token rs) = AllFit ReportFits rs
ActionFits (tpc_request token) = Unit {0}
ActionFits (tpc_report token t) = TpcReportFits t
ActionFits (switch s) = Unit {0}
