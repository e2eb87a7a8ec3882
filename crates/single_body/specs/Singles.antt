-- Bodies of one element (01, "Octets": actions 2, 3 and 4 have one 34, 35 or 37). The element that has to be there (7, 6, 21), its length
-- and value (8, 9), and left-over octets last (22), but for vendors' elements, which are passed over (02, Four). The place of an element's fault is its ID octet
-- (02, One).
use Rattle.std.specs.Prelude.{List, [], ◌∷◌, ◌++◌, ℕ}
use Rattle.answer.specs.Checks.{Outcome, and_then}
use Rattle.answer.specs.Faults.{Placed, placed_at}
use Rattle.element.specs.ChannelSwitch.{switch_octets}
use Rattle.element.specs.TpcReport.{tpc_report_octets}
use Rattle.element.specs.TpcRequest.{tpc_request_octets}
use Rattle.element.specs.declared.channel_switch.ChannelSwitch.{ChannelSwitch}
use Rattle.element.specs.declared.tpc_report.TpcReport.{TpcReport}
use Rattle.walk.specs.Elements.{past_element}
use Rattle.walk.specs.Handed.{Handed}
use Rattle.walk.specs.Required.{required, nothing_left}

-- one element of this ID with n octets before it, what its contents mean, and nothing after it but what is passed over
unfoldable pub single : {A : Type 0} → ℕ → ℕ → (List ℕ → Outcome A) → Handed → Placed A
single n id means hs =
    and_then (placed_at n (required id hs))
    (λ s. and_then (placed_at n (means s.contents))
    (nothing_left (past_element n s.contents) s.rest))

-- ---- written: 0, action, token, element; action 4 has no token

abbrev pub tpc_request_body : ℕ → List ℕ
tpc_request_body token = (0 ∷ 2 ∷ token ∷ []) ++ tpc_request_octets

abbrev pub tpc_report_body : ℕ → TpcReport → List ℕ
tpc_report_body token t = (0 ∷ 3 ∷ token ∷ []) ++ tpc_report_octets t

abbrev pub switch_body : ChannelSwitch → List ℕ
switch_body s = (0 ∷ 4 ∷ []) ++ switch_octets s
