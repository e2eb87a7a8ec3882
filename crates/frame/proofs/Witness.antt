-- What the definitions say of single frames: one of each kind is accepted, and records are not mixed up. Assumes nothing.
use Rattle.std.specs.Prelude.{Ok, Err, Some, None}
use mathlib.Core.Path.{◌≡◌, refl, sym, ap, ◌∙◌}
use mathlib.Core.Bool.{true, false}
use mathlib.Core.List.{List, [], ◌∷◌, ◌++◌}
use Prim.Native.Nat.{ℕ}
use lib.IntN.{pos, negsuc}
use lib.ListN.{replicate}
use Rattle.action.specs.Openings.{opens_with}
use Rattle.single_body.specs.Singles.{single}
use Rattle.answer.specs.Checks.{checked}
use Rattle.answer.specs.Faults.{fault_at, fault_nowhere, Placed}
use Rattle.answer.specs.declared.Refusal.{Refusal}
use Rattle.beacon.specs.Beacons.{tells, element_means, takes, says, beacon_means}
use Rattle.beacon.specs.IbssBeacons.{takes_in_ibss, ibss_beacon_means}
use Rattle.beacon.specs.Notices.{elementless}
use Rattle.element.specs.ChannelSwitch.{switch_means}
use Rattle.octets.specs.Elements.{fixed}
use Rattle.measurement_element.specs.MeasurementReport.{report_means, no_densities}
use Rattle.measurement_element.specs.MeasurementRequest.{request_means}
use Rattle.element.specs.IbssDfs.{dfs_means}
use Rattle.element.specs.Quiet.{quiet_means}
use Rattle.element.specs.TpcReport.{tpc_report_means}
use Rattle.element.specs.TpcRequest.{tpc_request_means}
use Rattle.element.specs.declared.channel_switch.ChannelSwitch.{ChannelSwitch}
use Rattle.measurement_element.specs.declared.measurement_report.Matter as Reports
use Rattle.measurement_element.specs.declared.measurement_report.Reason.{Reason}
use Rattle.measurement_element.specs.declared.measurement_report.Report.{Report}
use Rattle.measurement_element.specs.declared.measurement_request.Matter as Requests
use Rattle.measurement_element.specs.declared.measurement_request.Request.{Request}
use Rattle.element.specs.declared.quiet.Quiet.{Quiet}
use Rattle.header.specs.Headers.{foreign_header, foreign_address, to_all, header_means, management_means, address_means}
use Rattle.measurement_body.specs.Lists.{used, next_in, listed, measurements_in, nth}
use Rattle.walk.specs.Elements.{elements_after, elements_in}
use Rattle.walk.specs.Handed.{passing, handing}
use Rattle.walk.specs.Required.{required, nothing_left}
use Rattle.frame.specs.Actions.{requests, reports, tpc_request, tpc_report, switch, action_means}
use Rattle.frame.specs.Frames.{Kind, beacon, probe_response, action, Sent, frame_means, request_in, report_in, element_of}
use Rattle.frame.specs.IbssFrames.{SentInIbss, ibss_frame_means}

abbrev own : List ℕ
own = 2 ∷ 0 ∷ 0 ∷ 0 ∷ 0 ∷ 1 ∷ []

abbrev master : List ℕ
master = 2 ∷ 0 ∷ 0 ∷ 0 ∷ 0 ∷ 9 ∷ []

-- a frame from the AP, by octet 0, destination and body, and what it means at interval 100
abbrev frame : ℕ → List ℕ → List ℕ → List ℕ
frame first to body = (first ∷ 0 ∷ 0 ∷ 0 ∷ []) ++ to ++ master ++ master ++ (0 ∷ 0 ∷ body)

abbrev heard : List ℕ → Placed Sent
heard f = frame_means own master 100 f

-- Beacon, Probe Response, Action
abbrev beacon_frame : List ℕ → List ℕ
beacon_frame elements = frame 128 own (replicate 8 0 ++ (100 ∷ 0 ∷ 1 ∷ 0 ∷ elements))

abbrev probe_frame : List ℕ → List ℕ
probe_frame elements = frame 80 own (replicate 8 0 ++ (100 ∷ 0 ∷ 1 ∷ 0 ∷ elements))

abbrev action_frame : List ℕ → List ℕ
action_frame body = frame 208 own body

abbrev to_own : Kind → Placed Sent
to_own k = Ok (record { to_all = false; kind = k })

-- ---- the seven kinds

pub a_beacon : heard (beacon_frame []) ≡ to_own (beacon (tells (elementless 0 1) []))
unfolding frame_means header_means management_means address_means foreign_header foreign_address to_all checked beacon_means says elements_in elements_after
a_beacon = refl

pub a_probe_response : heard (probe_frame []) ≡ to_own (probe_response (tells (elementless 0 1) []))
unfolding frame_means header_means management_means address_means foreign_header foreign_address to_all checked beacon_means says elements_in elements_after
a_probe_response = refl

-- a request to enable, by its token, as octets and as a record
abbrev asked : ℕ → List ℕ
asked token = 38 ∷ 3 ∷ token ∷ 6 ∷ 0 ∷ []

abbrev asks : ℕ → Request
asks token = record { token = token; kind = 0; matter = Requests.Matter.Enable true false }

pub a_measurement_request : heard (action_frame (0 ∷ 0 ∷ 7 ∷ asked 1)) ≡ to_own (action (requests 7 (asks 1 ∷ [])))
unfolding frame_means header_means management_means address_means foreign_header foreign_address to_all checked action_means opens_with measurements_in listed next_in required passing handing elements_in elements_after request_means used
a_measurement_request = refl

-- a report of "incapable"
abbrev unable : ℕ → List ℕ
unable token = 39 ∷ 3 ∷ token ∷ 2 ∷ 1 ∷ []

abbrev says_unable : ℕ → Report
says_unable token = record { token = token; kind = 1; matter = Reports.Matter.NotMeasured Reason.Incapable; densities = no_densities }

pub a_measurement_report : heard (action_frame (0 ∷ 1 ∷ 7 ∷ unable 1)) ≡ to_own (action (reports 7 (says_unable 1 ∷ [])))
unfolding frame_means header_means management_means address_means foreign_header foreign_address to_all checked action_means opens_with measurements_in listed next_in required passing handing elements_in elements_after report_means
a_measurement_report = refl

pub a_tpc_request : heard (action_frame (0 ∷ 2 ∷ 7 ∷ 34 ∷ 0 ∷ [])) ≡ to_own (action (tpc_request 7))
unfolding frame_means header_means management_means address_means foreign_header foreign_address to_all checked action_means opens_with single required nothing_left passing handing elements_in elements_after tpc_request_means fixed
a_tpc_request = refl

-- 20 dBm, and a margin of −1 dB
pub a_tpc_report : heard (action_frame (0 ∷ 3 ∷ 0 ∷ 35 ∷ 2 ∷ 20 ∷ 255 ∷ []))
    ≡ to_own (action (tpc_report 0 (record { power = pos 20; margin = negsuc 0 })))
unfolding frame_means header_means management_means address_means foreign_header foreign_address to_all checked action_means opens_with single required nothing_left passing handing elements_in elements_after tpc_report_means fixed
a_tpc_report = refl

-- a switch to channel 44, by its count
abbrev switched : ℕ → List ℕ
switched count = action_frame (0 ∷ 4 ∷ 37 ∷ 3 ∷ 1 ∷ 44 ∷ count ∷ [])

abbrev to_switch : ℕ → ChannelSwitch
to_switch count = record { mode = 1; channel = 44; count = count }

pub a_switch : (count : ℕ) → heard (switched count) ≡ to_own (action (switch (to_switch count)))
unfolding frame_means header_means management_means address_means foreign_header foreign_address to_all checked action_means opens_with single required nothing_left passing handing elements_in elements_after switch_means fixed
a_switch count = refl

-- ---- told apart

-- frames that differ in the count are read as different records
pub count_counts : (m n : ℕ) → heard (switched m) ≡ heard (switched n) → m ≡ n
count_counts m n e =
    let g = sym (a_switch m) ∙ e ∙ a_switch n in
    let h : ◌≡◌ {A = Sent} (record { to_all = false; kind = action (switch (to_switch m)) }) (record { to_all = false; kind = action (switch (to_switch n)) }) = cc in
    let k = ap (λ (s : Sent). s.kind) h in
    let r : to_switch m ≡ to_switch n = cc in
    ap (λ (s : ChannelSwitch). s.count) r

-- one element, two, or three
pub two_requests : heard (action_frame ((0 ∷ 0 ∷ 7 ∷ []) ++ asked 5 ++ asked 1)) ≡ to_own (action (requests 7 (asks 5 ∷ asks 1 ∷ [])))
unfolding frame_means header_means management_means address_means foreign_header foreign_address to_all checked action_means opens_with measurements_in listed next_in required passing handing elements_in elements_after request_means used
two_requests = refl

pub three_requests : heard (action_frame ((0 ∷ 0 ∷ 7 ∷ []) ++ asked 5 ++ asked 1 ++ asked 3))
    ≡ to_own (action (requests 7 (asks 5 ∷ asks 1 ∷ asks 3 ∷ [])))
unfolding frame_means header_means management_means address_means foreign_header foreign_address to_all checked action_means opens_with measurements_in listed next_in required passing handing elements_in elements_after request_means used
three_requests = refl

-- by index: the last, one past it, and one that is no report
module _ (i : ℕ) where
  of_three : element_of request_in i (heard (action_frame ((0 ∷ 0 ∷ 7 ∷ []) ++ asked 5 ++ asked 1 ++ asked 3)))
      ≡ nth i (asks 5 ∷ asks 1 ∷ asks 3 ∷ [])
  unfolding element_of
  of_three = simp three_requests

pub third_request : element_of request_in 2 (heard (action_frame ((0 ∷ 0 ∷ 7 ∷ []) ++ asked 5 ++ asked 1 ++ asked 3))) ≡ Ok (asks 3)
third_request = of_three 2 ∙ unfold nth in refl

pub no_fourth : element_of request_in 3 (heard (action_frame ((0 ∷ 0 ∷ 7 ∷ []) ++ asked 5 ++ asked 1 ++ asked 3))) ≡ Err Refusal.Impossible
no_fourth = of_three 3 ∙ unfold nth in refl

pub no_report_lem : element_of report_in 0 (heard (action_frame ((0 ∷ 0 ∷ 7 ∷ []) ++ asked 5 ++ asked 1))) ≡ Err Refusal.Impossible
unfolding element_of
no_report_lem = simp two_requests

-- a token used twice: the second element is at fault, after the header, the fixed fields and one element of five octets
pub used_twice : heard (action_frame ((0 ∷ 0 ∷ 7 ∷ []) ++ asked 5 ++ asked 5)) ≡ Err (fault_at 32 Refusal.Repeated)
unfolding frame_means header_means management_means address_means foreign_header foreign_address to_all checked action_means opens_with measurements_in listed next_in required passing handing elements_in elements_after request_means used
used_twice = refl

-- two Quiet elements of a beacon: both are kept, in their order
abbrev quietly : ℕ → List ℕ
quietly count = 40 ∷ 6 ∷ count ∷ 0 ∷ 10 ∷ 0 ∷ 20 ∷ 0 ∷ []

abbrev is_quiet : ℕ → Quiet
is_quiet count = record { count = count; period = 0; duration = 10; offset = 20 }

pub two_quiets : heard (beacon_frame (quietly 3 ++ quietly 5))
    ≡ to_own (beacon (tells (elementless 0 1) (is_quiet 3 ∷ is_quiet 5 ∷ [])))
unfolding frame_means header_means management_means address_means foreign_header foreign_address to_all checked beacon_means says takes element_means elements_in elements_after quiet_means fixed
two_quiets = refl

-- the same frame to all ones is told from one to the station
pub to_all_lem : heard (frame 208 (replicate 6 255) (0 ∷ 2 ∷ 7 ∷ 34 ∷ 0 ∷ [])) ≡ Ok (record { to_all = true; kind = action (tpc_request 7) })
unfolding frame_means header_means management_means address_means foreign_header foreign_address to_all checked action_means opens_with single required nothing_left passing handing elements_in elements_after tpc_request_means fixed
to_all_lem = refl

-- ---- in an IBSS: frames from a member, by octet 0, SA and elements

abbrev member : List ℕ
member = 2 ∷ 0 ∷ 0 ∷ 0 ∷ 0 ∷ 7 ∷ []

abbrev sent_by : List ℕ → ℕ → List ℕ → List ℕ
sent_by from first elements = (first ∷ 0 ∷ 0 ∷ 0 ∷ []) ++ own ++ from ++ master ++ (0 ∷ 0 ∷ (replicate 8 0 ++ (100 ∷ 0 ∷ 1 ∷ 0 ∷ elements)))

abbrev heard_in_ibss : List ℕ → Placed SentInIbss
heard_in_ibss f = ibss_frame_means own master 100 f

-- element 41, of which interval 0 is forbidden
abbrev naming : ℕ → List ℕ
naming recovery = 41 ∷ 7 ∷ 2 ∷ 0 ∷ 0 ∷ 0 ∷ 0 ∷ 9 ∷ recovery ∷ []

pub names_owner : heard_in_ibss (sent_by member 128 (naming 3))
    ≡ Ok
    (record {
      sender = member;
      sent = record { to_all = false; kind = beacon (tells (elementless 0 1) []) };
      dfs = Some (record { owner = master; recovery = 3; pairs = [] });
    })
unfolding ibss_frame_means header_means management_means address_means foreign_header foreign_address to_all checked ibss_beacon_means says takes_in_ibss elements_in elements_after dfs_means
names_owner = refl

pub no_interval : heard_in_ibss (sent_by member 128 (naming 0)) ≡ Err (fault_at 36 Refusal.ForbiddenValue)
unfolding ibss_frame_means header_means management_means address_means foreign_header foreign_address to_all checked ibss_beacon_means says takes_in_ibss elements_in elements_after dfs_means
no_interval = refl

-- in a probe response it is skipped
pub probe_skips : heard_in_ibss (sent_by member 80 (naming 0))
    ≡ Ok (record { sender = member; sent = record { to_all = false; kind = probe_response (tells (elementless 0 1) []) }; dfs = None })
unfolding ibss_frame_means header_means management_means address_means foreign_header foreign_address to_all checked beacon_means says takes element_means elements_in elements_after
probe_skips = refl

-- a group sends nothing, and 01 hears no member but the AP
pub from_group : heard_in_ibss (sent_by (3 ∷ 0 ∷ 0 ∷ 0 ∷ 0 ∷ 7 ∷ []) 128 []) ≡ Err (fault_nowhere Refusal.ForeignAddress)
unfolding ibss_frame_means header_means management_means address_means foreign_header foreign_address to_all checked
from_group = refl

pub from_member : heard (sent_by member 128 []) ≡ Err (fault_nowhere Refusal.ForeignAddress)
unfolding frame_means header_means management_means address_means foreign_header foreign_address to_all checked
from_member = refl
