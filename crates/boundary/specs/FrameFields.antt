-- A frame as its fields, one after the other at fixed places (docs/BOUNDARY.md). What a kind has not got is 0.
use Rattle.std.specs.Prelude.{Bool, List, [], ◌∷◌, ◌++◌, ℕ, Ok, Some, None, Option}
use Rattle.answer.specs.Checks.{Outcome, pick, and_then}
use Rattle.beacon.specs.Notices.{elementless, with_report, with_switch, held_power}
use Rattle.beacon.specs.declared.Notice.{Notice}
use Rattle.element.specs.ChannelSwitch.{switch_contents}
use Rattle.element.specs.TpcReport.{tpc_report_contents}
use Rattle.frame.specs.declared.Frame.{Frame}
use Rattle.frame.specs.declared.Received.{Received}
use Rattle.octets.specs.Numbers.{split}
use Rattle.boundary.specs.declared.frame_fields.Fields.{Fields}
use Rattle.element.specs.declared.tpc_report.TpcReport.{TpcReport}
use Rattle.element.specs.declared.channel_switch.ChannelSwitch.{ChannelSwitch}
use Rattle.answer.specs.Faults.{Placed, without_place}

-- 1 for yes
abbrev pub flag : Bool → ℕ
flag b = pick b 1 0

-- the kind's number, its token, how many measurement elements it has, and what it says of a notice's fields
abbrev pub fields : ℕ → ℕ → ℕ → Notice → Fields
fields kind token elements notice = record { kind = kind; token = token; elements = elements; notice = notice }

abbrev pub no_notice : Notice
no_notice = elementless 0 0

-- 0 beacon, 1 probe response, 2 Measurement Request, 3 Measurement Report, 4 TPC Request, 5 TPC Report, 6 Channel Switch Announcement
abbrev pub fields_of : Frame → Fields
fields_of (Frame.Beacon n) = fields 0 0 0 n
fields_of (Frame.ProbeResponse n) = fields 1 0 0 n
fields_of (Frame.MeasurementRequest token count) = fields 2 token count no_notice
fields_of (Frame.MeasurementReport token count) = fields 3 token count no_notice
fields_of (Frame.TpcRequest token) = fields 4 token 0 no_notice
fields_of (Frame.TpcReport token t) = fields 5 token 0 (with_report no_notice t)
fields_of (Frame.ChannelSwitch s) = fields 6 0 0 (with_switch no_notice s)

-- what may be absent: 1 and its contents where it is there, and zeros where it is not, as `held_power`
abbrev pub held_report : Option TpcReport → List ℕ
held_report None = 0 ∷ 0 ∷ 0 ∷ []
held_report (Some t) = 1 ∷ tpc_report_contents t

abbrev pub held_switch : Option ChannelSwitch → List ℕ
held_switch None = 0 ∷ 0 ∷ 0 ∷ 0 ∷ []
held_switch (Some s) = 1 ∷ switch_contents s

-- kind, to all ones, token; measurement elements (8), Quiet elements (8), timestamp (8), capability (2); constraint (2), TPC Report (3),
-- announcement (4)
unfoldable pub field_octets : Fields → Bool → ℕ → List ℕ
field_octets f to_all quiets =
    (f.kind ∷ flag to_all ∷ f.token ∷ [])
    ++ split 8 f.elements ++ split 8 quiets ++ split 8 f.notice.timestamp ++ split 2 f.notice.capability
    ++ held_power f.notice.power ++ held_report f.notice.report ++ held_switch f.notice.switch

-- of what was received
abbrev pub received_octets : Received → List ℕ
received_octets v = field_octets (fields_of v.frame) v.broadcast v.count

-- of what was received, or its refusal
abbrev pub frame_fields : Placed Received → Outcome (List ℕ)
frame_fields o = and_then (without_place o) (λ v. Ok (received_octets v))
