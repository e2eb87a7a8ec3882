-- Each promise of the boundary leaves one outcome: the number that is given back, and every octet of the lent buffer. Assumes nothing.
use mathlib.Core.Bool.{Bool}
use mathlib.Core.List.{List}
use mathlib.Core.Path.{◌≡◌, sym, ◌∙◌}
use Prim.Native.Nat.{ℕ}
use Rattle.answer.specs.Checks.{Outcome}
use Rattle.station.specs.declared.Station.{Station}
use Rattle.boundary.specs.Codes.{Put, Given}
use Rattle.boundary.specs.Stations.{OnStation}
use Rattle.boundary.proofs.reading.oneiralth_read_frame as ReadFrame
use Rattle.boundary.proofs.reading.oneiralth_fault_offset as FaultOffset
use Rattle.boundary.proofs.reading.oneiralth_read_quiet as ReadQuiet
use Rattle.boundary.proofs.reading.oneiralth_read_request as ReadRequest
use Rattle.boundary.proofs.reading.oneiralth_read_report as ReadReport
use Rattle.boundary.proofs.ibss.oneiralth_read_ibss_frame as ReadIbssFrame
use Rattle.boundary.proofs.ibss.oneiralth_ibss_fault_offset as IbssFaultOffset
use Rattle.boundary.proofs.ibss.oneiralth_read_ibss_quiet as ReadIbssQuiet
use Rattle.boundary.proofs.ibss.oneiralth_read_dfs_pair as ReadDfsPair
use Rattle.boundary.proofs.elements.oneiralth_write_power_constraint as WritePowerConstraint
use Rattle.boundary.proofs.elements.oneiralth_write_tpc_request as WriteTpcRequest
use Rattle.boundary.proofs.elements.oneiralth_write_tpc_report as WriteTpcReport
use Rattle.boundary.proofs.elements.oneiralth_write_channel_switch as WriteChannelSwitch
use Rattle.boundary.proofs.elements.oneiralth_write_quiet as WriteQuiet
use Rattle.boundary.proofs.elements.oneiralth_write_ibss_dfs as WriteIbssDfs
use Rattle.boundary.proofs.elements.oneiralth_write_request as WriteRequest
use Rattle.boundary.proofs.elements.oneiralth_write_report as WriteReport
use Rattle.boundary.proofs.bodies.oneiralth_write_tpc_request_body as WriteTpcRequestBody
use Rattle.boundary.proofs.bodies.oneiralth_write_tpc_report_body as WriteTpcReportBody
use Rattle.boundary.proofs.bodies.oneiralth_write_channel_switch_body as WriteChannelSwitchBody
use Rattle.boundary.proofs.bodies.oneiralth_append_request as AppendRequest
use Rattle.boundary.proofs.bodies.oneiralth_append_report as AppendReport
use Rattle.boundary.proofs.replies.oneiralth_reply_to_tpc_request as ReplyToTpcRequest
use Rattle.boundary.proofs.replies.oneiralth_reply_to_measurement_request as ReplyToMeasurementRequest
use Rattle.boundary.proofs.stations.oneiralth_station_size as StationSize
use Rattle.boundary.proofs.stations.oneiralth_station_start as StationStart
use Rattle.boundary.proofs.stations.oneiralth_station_take as StationTake
use Rattle.boundary.proofs.stations.oneiralth_station_advance as StationAdvance
use Rattle.boundary.proofs.stations.oneiralth_station_ask as StationAsk
use Rattle.boundary.proofs.stations.oneiralth_station_reply_to_tpc_request as StationReplyToTpcRequest
use Rattle.boundary.proofs.stations.oneiralth_station_reply_to_measurement_request as StationReplyToMeasurementRequest
use Rattle.boundary.proofs.numbers.oneiralth_busy_fraction as BusyFraction
use Rattle.boundary.proofs.numbers.oneiralth_rpi_densities as RpiDensities
use Rattle.boundary.proofs.numbers.oneiralth_centre as Centre
use Rattle.boundary.proofs.lists.oneiralth_list as List
use Rattle.answer.specs.Outcomes.{OneResult, OneOutcome}

put_once : {may : Bool} {os : List ℕ} {at : ℕ} {buffer : List ℕ} {code code' : ℕ} {exit exit' : List ℕ} → Put may os at buffer code exit → Put may os at buffer code' exit' → (code ≡ code') × (exit ≡ exit')
put_once p q = (p.answers ∙ sym q.answers, p.leaves ∙ sym q.leaves)

given_once : {o : Outcome (List ℕ)} {buffer : List ℕ} {code code' : ℕ} {exit exit' : List ℕ} → Given o buffer code exit → Given o buffer code' exit' → (code ≡ code') × (exit ≡ exit')
given_once p q = (p.answers ∙ sym q.answers, p.leaves ∙ sym q.leaves)

on_station_once : {o : Outcome Station} {memory : List ℕ} {code code' : ℕ} {exit exit' : List ℕ} → OnStation o memory code exit → OnStation o memory code' exit' → (code ≡ code') × (exit ≡ exit')
on_station_once p q = (p.answers ∙ sym q.answers, p.leaves ∙ sym q.leaves)

pub boundary_read_frame : OneOutcome 2 ReadFrame.Kinds.ps ReadFrame.Kinds.r ReadFrame.Reads.Post (λ κs e. e.1.1.1.1.0.now)
boundary_read_frame κs a e f x y p q = given_once p q

pub boundary_fault_offset : OneResult 1 FaultOffset.Kinds.ps FaultOffset.Kinds.r FaultOffset.Reads.Post
boundary_fault_offset κs a e f x y p q = p ∙ sym q

pub boundary_read_quiet : OneOutcome 2 ReadQuiet.Kinds.ps ReadQuiet.Kinds.r ReadQuiet.Reads.Post (λ κs e. e.1.1.1.1.1.0.now)
boundary_read_quiet κs a e f x y p q = given_once p q

pub boundary_read_request : OneOutcome 2 ReadRequest.Kinds.ps ReadRequest.Kinds.r ReadRequest.Reads.Post (λ κs e. e.1.1.1.1.1.0.now)
boundary_read_request κs a e f x y p q = given_once p q

pub boundary_read_report : OneOutcome 2 ReadReport.Kinds.ps ReadReport.Kinds.r ReadReport.Reads.Post (λ κs e. e.1.1.1.1.1.0.now)
boundary_read_report κs a e f x y p q = given_once p q

pub boundary_read_ibss_frame : OneOutcome 2 ReadIbssFrame.Kinds.ps ReadIbssFrame.Kinds.r ReadIbssFrame.Reads.Post (λ κs e. e.1.1.1.1.0.now)
boundary_read_ibss_frame κs a e f x y p q = given_once p q

pub boundary_ibss_fault_offset : OneResult 1 IbssFaultOffset.Kinds.ps IbssFaultOffset.Kinds.r IbssFaultOffset.Reads.Post
boundary_ibss_fault_offset κs a e f x y p q = p ∙ sym q

pub boundary_read_ibss_quiet : OneOutcome 2 ReadIbssQuiet.Kinds.ps ReadIbssQuiet.Kinds.r ReadIbssQuiet.Reads.Post (λ κs e. e.1.1.1.1.1.0.now)
boundary_read_ibss_quiet κs a e f x y p q = given_once p q

pub boundary_read_dfs_pair : OneOutcome 2 ReadDfsPair.Kinds.ps ReadDfsPair.Kinds.r ReadDfsPair.Reads.Post (λ κs e. e.1.1.1.1.1.0.now)
boundary_read_dfs_pair κs a e f x y p q = given_once p q

pub boundary_write_power_constraint : OneOutcome 1 WritePowerConstraint.Kinds.ps WritePowerConstraint.Kinds.r WritePowerConstraint.Reads.Post (λ κs e. e.1.0.now)
boundary_write_power_constraint κs a e f x y p q = put_once p q

pub boundary_write_tpc_request : OneOutcome 1 WriteTpcRequest.Kinds.ps WriteTpcRequest.Kinds.r WriteTpcRequest.Reads.Post (λ κs e. e.0.now)
boundary_write_tpc_request κs a e f x y p q = put_once p q

pub boundary_write_tpc_report : OneOutcome 1 WriteTpcReport.Kinds.ps WriteTpcReport.Kinds.r WriteTpcReport.Reads.Post (λ κs e. e.1.1.0.now)
boundary_write_tpc_report κs a e f x y p q = put_once p q

pub boundary_write_channel_switch : OneOutcome 1 WriteChannelSwitch.Kinds.ps WriteChannelSwitch.Kinds.r WriteChannelSwitch.Reads.Post (λ κs e. e.1.1.1.0.now)
boundary_write_channel_switch κs a e f x y p q = put_once p q

pub boundary_write_quiet : OneOutcome 1 WriteQuiet.Kinds.ps WriteQuiet.Kinds.r WriteQuiet.Reads.Post (λ κs e. e.1.1.1.1.1.0.now)
boundary_write_quiet κs a e f x y p q = put_once p q

pub boundary_write_ibss_dfs : OneOutcome 2 WriteIbssDfs.Kinds.ps WriteIbssDfs.Kinds.r WriteIbssDfs.Reads.Post (λ κs e. e.1.1.1.0.now)
boundary_write_ibss_dfs κs a e f x y p q = put_once p q

pub boundary_write_request : OneOutcome 1 WriteRequest.Kinds.ps WriteRequest.Kinds.r WriteRequest.Reads.Post (λ κs e. e.1.1.1.1.1.1.1.1.0.now)
boundary_write_request κs a e f x y p q = put_once p q

pub boundary_write_report : OneOutcome 1 WriteReport.Kinds.ps WriteReport.Kinds.r WriteReport.Reads.Post (λ κs e. e.1.1.1.1.1.1.1.1.0.now)
boundary_write_report κs a e f x y p q = put_once p q

pub boundary_write_tpc_request_body : OneOutcome 1 WriteTpcRequestBody.Kinds.ps WriteTpcRequestBody.Kinds.r WriteTpcRequestBody.Reads.Post (λ κs e. e.1.0.now)
boundary_write_tpc_request_body κs a e f x y p q = put_once p q

pub boundary_write_tpc_report_body : OneOutcome 1 WriteTpcReportBody.Kinds.ps WriteTpcReportBody.Kinds.r WriteTpcReportBody.Reads.Post (λ κs e. e.1.1.1.0.now)
boundary_write_tpc_report_body κs a e f x y p q = put_once p q

pub boundary_write_channel_switch_body : OneOutcome 1 WriteChannelSwitchBody.Kinds.ps WriteChannelSwitchBody.Kinds.r WriteChannelSwitchBody.Reads.Post (λ κs e. e.1.1.1.0.now)
boundary_write_channel_switch_body κs a e f x y p q = put_once p q

pub boundary_append_request : OneOutcome 1 AppendRequest.Kinds.ps AppendRequest.Kinds.r AppendRequest.Reads.Post (λ κs e. e.0.now)
boundary_append_request κs a e f x y p q = put_once p q

pub boundary_append_report : OneOutcome 1 AppendReport.Kinds.ps AppendReport.Kinds.r AppendReport.Reads.Post (λ κs e. e.0.now)
boundary_append_report κs a e f x y p q = put_once p q

pub boundary_reply_to_tpc_request : OneOutcome 2 ReplyToTpcRequest.Kinds.ps ReplyToTpcRequest.Kinds.r ReplyToTpcRequest.Reads.Post (λ κs e. e.1.1.1.1.1.0.now)
boundary_reply_to_tpc_request κs a e f x y p q = given_once p q

pub boundary_reply_to_measurement_request : OneOutcome 2 ReplyToMeasurementRequest.Kinds.ps ReplyToMeasurementRequest.Kinds.r ReplyToMeasurementRequest.Reads.Post (λ κs e. e.1.1.1.1.1.1.1.1.1.1.1.1.1.1.1.0.now)
boundary_reply_to_measurement_request κs a e f x y p q = given_once p q

pub boundary_station_size : OneResult 0 StationSize.Kinds.ps StationSize.Kinds.r StationSize.Reads.Post
boundary_station_size κs a e f x y p q = p ∙ sym q

pub boundary_station_start : OneOutcome 1 StationStart.Kinds.ps StationStart.Kinds.r StationStart.Reads.Post (λ κs e. e.1.1.1.1.0.now)
boundary_station_start κs a e f x y p q = on_station_once p q

pub boundary_station_take : OneOutcome 2 StationTake.Kinds.ps StationTake.Kinds.r StationTake.Reads.Post (λ κs e. e.0.now)
boundary_station_take κs a e f x y p q = on_station_once p q

pub boundary_station_advance : OneOutcome 1 StationAdvance.Kinds.ps StationAdvance.Kinds.r StationAdvance.Reads.Post (λ κs e. e.0.now)
boundary_station_advance κs a e f x y p q = on_station_once p q

pub boundary_station_ask : OneResult 1 StationAsk.Kinds.ps StationAsk.Kinds.r StationAsk.Reads.Post
boundary_station_ask κs a e f x y p q = p ∙ sym q

pub boundary_station_reply_to_tpc_request : OneOutcome 3 StationReplyToTpcRequest.Kinds.ps StationReplyToTpcRequest.Kinds.r StationReplyToTpcRequest.Reads.Post (λ κs e. e.1.1.1.1.0.now)
boundary_station_reply_to_tpc_request κs a e f x y p q = given_once p q

pub boundary_station_reply_to_measurement_request : OneOutcome 3 StationReplyToMeasurementRequest.Kinds.ps StationReplyToMeasurementRequest.Kinds.r StationReplyToMeasurementRequest.Reads.Post (λ κs e. e.1.1.1.1.1.1.1.1.1.1.1.1.1.0.now)
boundary_station_reply_to_measurement_request κs a e f x y p q = given_once p q

pub boundary_busy_fraction : OneResult 0 BusyFraction.Kinds.ps BusyFraction.Kinds.r BusyFraction.Reads.Post
boundary_busy_fraction κs a e f x y p q = p ∙ sym q

pub boundary_rpi_densities : OneOutcome 1 RpiDensities.Kinds.ps RpiDensities.Kinds.r RpiDensities.Reads.Post (λ κs e. e.1.1.1.1.1.1.1.1.1.0.now)
boundary_rpi_densities κs a e f x y p q = given_once p q

pub boundary_centre : OneResult 0 Centre.Kinds.ps Centre.Kinds.r Centre.Reads.Post
boundary_centre κs a e f x y p q = p ∙ sym q

pub boundary_list : OneOutcome 2 List.Kinds.ps List.Kinds.r List.Reads.Post (λ κs e. e.1.0.now)
boundary_list κs a e f x y p q = put_once p q
