-- Each promise of the frame layer leaves one outcome: headers, beacons, action bodies, measurement bodies and frames.
-- Assumes nothing.
use mathlib.Core.Path.{◌≡◌}
use borrow.Fn.Kinds.{Dens, res_t, ended_of}
use contract.Lifetimes.{Lfts}
use denote.Triple.Clauses.{AtExit}
use Rattle.action.proofs.forbids_token as ForbidsToken
use Rattle.action.proofs.«open» as Open
use Rattle.single_body.proofs.kinds.Kind.fixed_fields as SingleKindFixedFields
use Rattle.single_body.proofs.kinds.Kind.id as SingleKindId
use Rattle.single_body.proofs.read as SingleBodyRead
use Rattle.single_body.proofs.write_channel_switch as WriteChannelSwitch
use Rattle.single_body.proofs.write_tpc_report as WriteTpcReport
use Rattle.single_body.proofs.write_tpc_request as WriteTpcRequest
use Rattle.beacon.proofs.held_power as HeldPower
use Rattle.beacon.proofs.read as BeaconRead
use Rattle.frame.proofs.dfs_pair_at as DfsPairAt
use Rattle.frame.proofs.read as FrameRead
use Rattle.frame.proofs.read_body as ReadBody
use Rattle.frame.proofs.read_in_ibss as ReadInIbss
use Rattle.frame.proofs.read_request as ReadRequest
use Rattle.frame.proofs.report_at as ReportAt
use Rattle.frame.proofs.request_at as RequestAt
use Rattle.frame.proofs.request_in as RequestIn
use Rattle.header.proofs.are_same as AreSame
use Rattle.header.proofs.body as HeaderBody
use Rattle.header.proofs.management.SubtypeTryFromU8.try_from as SubtypeTryFrom
use Rattle.header.proofs.read as HeaderRead
use Rattle.header.proofs.read_address as HeaderReadAddress
use Rattle.header.proofs.read_management as HeaderReadManagement
use Rattle.header.proofs.receiver as HeaderReceiver
use Rattle.header.proofs.sender as HeaderSender
use Rattle.measurement_body.proofs.reports.append as ReportsAppend
use Rattle.measurement_body.proofs.requests.append as RequestsAppend
use Rattle.measurement_body.proofs.kinds.Kind.action as KindAction
use Rattle.measurement_body.proofs.kinds.Kind.has_tokens_once as KindHasTokensOnce
use Rattle.measurement_body.proofs.kinds.Kind.id as KindId
use Rattle.measurement_body.proofs.survey as Survey
use Rattle.answer.specs.Outcomes.{OneResult, OneOutcome}
use Rattle.claims.proofs.Same.{once, written_once}

pub subtype_try_from : OneResult 0 SubtypeTryFrom.Kinds.ps SubtypeTryFrom.Kinds.r SubtypeTryFrom.Reads.Post
subtype_try_from κs a e f x y p q = once p q

pub header_read_management : OneResult 1 HeaderReadManagement.Kinds.ps HeaderReadManagement.Kinds.r HeaderReadManagement.Reads.Post
header_read_management κs a e f x y p q = once p q

pub header_read_address : OneResult 1 HeaderReadAddress.Kinds.ps HeaderReadAddress.Kinds.r HeaderReadAddress.Reads.Post
header_read_address κs a e f x y p q = once p q

-- a part of the frame is lent: its octets are the same
pub header_body : (κs : Lfts 1) (a : Dens κs HeaderBody.Kinds.ps) (e f : AtExit (ended_of 1 HeaderBody.Kinds.ps HeaderBody.Kinds.r) κs) (x y : (res_t HeaderBody.Kinds.r κs).Denot)
    → HeaderBody.Reads.Post κs a x e → HeaderBody.Reads.Post κs a y f → x.now ≡ y.now
header_body κs a e f x y p q = once p q

pub header_are_same : OneResult 0 AreSame.Kinds.ps AreSame.Kinds.r AreSame.Reads.Post
header_are_same κs a e f x y p q = once p q

pub header_receiver : OneResult 1 HeaderReceiver.Kinds.ps HeaderReceiver.Kinds.r HeaderReceiver.Reads.Post
header_receiver κs a e f x y p q = once p q

pub header_sender : OneResult 1 HeaderSender.Kinds.ps HeaderSender.Kinds.r HeaderSender.Reads.Post
header_sender κs a e f x y p q = once p q

pub header_read : OneResult 1 HeaderRead.Kinds.ps HeaderRead.Kinds.r HeaderRead.Reads.Post
header_read κs a e f x y p q = once p q

pub power_to_octets : OneResult 0 HeldPower.Kinds.ps HeldPower.Kinds.r HeldPower.Reads.Post
power_to_octets κs a e f x y p q = once p q

pub beacon_read : OneResult 1 BeaconRead.Kinds.ps BeaconRead.Kinds.r BeaconRead.Reads.Post
beacon_read κs a e f x y p q = once p q

pub forbids_token_lem : OneResult 0 ForbidsToken.Kinds.ps ForbidsToken.Kinds.r ForbidsToken.Reads.Post
forbids_token_lem κs a e f x y p q = once p q

pub body_opening : OneResult 1 Open.Kinds.ps Open.Kinds.r Open.Reads.Post
body_opening κs a e f x y p q = once p q

pub single_body_read : OneResult 1 SingleBodyRead.Kinds.ps SingleBodyRead.Kinds.r SingleBodyRead.Reads.Post
single_body_read κs a e f x y p q = once p q

pub single_kind_id : OneResult 0 SingleKindId.Kinds.ps SingleKindId.Kinds.r SingleKindId.Reads.Post
single_kind_id κs a e f x y p q = once p q

pub single_kind_fixed_fields : OneResult 0 SingleKindFixedFields.Kinds.ps SingleKindFixedFields.Kinds.r SingleKindFixedFields.Reads.Post
single_kind_fixed_fields κs a e f x y p q = once p q

pub write_tpc_request : OneOutcome 1 WriteTpcRequest.Kinds.ps WriteTpcRequest.Kinds.r WriteTpcRequest.Reads.Post (λ κs e. e.1.0.now)
write_tpc_request κs a e f x y p q = written_once p q

pub write_tpc_report : OneOutcome 1 WriteTpcReport.Kinds.ps WriteTpcReport.Kinds.r WriteTpcReport.Reads.Post (λ κs e. e.1.1.0.now)
write_tpc_report κs a e f x y p q = written_once p q

pub write_channel_switch : OneOutcome 1 WriteChannelSwitch.Kinds.ps WriteChannelSwitch.Kinds.r WriteChannelSwitch.Reads.Post (λ κs e. e.1.0.now)
write_channel_switch κs a e f x y p q = written_once p q

pub kind_id : OneResult 0 KindId.Kinds.ps KindId.Kinds.r KindId.Reads.Post
kind_id κs a e f x y p q = once p q

pub kind_action : OneResult 0 KindAction.Kinds.ps KindAction.Kinds.r KindAction.Reads.Post
kind_action κs a e f x y p q = once p q

pub kind_has_tokens_once : OneResult 0 KindHasTokensOnce.Kinds.ps KindHasTokensOnce.Kinds.r KindHasTokensOnce.Reads.Post
kind_has_tokens_once κs a e f x y p q = once p q

pub survey : OneResult 1 Survey.Kinds.ps Survey.Kinds.r Survey.Reads.Post
survey κs a e f x y p q = once p q

pub requests_append : OneOutcome 1 RequestsAppend.Kinds.ps RequestsAppend.Kinds.r RequestsAppend.Reads.Post (λ κs e. e.0.now)
requests_append κs a e f x y p q = written_once p q

pub reports_append : OneOutcome 1 ReportsAppend.Kinds.ps ReportsAppend.Kinds.r ReportsAppend.Reads.Post (λ κs e. e.0.now)
reports_append κs a e f x y p q = written_once p q

pub read_body : OneResult 1 ReadBody.Kinds.ps ReadBody.Kinds.r ReadBody.Reads.Post
read_body κs a e f x y p q = once p q

pub frame_read : OneResult 1 FrameRead.Kinds.ps FrameRead.Kinds.r FrameRead.Reads.Post
frame_read κs a e f x y p q = once p q

pub frame_read_in_ibss : OneResult 1 ReadInIbss.Kinds.ps ReadInIbss.Kinds.r ReadInIbss.Reads.Post
frame_read_in_ibss κs a e f x y p q = once p q

pub frame_dfs_pair_at : OneResult 1 DfsPairAt.Kinds.ps DfsPairAt.Kinds.r DfsPairAt.Reads.Post
frame_dfs_pair_at κs a e f x y p q = once p q

pub request_at : OneResult 1 RequestAt.Kinds.ps RequestAt.Kinds.r RequestAt.Reads.Post
request_at κs a e f x y p q = once p q

pub request_in_lem : OneResult 1 RequestIn.Kinds.ps RequestIn.Kinds.r RequestIn.Reads.Post
request_in_lem κs a e f x y p q = once p q

pub read_request : OneResult 1 ReadRequest.Kinds.ps ReadRequest.Kinds.r ReadRequest.Reads.Post
read_request κs a e f x y p q = once p q

pub report_at : OneResult 1 ReportAt.Kinds.ps ReportAt.Kinds.r ReportAt.Reads.Post
report_at κs a e f x y p q = once p q
