-- Each promise of the elements' readers and writers leaves one outcome. Assumes nothing.
use Rattle.element.proofs.channel_switch.read as SwitchRead
use Rattle.element.proofs.channel_switch.write as SwitchWrite
use Rattle.element.proofs.ibss_dfs.pair_at as DfsPairAt
use Rattle.element.proofs.ibss_dfs.read as DfsRead
use Rattle.element.proofs.ibss_dfs.write as DfsWrite
use Rattle.measurement_element.proofs.measurement_report.read as ReportRead
use Rattle.measurement_element.proofs.measurement_report.refused as ReportRefused
use Rattle.measurement_element.proofs.measurement_report.write as ReportWrite
use Rattle.measurement_element.proofs.measurement_request.read as RequestRead
use Rattle.measurement_element.proofs.measurement_request.write as RequestWrite
use Rattle.element.proofs.power_constraint.read as PowerRead
use Rattle.element.proofs.power_constraint.write as PowerWrite
use Rattle.element.proofs.quiet.read as QuietRead
use Rattle.element.proofs.quiet.write as QuietWrite
use Rattle.element.proofs.tpc_report.read as TpcReportRead
use Rattle.element.proofs.tpc_report.write as TpcReportWrite
use Rattle.element.proofs.tpc_request.read as TpcRequestRead
use Rattle.element.proofs.tpc_request.write as TpcRequestWrite
use Rattle.element.proofs.channel_switch.may_write as SwitchMayWrite
use Rattle.measurement_element.proofs.measurement_request.is_clear as RequestIsClear
use Rattle.measurement_element.proofs.measurement_request.is_interpreted as RequestIsInterpreted
use Rattle.measurement_element.proofs.measurement_request.may_write as RequestMayWrite
use Rattle.measurement_element.proofs.measurement_request.octet_count as RequestOctetCount
use Rattle.measurement_element.proofs.measurement_request.to_octets as RequestToOctets
use Rattle.measurement_element.proofs.measurement_report.is_clear as ReportIsClear
use Rattle.measurement_element.proofs.measurement_report.is_interpreted as ReportIsInterpreted
use Rattle.measurement_element.proofs.measurement_report.may_write as ReportMayWrite
use Rattle.measurement_element.proofs.measurement_report.octet_count as ReportOctetCount
use Rattle.measurement_element.proofs.measurement_report.to_octets as ReportToOctets
use Rattle.measurement_element.proofs.span.Span.none as SpanNone
use Rattle.measurement_element.proofs.span.Span.to_octets as SpanToOctets
use Rattle.answer.specs.Outcomes.{OneResult, OneOutcome}
use Rattle.claims.proofs.Same.{once, written_once}

pub power_read : OneResult 1 PowerRead.Kinds.ps PowerRead.Kinds.r PowerRead.Reads.Post
power_read κs a e f x y p q = once p q

pub power_write : OneOutcome 1 PowerWrite.Kinds.ps PowerWrite.Kinds.r PowerWrite.Reads.Post (λ κs e. e.1.0.now)
power_write κs a e f x y p q = written_once p q

pub tpc_request_read : OneResult 1 TpcRequestRead.Kinds.ps TpcRequestRead.Kinds.r TpcRequestRead.Reads.Post
tpc_request_read κs a e f x y p q = once p q

pub tpc_request_write : OneOutcome 1 TpcRequestWrite.Kinds.ps TpcRequestWrite.Kinds.r TpcRequestWrite.Reads.Post (λ κs e. e.0.now)
tpc_request_write κs a e f x y p q = written_once p q

pub tpc_report_read : OneResult 1 TpcReportRead.Kinds.ps TpcReportRead.Kinds.r TpcReportRead.Reads.Post
tpc_report_read κs a e f x y p q = once p q

pub tpc_report_write : OneOutcome 1 TpcReportWrite.Kinds.ps TpcReportWrite.Kinds.r TpcReportWrite.Reads.Post (λ κs e. e.1.0.now)
tpc_report_write κs a e f x y p q = written_once p q

pub switch_read : OneResult 1 SwitchRead.Kinds.ps SwitchRead.Kinds.r SwitchRead.Reads.Post
switch_read κs a e f x y p q = once p q

pub switch_write : OneOutcome 1 SwitchWrite.Kinds.ps SwitchWrite.Kinds.r SwitchWrite.Reads.Post (λ κs e. e.1.0.now)
switch_write κs a e f x y p q = written_once p q

pub dfs_read : OneResult 1 DfsRead.Kinds.ps DfsRead.Kinds.r DfsRead.Reads.Post
dfs_read κs a e f x y p q = once p q

pub dfs_pair_at : OneResult 1 DfsPairAt.Kinds.ps DfsPairAt.Kinds.r DfsPairAt.Reads.Post
dfs_pair_at κs a e f x y p q = once p q

pub dfs_write : OneOutcome 2 DfsWrite.Kinds.ps DfsWrite.Kinds.r DfsWrite.Reads.Post (λ κs e. e.1.1.1.0.now)
dfs_write κs a e f x y p q = written_once p q

pub quiet_read : OneResult 1 QuietRead.Kinds.ps QuietRead.Kinds.r QuietRead.Reads.Post
quiet_read κs a e f x y p q = once p q

pub quiet_write : OneOutcome 1 QuietWrite.Kinds.ps QuietWrite.Kinds.r QuietWrite.Reads.Post (λ κs e. e.1.1.0.now)
quiet_write κs a e f x y p q = written_once p q

pub request_read : OneResult 1 RequestRead.Kinds.ps RequestRead.Kinds.r RequestRead.Reads.Post
request_read κs a e f x y p q = once p q

pub request_write : OneOutcome 1 RequestWrite.Kinds.ps RequestWrite.Kinds.r RequestWrite.Reads.Post (λ κs e. e.1.0.now)
request_write κs a e f x y p q = written_once p q

pub report_read : OneResult 1 ReportRead.Kinds.ps ReportRead.Kinds.r ReportRead.Reads.Post
report_read κs a e f x y p q = once p q

pub report_write : OneOutcome 1 ReportWrite.Kinds.ps ReportWrite.Kinds.r ReportWrite.Reads.Post (λ κs e. e.1.0.now)
report_write κs a e f x y p q = written_once p q

-- ---- what the elements' other functions say

pub switch_may_write : OneResult 0 SwitchMayWrite.Kinds.ps SwitchMayWrite.Kinds.r SwitchMayWrite.Reads.Post
switch_may_write κs a e f x y p q = once p q

pub request_is_clear : OneResult 1 RequestIsClear.Kinds.ps RequestIsClear.Kinds.r RequestIsClear.Reads.Post
request_is_clear κs a e f x y p q = once p q

pub request_is_interpreted : OneResult 0 RequestIsInterpreted.Kinds.ps RequestIsInterpreted.Kinds.r RequestIsInterpreted.Reads.Post
request_is_interpreted κs a e f x y p q = once p q

pub request_may_write : OneResult 0 RequestMayWrite.Kinds.ps RequestMayWrite.Kinds.r RequestMayWrite.Reads.Post
request_may_write κs a e f x y p q = once p q

pub request_octet_count : OneResult 0 RequestOctetCount.Kinds.ps RequestOctetCount.Kinds.r RequestOctetCount.Reads.Post
request_octet_count κs a e f x y p q = once p.0 q.0

pub request_to_octets : OneResult 0 RequestToOctets.Kinds.ps RequestToOctets.Kinds.r RequestToOctets.Reads.Post
request_to_octets κs a e f x y p q = once p.2 q.2

pub report_is_clear : OneResult 1 ReportIsClear.Kinds.ps ReportIsClear.Kinds.r ReportIsClear.Reads.Post
report_is_clear κs a e f x y p q = once p q

pub report_is_interpreted : OneResult 0 ReportIsInterpreted.Kinds.ps ReportIsInterpreted.Kinds.r ReportIsInterpreted.Reads.Post
report_is_interpreted κs a e f x y p q = once p q

pub report_may_write : OneResult 0 ReportMayWrite.Kinds.ps ReportMayWrite.Kinds.r ReportMayWrite.Reads.Post
report_may_write κs a e f x y p q = once p q

pub report_octet_count : OneResult 0 ReportOctetCount.Kinds.ps ReportOctetCount.Kinds.r ReportOctetCount.Reads.Post
report_octet_count κs a e f x y p q = once p.0 q.0

pub report_to_octets : OneResult 0 ReportToOctets.Kinds.ps ReportToOctets.Kinds.r ReportToOctets.Reads.Post
report_to_octets κs a e f x y p q = once p.2 q.2

pub report_refused : OneResult 0 ReportRefused.Kinds.ps ReportRefused.Kinds.r ReportRefused.Reads.Post
report_refused κs a e f x y p q = once p q

-- ---- where and when something is measured

pub span_none : OneResult 0 SpanNone.Kinds.ps SpanNone.Kinds.r SpanNone.Reads.Post
span_none κs a e f x y p q = once p q

pub span_to_octets : OneResult 0 SpanToOctets.Kinds.ps SpanToOctets.Kinds.r SpanToOctets.Reads.Post
span_to_octets κs a e f x y p q = once p q
