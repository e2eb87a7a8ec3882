-- The calls on a station in octets (02, Eight) leave one outcome each: the answer, and every octet that is lent. Assumes nothing.
use Rattle.answer.specs.Outcomes.{OneResult, OneOutcome}
use Rattle.station_record.proofs.advance as RecordAdvance
use Rattle.station_record.proofs.ask as RecordAsk
use Rattle.station_record.proofs.read as RecordRead
use Rattle.station_record.proofs.start as RecordStart
use Rattle.station_record.proofs.take as RecordTake
use Rattle.claims.proofs.Same.{once}

pub record_start : OneOutcome 1 RecordStart.Kinds.ps RecordStart.Kinds.r RecordStart.Reads.Post (λ κs e. e.1.1.1.1.0.now)
record_start κs a e f x y p q = (once p.0 q.0, once p.1 q.1)

pub record_read : OneResult 1 RecordRead.Kinds.ps RecordRead.Kinds.r RecordRead.Reads.Post
record_read κs a e f x y p q = once p.0 q.0

pub record_take : OneOutcome 2 RecordTake.Kinds.ps RecordTake.Kinds.r RecordTake.Reads.Post (λ κs e. e.0.now)
record_take κs a e f x y p q = (once p.0 q.0, once p.1 q.1)

pub record_advance : OneOutcome 1 RecordAdvance.Kinds.ps RecordAdvance.Kinds.r RecordAdvance.Reads.Post (λ κs e. e.0.now)
record_advance κs a e f x y p q = (once p.0 q.0, once p.1 q.1)

pub record_ask : OneResult 1 RecordAsk.Kinds.ps RecordAsk.Kinds.r RecordAsk.Reads.Post
record_ask κs a e f x y p q = once p q
