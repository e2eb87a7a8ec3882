-- Each promise of the leaves, `answer`, `octets`, `channel` and `fraction`, leaves one outcome. Assumes nothing.
use Rattle.answer.proofs.number as AnswerNumber
use Rattle.answer.proofs.Fault.at as FaultAt
use Rattle.answer.proofs.Fault.nowhere as FaultNowhere
use Rattle.answer.proofs.Refusal.number as RefusalNumber
use Rattle.answer.proofs.verdict_number as VerdictNumber
use Rattle.answer.proofs.verdict_offset as VerdictOffset
use Rattle.channel.proofs.centre as Centre
use Rattle.fraction.proofs.busy_fraction as BusyFraction
use Rattle.fraction.proofs.rpi_densities as RpiDensities
use Rattle.octets.proofs.address_at as AddressAt
use Rattle.octets.proofs.number16 as Number16
use Rattle.octets.proofs.number32 as Number32
use Rattle.octets.proofs.number64 as Number64
use Rattle.octets.proofs.octet_at as OctetAt
use Rattle.octets.proofs.octets16 as Octets16
use Rattle.octets.proofs.octets32 as Octets32
use Rattle.octets.proofs.octets64 as Octets64
use Rattle.octets.proofs.from_signed as FromSigned
use Rattle.octets.proofs.to_signed as ToSigned
use Rattle.octets.proofs.put as Put
use Rattle.answer.specs.Outcomes.{OneResult, OneOutcome}
use Rattle.claims.proofs.Same.{once, written_once}

pub refusal_number : OneResult 0 RefusalNumber.Kinds.ps RefusalNumber.Kinds.r RefusalNumber.Reads.Post
refusal_number κs a e f x y p q = once p q

pub answer_number_lem : OneResult 0 AnswerNumber.Kinds.ps AnswerNumber.Kinds.r AnswerNumber.Reads.Post
answer_number_lem κs a e f x y p q = once p q

pub fault_at_lem : OneResult 0 FaultAt.Kinds.ps FaultAt.Kinds.r FaultAt.Reads.Post
fault_at_lem κs a e f x y p q = once p q

pub fault_nowhere_lem : OneResult 0 FaultNowhere.Kinds.ps FaultNowhere.Kinds.r FaultNowhere.Reads.Post
fault_nowhere_lem κs a e f x y p q = once p q

pub verdict_number_lem : OneResult 0 VerdictNumber.Kinds.ps VerdictNumber.Kinds.r VerdictNumber.Reads.Post
verdict_number_lem κs a e f x y p q = once p q

pub verdict_offset_lem : OneResult 0 VerdictOffset.Kinds.ps VerdictOffset.Kinds.r VerdictOffset.Reads.Post
verdict_offset_lem κs a e f x y p q = once p q

pub octet_at : OneResult 1 OctetAt.Kinds.ps OctetAt.Kinds.r OctetAt.Reads.Post
octet_at κs a e f x y p q = once p q

pub address_at : OneResult 1 AddressAt.Kinds.ps AddressAt.Kinds.r AddressAt.Reads.Post
address_at κs a e f x y p q = once p q

pub number16 : OneResult 1 Number16.Kinds.ps Number16.Kinds.r Number16.Reads.Post
number16 κs a e f x y p q = once p q

pub number32 : OneResult 1 Number32.Kinds.ps Number32.Kinds.r Number32.Reads.Post
number32 κs a e f x y p q = once p q

pub number64 : OneResult 1 Number64.Kinds.ps Number64.Kinds.r Number64.Reads.Post
number64 κs a e f x y p q = once p q

pub octets16 : OneResult 0 Octets16.Kinds.ps Octets16.Kinds.r Octets16.Reads.Post
octets16 κs a e f x y p q = once p q

pub octets32 : OneResult 0 Octets32.Kinds.ps Octets32.Kinds.r Octets32.Reads.Post
octets32 κs a e f x y p q = once p q

pub octets64 : OneResult 0 Octets64.Kinds.ps Octets64.Kinds.r Octets64.Reads.Post
octets64 κs a e f x y p q = once p q

pub to_signed : OneResult 0 ToSigned.Kinds.ps ToSigned.Kinds.r ToSigned.Reads.Post
to_signed κs a e f x y p q = once p q

pub from_signed : OneResult 0 FromSigned.Kinds.ps FromSigned.Kinds.r FromSigned.Reads.Post
from_signed κs a e f x y p q = once p q

pub centre : OneResult 0 Centre.Kinds.ps Centre.Kinds.r Centre.Reads.Post
centre κs a e f x y p q = once p q

pub busy_fraction : OneResult 0 BusyFraction.Kinds.ps BusyFraction.Kinds.r BusyFraction.Reads.Post
busy_fraction κs a e f x y p q = once p q

pub rpi_densities : OneResult 0 RpiDensities.Kinds.ps RpiDensities.Kinds.r RpiDensities.Reads.Post
rpi_densities κs a e f x y p q = once p.0 q.0

pub put : OneOutcome 2 Put.Kinds.ps Put.Kinds.r Put.Reads.Post (λ κs e. e.1.1.0.now)
put κs a e f x y p q = written_once p q
