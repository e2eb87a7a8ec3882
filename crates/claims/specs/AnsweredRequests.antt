-- What it is for a request to be answered (01, "Replies"): there is a reply, it is short, and a buffer that is long enough takes it.
use Rattle.std.specs.Prelude.{List, ◌≡◌, ℕ, ◌≤◌, length, Ok}
use borrow.Fn.Kinds.{Dens, ended_of}
use contract.Lifetimes.{Lfts}
use denote.Triple.Clauses.{AtExit}
use Rattle.answer.specs.Checks.{Outcome}
use Rattle.element.specs.declared.tpc_report.TpcReport.{TpcReport}
use Rattle.measured_report.specs.declared.Readings.{Readings}
use Rattle.measurement_element.specs.declared.measurement_request.Matter.{Matter}
use Rattle.octets.specs.Writing.{filled}
use Rattle.reply.proofs.to_measurement_request as ToMeasurementRequest
use Rattle.reply.proofs.to_tpc_request as ToTpcRequest

-- the longest reply: a header of 24 octets and an RPI histogram's body of 27
abbrev pub longest_reply : ℕ
longest_reply = 51

-- Enable elements get none (18)
abbrev pub IsEnable : Matter → Type 0
IsEnable (Matter.Enable q p) = Unit {0}
IsEnable (Matter.Measure s) = ⊥
IsEnable Matter.Uninterpreted = ⊥

-- ---- calls that the functions' own promises allow: the buffer as it was lent and as it was left, and the answer

abbrev pub TpcCall : (own ap f : List ℕ) → TpcReport → List ℕ → List ℕ → Outcome ℕ → Type 0
TpcCall own ap f report buffer exit answer =
    (κs : Lfts 2) × (a : Dens κs ToTpcRequest.Kinds.ps) × (e : AtExit (ended_of 2 ToTpcRequest.Kinds.ps ToTpcRequest.Kinds.r) κs)
    × ToTpcRequest.Reads.Post κs a answer e
    × (a.0.now ≡ f) × (a.1.0 ≡ own) × (a.1.1.0 ≡ ap) × (a.1.1.1.0 ≡ report)
    × (a.1.1.1.1.0.now ≡ buffer) × (e.1.1.1.1.0.now ≡ exit)

abbrev pub MeasurementCall : (own ap f : List ℕ) → ℕ → ℕ → Readings → List ℕ → List ℕ → Outcome ℕ → Type 0
MeasurementCall own ap f clock index readings buffer exit answer =
    (κs : Lfts 2) × (a : Dens κs ToMeasurementRequest.Kinds.ps)
    × (e : AtExit (ended_of 2 ToMeasurementRequest.Kinds.ps ToMeasurementRequest.Kinds.r) κs)
    × ToMeasurementRequest.Reads.Post κs a answer e
    × (a.0.now ≡ f) × (a.1.0 ≡ own) × (a.1.1.0 ≡ ap) × (a.1.1.1.0 ≡ clock) × (a.1.1.1.1.0 ≡ index)
    × (a.1.1.1.1.1.0 ≡ readings)
    × (a.1.1.1.1.1.1.0.now ≡ buffer) × (e.1.1.1.1.1.1.0.now ≡ exit)

-- ---- a reply that is given, and that every such call on a buffer of as many octets or more puts in front of it, with the bytes past it as they were

pub record Answered (o : Outcome (List ℕ)) (Calls : List ℕ → List ℕ → Outcome ℕ → Type 0) : Type 0 where
  pub octets : List ℕ
  pub given : o ≡ Ok octets
  pub short : length octets ≤ longest_reply
  pub put : (buffer exit : List ℕ) (answer : Outcome ℕ) → Calls buffer exit answer → length octets ≤ length buffer
      → (answer ≡ Ok (length octets)) × (exit ≡ filled octets buffer)
