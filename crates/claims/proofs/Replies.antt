-- Replies: each promise leaves one outcome, and a refused reply puts no byte into its buffer (00, demand 1). Assumes nothing.
use Rattle.std.specs.Prelude.{Ok, Err}
use mathlib.Core.Bool.{true}
use mathlib.Core.List.{List}
use mathlib.Core.Path.{◌≡◌, refl, sym, ap, ◌∙◌}
use Prim.Native.Nat.{ℕ}
use Rattle.answer.specs.Checks.{Outcome, and_then}
use Rattle.answer.specs.declared.Refusal.{Refusal}
use Rattle.octets.specs.Writing.{wrote, after, left}
use Rattle.measured_report.proofs.report_for as ReportFor
use Rattle.reply.proofs.to_measurement_request as ToMeasurementRequest
use Rattle.reply.proofs.to_measurement_request_in_ibss as ToMeasurementRequestInIbss
use Rattle.reply.proofs.to_tpc_request as ToTpcRequest
use Rattle.reply.proofs.to_tpc_request_in_ibss as ToTpcRequestInIbss
use Rattle.reply.specs.Replies.{left_by, Replied}
use Rattle.answer.specs.Outcomes.{OneOutcome, OneResult}
use Rattle.claims.proofs.Same.{once}

pub replied_once : {o : Outcome (List ℕ)} {buffer : List ℕ} {x y : Outcome ℕ} {e f : List ℕ} → Replied o buffer x e → Replied o buffer y f → (x ≡ y) × (e ≡ f)
replied_once p q = (once p.answers q.answers, once p.leaves q.leaves)

pub report_for_lem : OneResult 0 ReportFor.Kinds.ps ReportFor.Kinds.r ReportFor.Reads.Post
report_for_lem κs a e f x y p q = once p q

pub to_tpc_request : OneOutcome 2 ToTpcRequest.Kinds.ps ToTpcRequest.Kinds.r ToTpcRequest.Reads.Post (λ κs e. e.1.1.1.1.0.now)
to_tpc_request κs a e f x y p q = replied_once p q

pub to_measurement_request : OneOutcome 2 ToMeasurementRequest.Kinds.ps ToMeasurementRequest.Kinds.r ToMeasurementRequest.Reads.Post (λ κs e. e.1.1.1.1.1.1.0.now)
to_measurement_request κs a e f x y p q = replied_once p q

pub to_tpc_request_in_ibss : OneOutcome 2 ToTpcRequestInIbss.Kinds.ps ToTpcRequestInIbss.Kinds.r ToTpcRequestInIbss.Reads.Post (λ κs e. e.1.1.1.1.0.now)
to_tpc_request_in_ibss κs a e f x y p q = replied_once p q

pub to_measurement_request_in_ibss : OneOutcome 2 ToMeasurementRequestInIbss.Kinds.ps ToMeasurementRequestInIbss.Kinds.r ToMeasurementRequestInIbss.Reads.Post
    (λ κs e. e.1.1.1.1.1.1.0.now)
to_measurement_request_in_ibss κs a e f x y p q = replied_once p q

-- ---- demand 1

refused_leaves : (o : Outcome (List ℕ)) (buffer : List ℕ) (r : Refusal) → and_then o (λ os. wrote true os 0 buffer) ≡ Err r → left_by o buffer ≡ buffer
unfolding left
refused_leaves (Err q) buffer r e = refl
refused_leaves (Ok os) buffer r e = ap (λ (o : Outcome ℕ). after o os 0 buffer) e

pub refused_reply : {o : Outcome (List ℕ)} {buffer exit : List ℕ} {x : Outcome ℕ} {r : Refusal} → Replied o buffer x exit → x ≡ Err r → exit ≡ buffer
refused_reply {o} {buffer} {r = r} w e = w.leaves ∙ refused_leaves o buffer r (sym w.answers ∙ e)
