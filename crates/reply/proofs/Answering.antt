-- From what is due to what is answered and left in the buffer. Assumes nothing.
use Rattle.std.specs.Prelude.{Ok, Err}
use mathlib.Core.Bool.{Bool, true, false, not}
use mathlib.Core.List.{List, [], ◌∷◌}
use mathlib.Core.Path.{◌≡◌, refl, sym, ap, ◌∙◌}
use Prim.Native.Nat.{ℕ, ◌≤◌}
use lib.ListN.{length}
use Rattle.answer.proofs.Judged.{never}
use Rattle.answer.specs.Checks.{Outcome, ◌⇒◌, checked, judged, and_then}
use Rattle.answer.specs.declared.Refusal.{Refusal}
use Rattle.element.specs.declared.tpc_report.TpcReport.{TpcReport}
use Rattle.frame.specs.Actions.{requests, reports, tpc_request, tpc_report, switch}
use Rattle.header.specs.Headers.{body_of}
use Rattle.header.specs.declared.address.Cell.{Cell}
use Rattle.measured_report.specs.Reports.{report_for}
use Rattle.measured_report.specs.declared.Readings.{Readings}
use Rattle.measurement_body.specs.Bodies.{longest_body, body_octets}
use Rattle.measurement_body.specs.Reports.{report_sort}
use Rattle.measurement_element.specs.MeasurementReport.{report_may}
use Rattle.measurement_element.specs.declared.measurement_report.Report.{Report}
use Rattle.measurement_element.specs.declared.measurement_request.Request.{Request}
use Rattle.octets.specs.Writing.{wrote, left, Written}
use Rattle.octets.proofs.Storing.{not_answer, left_not}
use Rattle.reply.specs.CodeTerms.Asked.{due_of}
use Rattle.reply.specs.Due.{Owed, asks, breaks, has_category, due_in}
use Rattle.reply.specs.Frames.{frame_to, error_return, old_sender}
use Rattle.reply.specs.Replies.{owed_to, tpc_answer_to, measurement_answer_to, tpc_reply_in, measurement_reply_in, left_by, Replied}
use Rattle.reply.specs.declared.due.Due.{Due}
use Rattle.reply.proofs.Owing.{returned, may_return}
use Rattle.single_body.specs.Singles.{tpc_report_body}

-- ---- what is answered, by what is due

module _ (cell : Cell) (own to bss f : List ℕ) where
  -- a broken body is the frame's own, as it is lent
  abbrev back : Outcome (List ℕ)
  back = Ok (frame_to own to bss (error_return (body_of f)))

  pub sent_back : {lent : List ℕ} → lent ≡ body_of f → Ok (frame_to own to bss (error_return lent)) ≡ back
  sent_back k = ap (λ (x : List ℕ). Ok (frame_to own to bss (error_return x))) k

  own_back : {body : List ℕ} → due_in cell own bss f ≡ Ok (breaks body) → back ≡ Ok (frame_to own to bss (error_return body))
  own_back e = ap (λ (x : List ℕ). Ok (frame_to own to bss (error_return x))) (sym (returned cell own bss f e).own_body)

  module _ (sent : to ≡ old_sender cell bss f) where
    -- to a TPC Request
    module _ (report : TpcReport) where
      abbrev pub tpc_due : Due → Outcome (List ℕ)
      tpc_due Due.Broken = back
      tpc_due (Due.Measurement token request) = Err Refusal.Impossible
      tpc_due (Due.Tpc token) = Ok (frame_to own to bss (tpc_report_body token report))

      pub tpc_replied : {d : Outcome Due} → d ≡ due_of 0 (due_in cell own bss f) → and_then d tpc_due ≡ tpc_reply_in cell own bss report f
      unfolding tpc_reply_in
      tpc_replied e =
          ap (λ (d : Outcome Due). and_then d tpc_due) e
          ∙ by (due_in cell own bss f) refl
          ∙ ap (λ (t : List ℕ). and_then (due_in cell own bss f) (owed_to own t bss (tpc_answer_to own t bss report))) sent
        where
          by : (o : Outcome Owed) → due_in cell own bss f ≡ o → and_then (due_of 0 o) tpc_due ≡ and_then o (owed_to own to bss (tpc_answer_to own to bss report))
          by (Err r) g = refl
          by (Ok (asks (requests token rs))) g = refl
          by (Ok (asks (reports token rs))) g = refl
          by (Ok (asks (tpc_request token))) g = refl
          by (Ok (asks (tpc_report token t))) g = refl
          by (Ok (asks (switch w))) g = refl
          by (Ok (breaks body)) g = own_back g

    -- to an element of a Measurement Request
    module _ (clock index : ℕ) (readings : Readings) where
      abbrev pub measurement_due : Due → Outcome (List ℕ)
      measurement_due Due.Broken = back
      measurement_due (Due.Measurement token request) =
          and_then (and_then request (report_for clock readings))
          (λ x. judged (not (report_may x) ⇒ Refusal.Impossible ∷ []) (frame_to own to bss (body_octets report_sort token (x ∷ []))))
      measurement_due (Due.Tpc token) = Err Refusal.Impossible

      pub measurement_replied : {d : Outcome Due} → d ≡ due_of index (due_in cell own bss f)
          → and_then d measurement_due ≡ measurement_reply_in cell own bss clock index readings f
      unfolding measurement_reply_in
      measurement_replied e =
          ap (λ (d : Outcome Due). and_then d measurement_due) e
          ∙ by (due_in cell own bss f) refl
          ∙ ap (λ (t : List ℕ). and_then (due_in cell own bss f) (owed_to own t bss (measurement_answer_to own t bss clock index readings))) sent
        where
          by : (o : Outcome Owed) → due_in cell own bss f ≡ o
              → and_then (due_of index o) measurement_due ≡ and_then o (owed_to own to bss (measurement_answer_to own to bss clock index readings))
          by (Err r) g = refl
          by (Ok (asks (requests token rs))) g = refl
          by (Ok (asks (reports token rs))) g = refl
          by (Ok (asks (tpc_request token))) g = refl
          by (Ok (asks (tpc_report token t))) g = refl
          by (Ok (asks (switch w))) g = refl
          by (Ok (breaks body)) g = own_back g

      -- by the report of the element
      pub report_replied : {d : Outcome Due} {token : ℕ} {request : Request} {report : Outcome Report}
          → d ≡ due_of index (due_in cell own bss f) → d ≡ Ok (Due.Measurement token (Ok request)) → report ≡ report_for clock readings request
          → and_then report (λ x. judged (not (report_may x) ⇒ Refusal.Impossible ∷ []) (frame_to own to bss (body_octets report_sort token (x ∷ []))))
          ≡ measurement_reply_in cell own bss clock index readings f
      report_replied {token = token} e g k =
          ap (λ (o : Outcome Report). and_then o (λ x. judged (not (report_may x) ⇒ Refusal.Impossible ∷ []) (frame_to own to bss (body_octets report_sort token (x ∷ []))))) k
          ∙ measurement_replied (sym g ∙ e)

-- a body that is owed back may be returned
pub broken : (cell : Cell) (own bss f : List ℕ) (i : ℕ) → Ok Due.Broken ≡ due_of i (due_in cell own bss f)
    → {lent : List ℕ} → lent ≡ body_of f → (length lent ≤ longest_body) × (has_category lent ≡ true)
broken cell own bss f i e {lent} k = by (due_in cell own bss f) refl e
  where
    by : (o : Outcome Owed) → due_in cell own bss f ≡ o → Ok Due.Broken ≡ due_of i o → (length lent ≤ longest_body) × (has_category lent ≡ true)
    by (Err r) g h = absurd (never (sym h))
    by (Ok (asks (requests token rs))) g h = absurd (cc h)
    by (Ok (asks (reports token rs))) g h = absurd (never (sym h))
    by (Ok (asks (tpc_request token))) g h = absurd (cc h)
    by (Ok (asks (tpc_report token t))) g h = absurd (never (sym h))
    by (Ok (asks (switch w))) g h = absurd (never (sym h))
    by (Ok (breaks body)) g h = may_return cell own bss f g k

-- ---- the answer, and the buffer

pub replied_refused : {o : Outcome (List ℕ)} {buffer : List ℕ} {q : Refusal} → Err q ≡ o → Replied o buffer (Err q) buffer
replied_refused {o} {buffer} e =
    record { answers = ap (λ (x : Outcome (List ℕ)). and_then x (λ os. wrote true os 0 buffer)) e; leaves = ap (λ (x : Outcome (List ℕ)). left_by x buffer) e }

pub replied_written : {o : Outcome (List ℕ)} {os buffer exit : List ℕ} {answer : Outcome ℕ} → Ok os ≡ o → Written true os 0 buffer answer exit → Replied o buffer answer exit
replied_written {buffer = buffer} e w =
    record {
      answers = w.answers ∙ ap (λ (x : Outcome (List ℕ)). and_then x (λ xs. wrote true xs 0 buffer)) e;
      leaves = w.leaves ∙ ap (λ (x : Outcome (List ℕ)). left_by x buffer) e;
    }

-- a record that may not be written is 16
pub replied_judged : {o : Outcome (List ℕ)} {os buffer exit : List ℕ} {answer : Outcome ℕ} (may : Bool) → judged (not may ⇒ Refusal.Impossible ∷ []) os ≡ o
    → Written may os 0 buffer answer exit → Replied o buffer answer exit
unfolding checked left
replied_judged true e w = replied_written e w
replied_judged {os = os} {buffer = buffer} false e w =
    record {
      answers = w.answers ∙ not_answer os 0 buffer refl ∙ ap (λ (x : Outcome (List ℕ)). and_then x (λ xs. wrote true xs 0 buffer)) e;
      leaves = w.leaves ∙ left_not os 0 buffer ∙ ap (λ (x : Outcome (List ℕ)). left_by x buffer) e;
    }
