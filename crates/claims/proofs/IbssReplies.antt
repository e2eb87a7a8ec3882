-- A reply in an IBSS is document 01's reply to the same frame from the AP, refusals too, but that it goes to whoever sent the frame (01, "Replies"; 02, Five).
-- Assumes nothing.
use Rattle.std.specs.Prelude.{Ok, Err}
use mathlib.Core.Bool.{Bool, true, false, not}
use mathlib.Core.List.{List, [], ◌∷◌, ◌++◌, append_assoc}
use mathlib.Core.Path.{◌≡◌, refl, sym, ap, ap₂, ◌∙◌}
use Prim.Native.Nat.{ℕ, ◌+◌}
use native.Mathlib.Omega.{arith}
use lib.ListN.{length, drop}
use lib.Seq.{drop-append-add}
use Rattle.answer.specs.Checks.{Outcome, pick, ◌⇒◌, checked, judged, and_then}
use Rattle.answer.specs.declared.Refusal.{Refusal}
use Rattle.element.specs.declared.tpc_report.TpcReport.{TpcReport}
use Rattle.frame.specs.Actions.{Body, requests, reports, tpc_request, tpc_report, switch}
use Rattle.header.proofs.SentBy.{heard_as_from_ap, same_body}
use Rattle.header.specs.Headers.{sa, from_ap}
use Rattle.header.specs.declared.Head.{Head}
use Rattle.header.specs.declared.address.Cell.{Cell}
use Rattle.measured_report.specs.declared.Readings.{Readings}
use Rattle.measured_report.specs.Reports.{report_for}
use Rattle.measurement_body.specs.Bodies.{body_octets}
use Rattle.measurement_body.specs.Lists.{nth}
use Rattle.measurement_body.specs.Reports.{report_sort}
use Rattle.measurement_element.specs.MeasurementReport.{report_may}
use Rattle.measurement_element.specs.declared.measurement_report.Report.{Report}
use Rattle.octets.specs.Numbers.{bit, octet}
use Rattle.reply.specs.Due.{Owed, asks, breaks, by_subtype, due_in}
use Rattle.reply.specs.Frames.{frame_to, error_return}
use Rattle.reply.specs.Replies.{owed_to, tpc_answer_to, measurement_answer_to, tpc_reply_in, measurement_reply_in, tpc_reply, measurement_reply}
use Rattle.single_body.specs.Singles.{tpc_report_body}
use Rattle.claims.specs.IbssReplies.{sent_to}

-- an outcome's octets, sent elsewhere
abbrev pub elsewhere : List ℕ → Outcome (List ℕ) → Outcome (List ℕ)
elsewhere to o = and_then o (λ os. Ok (sent_to to os))

module _ (own bss : List ℕ) (six : length bss ≡ 6) where
  -- ---- the octets

  past_address : (rest : List ℕ) → drop 6 (bss ++ rest) ≡ rest
  past_address rest = ap (λ (n : ℕ). drop n (bss ++ rest)) (let e : 6 ≡ length bss + 0 = omega (arith, six) in e) ∙ drop-append-add bss rest 0

  -- what stands after the DA
  abbrev after_da : List ℕ → List ℕ
  after_da body = own ++ (bss ++ (0 ∷ 0 ∷ body))

  spread : (to body : List ℕ) → frame_to own to bss body ≡ 208 ∷ 0 ∷ 0 ∷ 0 ∷ (to ++ after_da body)
  spread to body = simp append_assoc

  frame_alike : (to body : List ℕ) → frame_to own to bss body ≡ sent_to to (frame_to own bss bss body)
  frame_alike to body =
      spread to body ∙ sym (ap (sent_to to) (spread bss body) ∙ ap (λ (xs : List ℕ). 208 ∷ 0 ∷ 0 ∷ 0 ∷ (to ++ xs)) (past_address (after_da body)))

  -- ---- what is owed

  module _ (to : List ℕ) where
    owed_alike : (here there : Body → Outcome (List ℕ)) → ((body : Body) → here body ≡ elsewhere to (there body)) → (x : Owed)
        → owed_to own to bss here x ≡ elsewhere to (owed_to own bss bss there x)
    owed_alike here there same (asks body) = same body
    owed_alike here there same (breaks body) = ap Ok (frame_alike to (error_return body))

    tpc_alike : (report : TpcReport) (body : Body) → tpc_answer_to own to bss report body ≡ elsewhere to (tpc_answer_to own bss bss report body)
    tpc_alike report (requests token rs) = refl
    tpc_alike report (reports token rs) = refl
    tpc_alike report (tpc_request token) = ap Ok (frame_alike to (tpc_report_body token report))
    tpc_alike report (tpc_report token t) = refl
    tpc_alike report (switch w) = refl

    measurement_alike : (clock index : ℕ) (readings : Readings) (body : Body)
        → measurement_answer_to own to bss clock index readings body ≡ elsewhere to (measurement_answer_to own bss bss clock index readings body)
    unfolding checked
    measurement_alike clock index readings (requests token rs) = by (and_then (nth index rs) (report_for clock readings))
      where
        by_may : (x : Report) (may : Bool)
            → judged (may ⇒ Refusal.Impossible ∷ []) (frame_to own to bss (body_octets report_sort token (x ∷ [])))
            ≡ elsewhere to (judged (may ⇒ Refusal.Impossible ∷ []) (frame_to own bss bss (body_octets report_sort token (x ∷ []))))
        by_may x true = refl
        by_may x false = ap Ok (frame_alike to (body_octets report_sort token (x ∷ [])))

        by : (o : Outcome Report)
            → and_then o (λ x. judged (not (report_may x) ⇒ Refusal.Impossible ∷ []) (frame_to own to bss (body_octets report_sort token (x ∷ []))))
            ≡ elsewhere to (and_then o (λ x. judged (not (report_may x) ⇒ Refusal.Impossible ∷ []) (frame_to own bss bss (body_octets report_sort token (x ∷ [])))))
        by (Err r) = refl
        by (Ok x) = by_may x (not (report_may x))
    measurement_alike clock index readings (reports token rs) = refl
    measurement_alike clock index readings (tpc_request token) = refl
    measurement_alike clock index readings (tpc_report token t) = refl
    measurement_alike clock index readings (switch w) = refl

    then_alike : (o : Outcome Owed) (here there : Owed → Outcome (List ℕ)) → ((x : Owed) → here x ≡ elsewhere to (there x)) → and_then o here ≡ elsewhere to (and_then o there)
    then_alike (Err r) here there same = refl
    then_alike (Ok x) here there same = same x

  -- ---- the frame

  module _ (f : List ℕ) (single : bit 0 (octet 0 (sa f)) ≡ false) where
    abbrev after_body : List ℕ → Head → Outcome Owed
    after_body body h = pick h.to_all (Err Refusal.NoReplyDue) (by_subtype h.subtype body)

    -- what is due to it is what is due to the same frame from the AP
    due_alike : due_in Cell.Ibss own bss f ≡ due_in Cell.Ap own bss (from_ap bss f)
    unfolding due_in
    due_alike = ap₂ (λ (o : Outcome Head) (body : List ℕ). and_then o (after_body body)) (heard_as_from_ap bss six f own single) (sym (same_body bss six f))

    pub tpc_reply_alike : (report : TpcReport) → tpc_reply_in Cell.Ibss own bss report f ≡ elsewhere (sa f) (tpc_reply own bss report (from_ap bss f))
    unfolding tpc_reply_in
    tpc_reply_alike report =
        ap (λ (o : Outcome Owed). and_then o (owed_to own (sa f) bss (tpc_answer_to own (sa f) bss report))) due_alike
        ∙ then_alike (sa f) (due_in Cell.Ap own bss (from_ap bss f)) _ _ (owed_alike (sa f) _ _ (tpc_alike (sa f) report))

    pub measurement_reply_alike : (clock index : ℕ) (readings : Readings)
        → measurement_reply_in Cell.Ibss own bss clock index readings f ≡ elsewhere (sa f) (measurement_reply own bss clock index readings (from_ap bss f))
    unfolding measurement_reply_in
    measurement_reply_alike clock index readings =
        ap (λ (o : Outcome Owed). and_then o (owed_to own (sa f) bss (measurement_answer_to own (sa f) bss clock index readings))) due_alike
        ∙ then_alike (sa f) (due_in Cell.Ap own bss (from_ap bss f)) _ _ (owed_alike (sa f) _ _ (measurement_alike (sa f) clock index readings))
