-- `measurement_reply` meets its contract: nothing is due, a broken body, another request, no report, or the report.
-- Assumes nothing.
use Rattle.std.specs.Prelude.{Ok, Err}
use Rattle.std.proofs.Common.{ap, rules, sym, ◌∙◌, ◌≡◌}
use Rattle.answer.specs.Checks.{Outcome, and_then}
use Rattle.measurement_element.specs.MeasurementReport.{report_may}
use Rattle.reply.specs.Replies.{measurement_reply_in}
use Rattle.reply.specs.declared.due.Due.{Due}
use Rattle.reply.proofs.Answering.{measurement_due, measurement_replied, report_replied, broken, sent_back, replied_refused, replied_written, replied_judged}
use Rattle.reply.proofs.measurement_reply.Goals as goal
use Rattle.reply.proofs.measurement_reply.Goals.{After-due_to, In_ok-request-in-Measurement}

-- what is due says what is answered
answer : (c : After-due_to) {d : Outcome Due} → c.due_to.result ≡ d
    → let a = c.args in
    and_then d (measurement_due a.cell a.own c.old_sender-to.result a.bssid a.frame.now c.old_sender-to.ensures a.clock a.index a.readings)
    ≡ measurement_reply_in a.cell a.own a.bssid a.clock a.index a.readings a.frame.now
answer c e =
    let a = c.args in
    measurement_replied a.cell a.own c.old_sender-to.result a.bssid a.frame.now c.old_sender-to.ensures a.clock a.index a.readings (sym e ∙ c.due_to.ensures)

pub put_return-requires : goal.put_return-requires
put_return-requires c =
    let a = c.args in
    let may = broken a.cell a.own a.bssid a.frame.now a.index (sym (c.in_ok-due_to.was ∙ ap Ok c.in-Broken.is) ∙ c.due_to.ensures) c.body.ensures in
    record { body_len_bound = may.0; body_value = may.1 }

pub returns-in_err-due_to : goal.returns-in_err-due_to
returns-in_err-due_to c =
    let told : c.from_residual.result ≡ Err c.in_err-due_to.field-0.0 = search rules in
    rw told (replied_refused (answer (goal.at.returns-in_err-due_to c).After-due_to c.in_err-due_to.was))

pub returns-in-Broken : goal.returns-in-Broken
returns-in-Broken c =
    let a = c.args in
    replied_written
    (sent_back a.cell a.own c.old_sender-to.result a.bssid a.frame.now c.body.ensures
    ∙ answer (goal.at.returns-in-Broken c).After-due_to (c.in_ok-due_to.was ∙ ap Ok c.in-Broken.is))
    c.put_return.ensures

pub returns-in-Tpc : goal.returns-in-Tpc
returns-in-Tpc c = replied_refused (answer (goal.at.returns-in-Tpc c).After-due_to (c.in_ok-due_to.was ∙ ap Ok c.in-Tpc.is))

-- ---- no such element, no report of it, or its report

pub returns-in_err-request-in-Measurement : goal.returns-in_err-request-in-Measurement
returns-in_err-request-in-Measurement c =
    let told : c.from_residual-in_err-request-in-Measurement.result ≡ Err c.in_err-request-in-Measurement.field-0.0 = search rules in
    let owed = c.in-Measurement.is ∙ ap (Due.Measurement c.in-Measurement.token) c.in_err-request-in-Measurement.was in
    rw told (replied_refused (answer (goal.at.returns-in_err-request-in-Measurement c).After-due_to (c.in_ok-due_to.was ∙ ap Ok owed)))

-- the element at the index
owed : (c : In_ok-request-in-Measurement) → c.due_to.result ≡ Ok (Due.Measurement c.in-Measurement.token (Ok c.in_ok-request-in-Measurement.field-0))
owed c = c.in_ok-due_to.was ∙ ap Ok (c.in-Measurement.is ∙ ap (Due.Measurement c.in-Measurement.token) c.in_ok-request-in-Measurement.was)

pub returns-in_err-report-in-Measurement : goal.returns-in_err-report-in-Measurement
returns-in_err-report-in-Measurement c =
    let a = c.args in
    let told : c.from_residual-in_err-report-in-Measurement.result ≡ Err c.in_err-report-in-Measurement.field-0.0 = search rules in
    rw told (replied_refused
    (report_replied a.cell a.own c.old_sender-to.result a.bssid a.frame.now c.old_sender-to.ensures a.clock a.index a.readings c.due_to.ensures
    (owed (goal.at.returns-in_err-report-in-Measurement c).In_ok-request-in-Measurement)
    (sym c.in_err-report-in-Measurement.was ∙ c.report_for.ensures)))

pub returns-in_ok-report-in-Measurement : goal.returns-in_ok-report-in-Measurement
returns-in_ok-report-in-Measurement c =
    let a = c.args in
    replied_judged (report_may c.in_ok-report-in-Measurement.report)
    (report_replied a.cell a.own c.old_sender-to.result a.bssid a.frame.now c.old_sender-to.ensures a.clock a.index a.readings c.due_to.ensures
    (owed (goal.at.returns-in_ok-report-in-Measurement c).In_ok-request-in-Measurement)
    (sym c.in_ok-report-in-Measurement.was ∙ c.report_for.ensures))
    c.put_report.ensures
