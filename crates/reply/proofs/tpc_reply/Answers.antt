-- `tpc_reply` meets its contract: nothing is due, a broken body, another request, or the report.
-- Assumes nothing.
use Rattle.std.specs.Prelude.{Ok, Err}
use Rattle.std.proofs.Common.{ap, rules, sym, ◌∙◌, ◌≡◌}
use Rattle.answer.specs.Checks.{Outcome, and_then}
use Rattle.reply.specs.Replies.{tpc_reply_in}
use Rattle.reply.specs.declared.due.Due.{Due}
use Rattle.reply.proofs.Answering.{tpc_due, tpc_replied, broken, sent_back, replied_refused, replied_written}
use Rattle.reply.proofs.tpc_reply.Goals as goal
use Rattle.reply.proofs.tpc_reply.Goals.{After-due_to}

-- what is due says what is answered
answer : (c : After-due_to) {d : Outcome Due} → c.due_to.result ≡ d
    → let a = c.args in
    and_then d (tpc_due a.cell a.own c.old_sender-to.result a.bssid a.frame.now c.old_sender-to.ensures a.report)
    ≡ tpc_reply_in a.cell a.own a.bssid a.report a.frame.now
answer c e =
    let a = c.args in
    tpc_replied a.cell a.own c.old_sender-to.result a.bssid a.frame.now c.old_sender-to.ensures a.report (sym e ∙ c.due_to.ensures)

pub put_return-requires : goal.put_return-requires
put_return-requires c =
    let a = c.args in
    let may = broken a.cell a.own a.bssid a.frame.now 0 (sym (c.in_ok-due_to.was ∙ ap Ok c.in-Broken.is) ∙ c.due_to.ensures) c.body.ensures in
    record { body_len_bound = may.0; body_value = may.1 }

pub returns-in_err-due_to : goal.returns-in_err-due_to
returns-in_err-due_to c =
    let told : c.from_residual.result ≡ Err c.in_err-due_to.field-0.0 = search rules in
    rw told (replied_refused (answer (goal.at.returns-in_err-due_to c).After-due_to c.in_err-due_to.was))

pub returns-in-Broken : goal.returns-in-Broken
returns-in-Broken c =
    let a = c.args in
    replied_written
    (sent_back a.cell a.own c.old_sender-to.result a.bssid a.frame.now c.body.ensures
    ∙ answer (goal.at.returns-in-Broken c).After-due_to (c.in_ok-due_to.was ∙ ap Ok c.in-Broken.is))
    c.put_return.ensures

pub returns-in-Measurement : goal.returns-in-Measurement
returns-in-Measurement c = replied_refused (answer (goal.at.returns-in-Measurement c).After-due_to (c.in_ok-due_to.was ∙ ap Ok c.in-Measurement.is))

pub returns-in-Tpc : goal.returns-in-Tpc
returns-in-Tpc c =
    replied_written (answer (goal.at.returns-in-Tpc c).After-due_to (c.in_ok-due_to.was ∙ ap Ok c.in-Tpc.is)) c.put_tpc_report.ensures
