-- `put_tpc_report` meets its contract: the body stands in a buffer of just its length.
-- Assumes nothing.
use Rattle.std.specs.Prelude.{Ok}
use Rattle.std.proofs.Common.{ap, arith, length, refl, replicate, sym, true, ℕ, ◌∙◌, ◌≡◌}
use Rattle.answer.proofs.Judged.{never}
use Rattle.single_body.specs.Singles.{tpc_report_body}
use Rattle.element.specs.TpcReport.{tpc_report_octets}
use Rattle.element.specs.declared.tpc_report.TpcReport.{TpcReport}
use Rattle.reply.specs.Frames.{frame_to}
use Rattle.octets.proofs.Overwriting.{written_as}
use Rattle.octets.proofs.Storing.{room_answer}
use Rattle.octets.specs.Writing.{wrote}
use Rattle.reply.proofs.Framed.{exactly}
use Rattle.reply.proofs.framing.put_tpc_report.Goals as goal

seven : (token : ℕ) (report : TpcReport) → length (tpc_report_body token report) ≡ 7
unfolding tpc_report_octets
seven token report = refl

-- which is never refused
stored : (token : ℕ) (report : TpcReport) → wrote true (tpc_report_body token report) 0 (replicate 7 0) ≡ Ok 7
stored token report = room_answer (tpc_report_body token report) 0 (replicate 7 0) (omega (arith, seven token report)) ∙ ap Ok (seven token report)

pub returns-in_err-write_tpc_report : goal.returns-in_err-write_tpc_report
returns-in_err-write_tpc_report c =
    let a = c.args in
    absurd (never (sym c.in_err-write_tpc_report.was ∙ c.write_tpc_report.ensures.answers ∙ stored a.token a.report))

pub returns : goal.returns
returns c =
    let a = c.args in
    written_as refl
    (ap (frame_to a.own a.to a.bssid) (exactly (tpc_report_body a.token a.report) (replicate 7 0) _ (seven a.token a.report) c.write_tpc_report.ensures.leaves))
    c.put_frame.ensures
