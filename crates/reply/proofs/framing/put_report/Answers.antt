-- `put_report` meets its contract: the report may not be written, or its body stands in front of the buffer that it was built in.
-- Assumes nothing.
use Rattle.std.specs.Prelude.{Err}
use Rattle.std.proofs.Common.{List, ap, arith, length, length-take, refl, replicate, rules, sym, take, true, ℕ, ◌∙◌, ◌≡◌}
use Rattle.measurement_element.specs.MeasurementReport.{report_may}
use Rattle.reply.specs.Frames.{frame_to}
use Rattle.octets.proofs.Overwriting.{written_as}
use Rattle.octets.proofs.Storing.{not_written}
use Rattle.reply.proofs.OneReport.{longest_reply_body, body, short_body, refused_as, unwritten, built}
use Rattle.reply.proofs.framing.put_report.Goals as goal
use Rattle.reply.proofs.framing.put_report.Goals.{In_ok-count}

-- the place after the body is built, and where the call begins
eight : (c : In_ok-count) → length c.args.report.densities ≡ 8
eight c = search rules

-- what was built
stands : (c : In_ok-count)
    → let a = c.args in
    (report_may a.report ≡ true) × (c.in_ok-count.count ≡ length (body a.token a.report)) × (take c.in_ok-count.count c.append.new.buffer ≡ body a.token a.report)
stands c =
    let a = c.args in
    built a.token a.report (eight c) (replicate longest_reply_body 0) _ _ refl c.append.ensures _ c.in_ok-count.was

pub slice_bounds-body-end : goal.slice_bounds-body-end
slice_bounds-body-end c =
    let exit = c.append.new.buffer in
    omega (arith, length-take c.in_ok-count.count exit, ap (λ (xs : List ℕ). length xs) (stands c).2, (stands c).1)

pub slice_bounds-put_frame-end : goal.slice_bounds-put_frame-end
slice_bounds-put_frame-end c = let w = stands (goal.at.slice_bounds-put_frame-end c).In_ok-count in w.1 ∙ sym (ap (λ (xs : List ℕ). length xs) w.2)

pub put_frame-requires : goal.put_frame-requires
put_frame-requires c =
    let a = c.args in
    omega (arith, ap (λ (xs : List ℕ). length xs) (stands (goal.at.put_frame-requires c).In_ok-count).2, short_body a.token a.report (eight (goal.at.put_frame-requires c).In_ok-count))

pub returns-in_err-count : goal.returns-in_err-count
returns-in_err-count c =
    let a = c.args in
    let w = unwritten a.token a.report (search rules) (replicate longest_reply_body 0) _ _ refl c.append.ensures _ c.in_err-count.was in
    let told : c.from_residual.result ≡ Err c.in_err-count.field-0.0 = search rules in
    rw told (refused_as w.1 (not_written (frame_to a.own a.to a.bssid (body a.token a.report)) 0 a.buffer.now w.0))

pub returns : goal.returns
returns c =
    let a = c.args in
    let w = stands (goal.at.returns c).In_ok-count in
    written_as (sym w.0) (ap (frame_to a.own a.to a.bssid) w.2) c.put_frame.ensures
