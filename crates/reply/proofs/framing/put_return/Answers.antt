-- `put_return` meets its contract: the frame is put, and then its category changes.
-- Assumes nothing.
use Rattle.std.specs.Prelude.{Err}
use Rattle.std.proofs.Common.{length, rules, ◌<◌, ◌≡◌}
use Rattle.reply.proofs.Returning.{some, not_returned, past_header, returned}
use Rattle.reply.proofs.framing.put_return.Goals as goal
use Rattle.reply.proofs.framing.put_return.Goals.{After-put_frame}

-- the body has an octet
has : (c : After-put_frame) → 0 < length c.args.body.now
has c = some c.args.body.now c.requires.body_value

pub bounds-body-0 : goal.bounds-body-0
bounds-body-0 c = has (goal.at.bounds-body-0 c).After-put_frame

pub bounds-buffer : goal.bounds-buffer
bounds-buffer c =
    let a = c.args in
    past_header a.own a.to a.bssid a.body.now a.buffer.now (has (goal.at.bounds-buffer c).After-put_frame) (search rules) (search rules) (search rules) c.in_ok-count.was c.put_frame.ensures

pub returns-in_err-count : goal.returns-in_err-count
returns-in_err-count c =
    let a = c.args in
    let told : c.from_residual.result ≡ Err c.in_err-count.field-0.0 = search rules in
    rw told (not_returned a.own a.to a.bssid a.body.now a.buffer.now (has (goal.at.returns-in_err-count c).After-put_frame) c.in_err-count.was c.put_frame.ensures)

pub returns : goal.returns
returns c =
    let a = c.args in
    returned a.own a.to a.bssid a.body.now a.buffer.now (has (goal.at.returns c).After-put_frame) (search rules) (search rules) (search rules) c.in_ok-count.was c.put_frame.ensures
