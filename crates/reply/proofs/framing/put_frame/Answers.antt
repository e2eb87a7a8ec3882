-- `put_frame` meets its contract: the buffer is too short, or both parts are put.
-- Assumes nothing.
use Rattle.std.proofs.Common.{ap, arith, rules, sym, true, List, ℕ, ◌∙◌}
use Rattle.octets.specs.Writing.{left}
use Rattle.header.specs.Headers.{header_length}
use Rattle.reply.specs.Frames.{head_to}
use Rattle.octets.proofs.Storing.{parts_written}
use Rattle.reply.proofs.Framed.{head_length_lem, no_room}
use Rattle.reply.proofs.framing.put_frame.Goals as goal

pub returns-then-buffer-size : goal.returns-then-buffer-size
returns-then-buffer-size c =
    let a = c.args in
    no_room a.own a.to a.bssid a.body.now a.buffer.now (search rules) (search rules) (search rules) c.if-buffer-size.true

pub returns : goal.returns
returns c =
    let a = c.args in
    parts_written (head_to a.own a.to a.bssid) a.body.now a.buffer.now header_length
    (sym (head_length_lem a.own a.to a.bssid (search rules) (search rules) (search rules))) (omega (arith, c.if-buffer-size.false))
    _ _
    (c.put.ensures.leaves ∙ ap (λ (os : List ℕ). left true os 0 a.buffer.now) c.head-head.ensures)
    c.put-2.ensures.leaves
