-- `put_lines` meets its contract where nothing is stored: the lines do not fit, or would.
use Rattle.std.proofs.Common.{ap, arith, sym, ◌∙◌}
use Rattle.octets.proofs.Storing.{left_not, room_answer}
use Rattle.octets.specs.Writing.{left}
use Rattle.boundary.proofs.Passes.{short_pass}
use Rattle.boundary.proofs.whole.put_lines.Goals as goal

pub returns-then-out-at : goal.returns-then-out-at
returns-then-out-at c =
    let a = c.args in
    short_pass a.lines.now a.at a.out.now a.store (omega (arith, c.if-out-at.true, c.requires))

pub returns : goal.returns
returns c =
    let a = c.args in
    record {
      answers = sym (room_answer a.lines.now a.at a.out.now (omega (arith, c.if-out-at.false, c.requires)));
      leaves = sym (ap (λ s. left s a.lines.now a.at a.out.now) c.if-store.false ∙ left_not a.lines.now a.at a.out.now);
    }
