-- `put_answer` meets its contract: one digit is the number itself, more are spelled.
-- Assumes nothing.
use Rattle.std.proofs.Common.{[], ap, arith, length, sym, ◌+◌, ◌∙◌, ◌∷◌}
use lib.Seq.{sets-eq}
use Rattle.octets.specs.Writing.{over}
use Rattle.pen.proofs.Lengths.{number_short}
use Rattle.pen.proofs.Spelling.{one_alone}
use Rattle.pen.proofs.putting.put_answer.Goals as goal

pub returns-then-answer-lt10 : goal.returns-then-answer-lt10
returns-then-answer-lt10 c =
    let a = c.args in
    let one = one_alone a.answer c.if-answer-lt10.true in
    record {
      ends = omega (arith, ap length one);
      stands = sets-eq ((48 + a.answer) ∷ []) a.out.now a.at (omega (arith, c.requires, ap length one)) ∙ ap (over a.out.now a.at) (sym one);
    }

pub put_number-requires : goal.put_number-requires
put_number-requires c = omega (arith, c.requires, number_short c.from.result (omega (arith, c.from.ensures)))
