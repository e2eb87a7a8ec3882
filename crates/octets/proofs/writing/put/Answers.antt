-- What is stored is what the answer says, all of the octets or none.
use Rattle.std.proofs.Common.{ap, take, ◌∙◌, ℕ}
use Rattle.octets.specs.Writing.{over, wrote}
use Rattle.octets.proofs.Overwriting.{stored_over}
use Rattle.octets.proofs.writing.put.Goals as goal

pub returns : goal.returns
unfolding wrote
returns c =
    let a = c.args in
    let j = c.judge-answer in
    record {
      answers = j.ensures.value;
      leaves =
          c.copy.ensures
          ∙ ap (λ (n : ℕ). over a.buffer.now a.at (take n a.octets.now)) c.stored.ensures
          ∙ stored_over a.may a.octets.now a.at a.buffer.now j.result j.ensures.value j.ensures.inside;
    }
