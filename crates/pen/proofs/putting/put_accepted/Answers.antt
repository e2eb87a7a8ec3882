-- `put_accepted` meets its contract: each part is put after the one before it.
-- Assumes nothing.
use Rattle.std.proofs.Common.{arith}
use Rattle.pen.proofs.WholeLines.{number_ends, word_ends, accepted_put}
use Rattle.pen.proofs.putting.put_accepted.Goals as goal

-- There is room for the word, and for the constant octets after it.
pub put_word-worded-requires : goal.put_word-worded-requires
put_word-worded-requires c =
    let p = c.requires.by_index in
    omega (arith, number_ends p.1 (c.put_digits-numbered.ensures p.0 p.1))

pub put-requires : goal.put-requires
put-requires c =
    let p = c.requires.by_index in
    let number_put = c.put_digits-numbered.ensures p.0 p.1 in
    omega (arith, word_ends p.1 number_put c.args.word c.put_word-worded.ensures)

pub returns : goal.returns
returns c =
    λ n e.
    accepted_put e c.requires.line_room_in_bounds c.args.word (omega arith)
    (c.put_digits-numbered.ensures n e) c.put_word-worded.ensures c.put.ensures
