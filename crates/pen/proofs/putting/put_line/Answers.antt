-- `put_line` meets its contract: each part is put after the one before it.
-- Assumes nothing.
use Rattle.std.proofs.Common.{arith, length, ℕ, ◌<◌, ◌^◌, ◌≤◌}
use Rattle.pen.specs.Decimals.{decimal}
use Rattle.pen.proofs.Spelling.{few_digits}
use Rattle.pen.proofs.WholeLines.{number_ends, word_ends, parts_put}
use Rattle.pen.proofs.putting.put_line.Goals as goal

-- How long an answer is at most.
answer_short : (answer : ℕ) → answer < 2 ^ 8 → length (decimal answer) ≤ 3
answer_short answer h = few_digits 3 answer (omega arith) (omega arith)

-- There is room for the next part after each.
pub put_word-worded-requires : goal.put_word-worded-requires
put_word-worded-requires c =
    let p = c.requires.by_index in
    omega (arith, number_ends p.1 (c.put_digits-numbered.ensures p.0 p.1))

pub put_answer-answered-requires : goal.put_answer-answered-requires
put_answer-answered-requires c =
    let p = c.requires.by_index in
    let number_put = c.put_digits-numbered.ensures p.0 p.1 in
    let at_word = word_ends p.1 number_put c.args.word c.put_word-worded.ensures in
    omega (arith, answer_short c.args.answer c.ranges.answer.fits)

pub put_offset-ended-requires : goal.put_offset-ended-requires
put_offset-ended-requires c =
    let p = c.requires.by_index in
    let number_put = c.put_digits-numbered.ensures p.0 p.1 in
    let at_word = word_ends p.1 number_put c.args.word c.put_word-worded.ensures in
    let few = answer_short c.args.answer c.ranges.answer.fits in
    omega arith

pub put-requires : goal.put-requires
put-requires c =
    let p = c.requires.by_index in
    let number_put = c.put_digits-numbered.ensures p.0 p.1 in
    let at_word = word_ends p.1 number_put c.args.word c.put_word-worded.ensures in
    let few = answer_short c.args.answer c.ranges.answer.fits in
    omega arith

pub returns : goal.returns
returns c =
    let x = c.args in
    let few = answer_short x.answer c.ranges.answer.fits in
    λ n e.
    parts_put e c.requires.line_room_in_bounds x.word x.answer x.offset few c.put_offset-ended.ensures.short (omega arith)
    (c.put_digits-numbered.ensures n e) c.put_word-worded.ensures c.put_answer-answered.ensures
    c.put_offset-ended.ensures.put c.put.ensures
