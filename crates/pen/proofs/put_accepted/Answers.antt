-- `put_accepted` meets its contract: the digits are counted up, and the line is put after those before it.
-- Assumes nothing.
use Rattle.std.proofs.Common.{arith, refl, ◌+◌}
use Rattle.pen.proofs.put_accepted.Goals as goal

pub count_up-from-requires : goal.count_up-from-requires
count_up-from-requires c =
    (c.args.pen.lines, c.requires.spells, omega (arith, c.requires.numbered))

pub put_accepted-count-requires : goal.put_accepted-count-requires
put_accepted-count-requires c =
    let n = c.args.pen.lines in
    record {
      by_index = (n + 1, c.count_up-from.ensures.by_index n c.requires.spells);
      line_room_in_bounds = omega (arith, c.requires.room);
    }

pub returns : goal.returns
returns c =
    let n = c.args.pen.lines in
    let spells = c.count_up-from.ensures.by_index n c.requires.spells in
    let put = c.put_accepted-count.ensures (n + 1) spells in
    record {
      penned = record { numbered = refl; spells = spells; many = put.many; short = put.short; leaves = put.leaves };
      digits_after = (c.count_up-from.ensures.by_index_2 n c.requires.spells).1;
    }
