-- `closing` meets its contract: each part is put after the one before it.
-- Assumes nothing.
use Rattle.std.proofs.Common.{arith}
use Rattle.pen.proofs.ClosingLine.{closing_short, closing_put}
use Rattle.pen.proofs.InRoom.{put_in_front}
use Rattle.pen.proofs.Lengths.{number_short}
use Rattle.pen.proofs.last_line.closing.Goals as goal

-- There is room for each part after the one before it.
pub put_number-counted-requires : goal.put_number-counted-requires
put_number-counted-requires c = omega (arith, number_short c.args.blocks (omega arith))

pub put-parted-requires : goal.put-parted-requires
put-parted-requires c = omega (arith, c.put_number-counted.ensures.short)

pub put_number-told-requires : goal.put_number-told-requires
put_number-told-requires c = omega (arith, c.put_number-counted.ensures.short, number_short c.args.damaged (omega arith))

pub returns : goal.returns
returns c =
    let a = c.args in
    let few = c.put_number-counted.ensures.short in
    let few' = c.put_number-told.ensures.short in
    put_in_front (closing_short a.blocks a.damaged few few')
    (closing_put a.blocks a.damaged few few' (omega arith)
    c.put-named.ensures c.put_number-counted.ensures.put c.put-parted.ensures c.put_number-told.ensures.put
    c.put-count.ensures)
