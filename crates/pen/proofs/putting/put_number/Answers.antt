-- The digits are spelled, and then put.
use Rattle.std.proofs.Common.{ap, arith, length}
use Rattle.pen.proofs.Following.{put_as}
use Rattle.pen.proofs.InNumeral.{placed_digits, digits_cut}
use Rattle.pen.proofs.putting.put_number.Goals as goal

pub put-requires : goal.put-requires
put-requires c =
    let spells = c.spell-from.ensures.spells in
    omega (arith, ap length (digits_cut spells), placed_digits spells)

pub returns : goal.returns
returns c =
    let spells = c.spell-from.ensures.spells in
    record {
      put = put_as (digits_cut spells) c.put.ensures;
      short = omega (arith, placed_digits spells);
    }
