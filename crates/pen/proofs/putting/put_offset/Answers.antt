-- No octets, or a space and the number.
use Rattle.std.proofs.Common.{[], ap, arith, sym, length, ◌∷◌}
use lib.Seq.{sets-eq}
use Rattle.pen.specs.Lines.{placed}
use Rattle.pen.proofs.Following.{put_as, put_after}
use Rattle.pen.proofs.Lengths.{number_short}
use Rattle.pen.proofs.putting.put_offset.Goals as goal

pub put_number-requires : goal.put_number-requires
put_number-requires c = omega (arith, c.put-spaced.ensures.ends, number_short c.in-Some.before (omega arith))

pub returns-in-None : goal.returns-in-None
returns-in-None c =
    let a = c.args in
    let none = ap placed (sym c.in-None.is) in
    record {
      put = put_as none (record { ends = omega arith; stands = sets-eq [] a.out.now a.at (omega (arith, c.requires)) });
      short = omega (arith, ap length none);
    }

pub returns-in-Some : goal.returns-in-Some
returns-in-Some c =
    let some = ap placed (sym c.in-Some.is) in
    let short = c.put_number.ensures.short in
    record {
      put = put_as some (put_after (32 ∷ []) (omega (arith, short)) c.put_number.ensures.put c.put-spaced.ensures);
      short = omega (arith, ap length some, short);
    }
