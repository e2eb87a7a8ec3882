-- Past the test of its length, a block has as many octets as are checked.
use Rattle.std.proofs.Common.{arith, length-take-le, sym}
use Rattle.block.proofs.is_damaged.Goals as goal

pub slice_bounds-checksum-end : goal.slice_bounds-checksum-end
slice_bounds-checksum-end c = sym (length-take-le _ c.args.block.now (omega arith))
