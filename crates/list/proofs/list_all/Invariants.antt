-- Turn after turn the lister is one that some file leaves, and the input buffer holds whole blocks.
use Rattle.std.proofs.Common.{length, ◌%◌, ◌≡◌}
use Rattle.block.specs.Blocks.{block_size}
use Rattle.capture.specs.Listers.{Fits}
use Rattle.list.specs.Program.{LeftByBlocks}
use Rattle.list.proofs.list_all.Given as goal

abbrev pub invariant-turns : goal.invariant-turns
invariant-turns g l = record {
  reached : LeftByBlocks l.lister;
  fits : Fits l.lister;
  whole : length l.input % block_size ≡ 0;
}
