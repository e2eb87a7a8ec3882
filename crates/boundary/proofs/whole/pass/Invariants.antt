use Rattle.std.proofs.Common.{length, true, ◌≡◌, ◌≤◌}
use Rattle.std.specs.Slice.Iter.{chunks_rest, chunks_size}
use Rattle.capture.specs.Feeding.{enough_room}
use Rattle.capture.specs.Lists.{list_of}
use Rattle.boundary.proofs.Passes.{Standing}
use Rattle.boundary.proofs.whole.pass.Given as goal

abbrev pub invariant-loop-block : goal.invariant-loop-block
invariant-loop-block l = record {
  standing : Standing l.file l.store l.initial.out l.out l.passed (chunks_rest l.block-iterator);
  size : chunks_size l.block-iterator ≡ 512;
  room : length l.room ≡ enough_room;
  may : l.store ≡ true → length (list_of l.file) ≤ length l.initial.out;
}
