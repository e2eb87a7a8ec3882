-- After i turns the first i octets are pasted in.
use Rattle.std.proofs.Common.{◌≡◌, length}
use Rattle.std.proofs.Math.Seq.{paste}
use Rattle.pen.proofs.putting.put.Given as goal

abbrev pub invariant-loop-i : goal.invariant-loop-i
invariant-loop-i l = (l.out ≡ paste l.initial.out l.at l.octets l.i) × (length l.out ≡ length l.initial.out)
