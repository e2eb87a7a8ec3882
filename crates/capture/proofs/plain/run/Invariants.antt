-- A station is followed wherever the loop is reached. The lines so far are those of the records
-- before the place.
use Rattle.std.proofs.Common.{true, length, ◌-◌}
use Rattle.capture.specs.CodeTerms.Plain.{RanFrom}
use Rattle.capture.proofs.plain.run.Given as goal

abbrev pub invariant-loop-ran : goal.invariant-loop-ran
invariant-loop-ran l = RanFrom l.used l.fn.from.at true l.fn.from.clock l.pending l.clear l.fn.from.pen l.fn.out l.ran l.digits l.out

abbrev pub decreases-loop-ran : goal.decreases-loop-ran
decreases-loop-ran l = length l.used - l.ran.at
