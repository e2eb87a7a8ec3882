-- The lines so far, with what is left from the place on, are the lines of the blocks.
use Rattle.std.proofs.Common.{length, ◌-◌, ◌≤◌}
use Rattle.beacon.specs.Beacons.{quiet_limit}
use Rattle.capture.specs.CodeTerms.Parts.{lister_of}
use Rattle.capture.proofs.Passing.{Standing}
use Rattle.capture.proofs.listing.put_blocks.Given as goal

abbrev pub invariant-loop-columns : goal.invariant-loop-columns
invariant-loop-columns l =
    let i = l.initial in
    let first = lister_of i.parts i.pen.lines i.columns in
    let now = lister_of l.parts l.pen.lines l.columns in record {
      standing : Standing l.blocks first l.fn.out l.out now l.digits l.pen l.clear l.at l.stop l.after;
      few : l.parts.apart.count ≤ quiet_limit;
    }

abbrev pub decreases-loop-columns : goal.decreases-loop-columns
decreases-loop-columns l = length l.blocks - l.at
