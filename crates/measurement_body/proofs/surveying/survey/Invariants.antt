use Rattle.std.proofs.Common.{length, eqb, ltb, true, ◌||◌, ◌≡◌, ◌-◌}
use Rattle.measurement_body.specs.Kinds.{sort_of}
use Rattle.measurement_body.proofs.Walked.{Walked}
use Rattle.measurement_body.proofs.surveying.survey.Given as goal

-- one element has to come, and others where octets are left
abbrev pub invariant-loop-contents : goal.invariant-loop-contents
invariant-loop-contents l =
    record {
      walked : Walked (sort_of l.kind) l.body l.index l.marks l.count l.at l.place l.plain;
      goes : (eqb l.count 0 || ltb l.at (length l.body)) ≡ true;
    }

abbrev pub decreases-loop-contents : goal.decreases-loop-contents
decreases-loop-contents l = length l.body - l.at
