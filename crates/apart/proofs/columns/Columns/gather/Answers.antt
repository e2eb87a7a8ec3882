-- `gather` meets its contract: the slots so far hold the schedules of their rows, and the others are blank.
use Rattle.std.proofs.Common.{ap, arith, refl, replicate, sym, ℕ, ◌++◌, ◌-◌, ◌∙◌, ◌≡◌}
use Rattle.beacon.specs.Beacons.{quiet_limit}
use Rattle.station.specs.Stations.{no_schedule, slotted}
use Rattle.apart.specs.Columns.{schedules_in}
use Rattle.apart.specs.declared.columns.Columns.{Columns}
use Rattle.apart.proofs.Rows.{rows_many, one_slot_more}
use Rattle.apart.proofs.columns.Columns.gather.Goals as goal

-- before the first
empty : (c : Columns) → replicate quiet_limit no_schedule ≡ schedules_in 0 c ++ replicate quiet_limit no_schedule
unfolding schedules_in
empty c = refl

-- after the last
in_slots : (c : Columns) (row count : ℕ) → row ≡ count → schedules_in row c ++ replicate (quiet_limit - row) no_schedule ≡ slotted (schedules_in count c)
in_slots c row count all =
    ap (λ (n : ℕ). schedules_in n c ++ replicate (quiet_limit - n) no_schedule) all
    ∙ ap (λ (n : ℕ). schedules_in count c ++ replicate (quiet_limit - n) no_schedule) (sym (rows_many count c))

pub loop-row-init : goal.loop-row-init
loop-row-init c = empty _

pub loop-row-preserved : goal.loop-row-preserved
loop-row-preserved c = let l = c.loop-row in rw (l.invariant, c.schedule_at.ensures) (one_slot_more _ l.row (omega arith))

pub returns : goal.returns
returns c = let l = c.loop-row in l.invariant ∙ in_slots c.args.self.now l.row c.args.count (omega arith)
