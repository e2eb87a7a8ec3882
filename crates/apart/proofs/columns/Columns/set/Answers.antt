-- `set` meets its contract: the rows so far hold the schedules that the first Quiet elements set.
use Rattle.std.proofs.Common.{List, ap, arith, length, rules, subst, sym, take, ℕ, ◌/◌, ◌∙◌, ◌≡◌}
use Rattle.beacon.specs.Beacons.{quiet_limit}
use Rattle.station.specs.Taking.{schedules_of}
use Rattle.schedule.specs.declared.Schedule.{Schedule}
use Rattle.apart.specs.Columns.{rows_over}
use Rattle.apart.proofs.Rows.{Filled, Roomy, none_filled, fills, eight_set, set_here, first_set}
use Rattle.apart.proofs.columns.Columns.set.Goals as goal
use Rattle.apart.proofs.columns.Columns.set.Goals.{After-set_by}

pub loop-row-init : goal.loop-row-init
loop-row-init c = none_filled _ _ (record { starts = search rules; periods = search rules; durations = search rules })

pub loop-row-preserved : goal.loop-row-preserved
loop-row-preserved c =
    let l = c.loop-row in
    let a = c.args in
    let eight : length a.quiets ≡ quiet_limit = search rules in
    let first : Roomy a.self.now = record { starts = search rules; periods = search rules; durations = search rules } in
    subst (Filled _ _ _) (sym c.put.ensures)
    (fills _ first _ l.row _ _ l.invariant (omega arith) (eight_set _ _ a.quiets eight) _ (set_here _ _ a.quiets l.row _ ∙ sym (rw c.from.ensures at c.set_by.ensures)))

pub returns : goal.returns
returns c =
    let l = c.loop-row in
    let a = c.args in
    let all : l.row ≡ a.count = omega arith in
    let set = first_set (a.clock / a.interval) a.interval a.quiets a.count in record {
      schedules = l.invariant.same a.count (omega (arith, all)) ∙ set;
      rows = l.invariant.over ∙ ap (λ (n : ℕ). rows_over (take n (schedules_of (a.clock / a.interval) a.interval a.quiets)) a.self.now) all
          ∙ ap (λ (ys : List Schedule). rows_over ys a.self.now) set;
    }
