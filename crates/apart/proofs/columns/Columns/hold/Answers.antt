-- `hold` meets its contract: the rows so far hold the first schedules.
use Rattle.std.proofs.Common.{List, ap, arith, length, refl, rules, subst, sym, take_all, ◌∙◌, ◌≡◌}
use Rattle.beacon.specs.Beacons.{quiet_limit}
use Rattle.schedule.specs.declared.Schedule.{Schedule}
use Rattle.apart.specs.Columns.{rows_over}
use Rattle.apart.proofs.Rows.{Filled, Roomy, none_filled, fills}
use Rattle.apart.proofs.columns.Columns.hold.Goals as goal

pub loop-row-init : goal.loop-row-init
loop-row-init c = none_filled _ _ (record { starts = search rules; periods = search rules; durations = search rules })

pub loop-row-preserved : goal.loop-row-preserved
loop-row-preserved c =
    let l = c.loop-row in
    let a = c.args in
    let eight : length a.schedules ≡ quiet_limit = search rules in
    let first : Roomy a.self.now = record { starts = search rules; periods = search rules; durations = search rules } in
    subst (Filled _ _ _) (sym c.put.ensures) (fills _ first _ l.row _ _ l.invariant (omega arith) eight _ refl)

pub returns : goal.returns
returns c =
    let l = c.loop-row in
    let xs = c.args.schedules in
    let all : l.row ≡ quiet_limit = omega arith in
    let eight : length xs ≡ quiet_limit = search rules in
    record {
      schedules = λ n h. l.invariant.same n (omega (arith, all));
      rows = l.invariant.over ∙ ap (λ (ys : List Schedule). rows_over ys c.args.self.now) (take_all l.row xs (omega (arith, all, eight)));
    }
