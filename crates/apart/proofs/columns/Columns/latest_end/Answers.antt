-- `latest_end` meets its contract: the latest end so far is that of the rows so far.
use Rattle.std.proofs.Common.{ap, arith, ℕ, ◌∙◌, ◌≡◌}
use Rattle.station.specs.Taking.{latest_end}
use Rattle.apart.specs.Columns.{schedules_in}
use Rattle.apart.proofs.Rows.{no_end, end_more}
use Rattle.apart.proofs.columns.Columns.latest_end.Goals as goal

pub loop-row-init : goal.loop-row-init
loop-row-init c = no_end _ _ _

pub loop-row-preserved : goal.loop-row-preserved
loop-row-preserved c =
    let l = c.loop-row in
    rw (c.later-latest.ensures, c.end_begun.ensures, c.schedule_at.ensures, l.invariant) (end_more _ _ _ l.row)

pub returns : goal.returns
returns c =
    let l = c.loop-row in
    let a = c.args in
    let all : l.row ≡ a.count = omega arith in
    l.invariant ∙ ap (λ (n : ℕ). latest_end a.clock a.until (schedules_in n a.self.now)) all
