-- `quiet_at` meets its contract: each way out but the last says why no Quiet element that is taken stands there.
-- Assumes nothing.
use Rattle.std.proofs.Common.{arith}
use Rattle.beacon.proofs.Quieting.{too_short, other_header, read_here}
use Rattle.beacon.proofs.quiets.quiet_at.Goals as goal
use Rattle.beacon.proofs.quiets.quiet_at.Goals.{then-count-ge-QUIETS-via-then-count-ge-QUIETS, then-count-ge-QUIETS-via-else-count-ge-QUIETS+then-body-lt-LENGTH, then-count-ge-QUIETS-via-else-count-ge-QUIETS+else-body-lt-LENGTH+then-body-at}

pub returns-then-count-ge-QUIETS : goal.returns-then-count-ge-QUIETS
returns-then-count-ge-QUIETS c x es q e m =
    let a = c.args in
    elim c.then-count-ge-QUIETS.branch [
      | then-count-ge-QUIETS-via-then-count-ge-QUIETS w ↦ omega arith
      | then-count-ge-QUIETS-via-else-count-ge-QUIETS+then-body-lt-LENGTH w ↦ too_short a.body.now a.at a.interval x es q e m (omega arith)
      | then-count-ge-QUIETS-via-else-count-ge-QUIETS+else-body-lt-LENGTH+then-body-at w ↦ too_short a.body.now a.at a.interval x es q e m (omega arith)
    ]

pub returns-then-number16-ne-HEADER : goal.returns-then-number16-ne-HEADER
returns-then-number16-ne-HEADER c x es q e m =
    let a = c.args in
    other_header a.body.now a.at a.interval x es q e m _ c.number16.ensures c.if-number16-ne-HEADER.true

pub returns : goal.returns
returns c =
    let a = c.args in
    read_here a.body.now a.at a.interval (λ i. omega (arith, c.type_inv.body i)) _ a.count c.number16.ensures c.if-number16-ne-HEADER.false (omega arith) (omega arith)
    c.read.ensures c.ok.ensures.value
