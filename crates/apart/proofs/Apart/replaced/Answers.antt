-- `Apart::replaced` meets its contract: the latest end is worked out before the rows are set.
use Rattle.std.proofs.Common.{arith, take}
use Rattle.apart.proofs.Parts.{replaced_whole, few_rows, some_interval}
use Rattle.apart.proofs.Apart.replaced.Goals as goal

pub latest_end-until-requires : goal.latest_end-until-requires
latest_end-until-requires c = omega (arith, few_rows c.args.self _ c.requires.valid, c.requires.few)

pub set-requires : goal.set-requires
set-requires c = (some_interval c.args.self _ c.requires.valid, c.requires.few)

pub returns-clause-station : goal.returns-clause-station
returns-clause-station c =
    replaced_whole c.args.self _ _ (take c.args.count c.args.quiets) _ _ c.set.ensures.schedules c.latest_end-until.ensures
