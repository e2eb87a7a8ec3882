use Rattle.member.proofs.Passing.{advanced_by_lem}
use Rattle.member.proofs.Member.advance.Goals as goal

pub returns-clause-value : goal.returns-clause-value
returns-clause-value c =
    advanced_by_lem c.args.self c.args.units c.requires.station_valid.interval_positive _ _ _ c.advance-stepped.ensures.value c.tbtts_between.ensures
    c.past-past.ensures.value
