-- `Parts::without` meets its contract: no schedule is in use, by any columns.
use Rattle.std.proofs.Common.{[], ap}
use Rattle.apart.specs.Apart.{whole_of}
use Rattle.apart.specs.Columns.{columns}
use Rattle.station.specs.declared.Station.{Station}
use Rattle.capture.proofs.parts.Parts.without.Goals as goal

pub returns-clause-no_schedule : goal.returns-clause-no_schedule
unfolding whole_of
returns-clause-no_schedule c = ap (λ (s : Station). s.count) (c.nobody.ensures (columns [] [] []))
