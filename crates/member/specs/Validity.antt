-- What start and the calls make of a station of an IBSS (02, Five): the one thing that a call asks of the station it is handed.
use Rattle.owner.specs.Owners.{KeptFits}
use Rattle.station.specs.Validity.{Valid}
use Rattle.member.specs.declared.Member.{Member}

pub record ValidMember (m : Member) : Type 0 where
  pub station_valid : Valid m.station
  pub owner_fits : KeptFits m.owner
