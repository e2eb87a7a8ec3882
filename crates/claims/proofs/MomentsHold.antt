-- The moments marked P, all of them (01, "Moments on both sides"), computed from the meanings. Assumes nothing.
use mathlib.Core.Path.{refl}
use Rattle.action.specs.Openings.{opens_with}
use Rattle.single_body.specs.Singles.{single}
use Rattle.walk.specs.Handed.{passing, handing}
use Rattle.walk.specs.Required.{required, nothing_left}
use Rattle.answer.specs.Checks.{checked}
use Rattle.beacon.specs.Beacons.{element_means, takes, says, beacon_means}
use Rattle.element.specs.ChannelSwitch.{switch_means}
use Rattle.octets.specs.Elements.{fixed}
use Rattle.element.specs.Quiet.{quiet_means}
use Rattle.fraction.specs.Fractions.{ceiling, fraction_of, possible, densities_of}
use Rattle.frame.specs.Actions.{action_means}
use Rattle.frame.specs.Frames.{frame_means}
use Rattle.header.specs.Headers.{foreign_header, foreign_address, to_all, header_means, management_means, address_means}
use Rattle.schedule.specs.Schedules.{covered, end_begun}
use Rattle.schedule.specs.Units.{some_unit}
use Rattle.station.specs.Asking.{first_of, covered_by, quiet, permission_of}
use Rattle.station.specs.Clock.{clock_advance, advance_means}
use Rattle.station.specs.Taking.{latest_end, announced, informed, take_means}
use Rattle.walk.specs.Elements.{elements_after, elements_in}
use Rattle.claims.specs.Moments.{AllRight, moments}
use Rattle.claims.specs.Records.{record_from}

pub all_right : AllRight moments
unfolding record_from take_means frame_means header_means management_means address_means foreign_header foreign_address to_all beacon_means checked says takes element_means elements_in elements_after quiet_means switch_means fixed action_means opens_with required handing passing nothing_left single announced informed latest_end end_begun clock_advance advance_means permission_of first_of quiet covered_by some_unit covered densities_of possible fraction_of ceiling
all_right = (refl, (refl, (refl, (refl, (refl, (refl, (refl, (refl, (refl, (refl, (refl, (refl, (refl, (refl, (refl, (refl, ((refl, refl), tt)))))))))))))))))
