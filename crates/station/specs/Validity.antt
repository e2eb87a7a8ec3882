-- What start and the calls make of a station's fields (01, "The station"): the one thing that a call asks of the station it is handed.
use Rattle.std.specs.Prelude.{false, ◌≡◌, ℕ, ◌-◌, ◌<◌, ◌≤◌, length, drop, replicate, Some, None, Option}
use Rattle.beacon.specs.Beacons.{quiet_limit}
use Rattle.channel.specs.Centres.{highest}
use Rattle.octets.specs.Numbers.{bit, octet}
use Rattle.station.specs.Stations.{no_schedule}
use Rattle.station.specs.declared.Station.{Station}
use Rattle.pending.specs.declared.Switch.{Switch}

-- a pending switch lies after the clock, and says what an accepted announcement may say
abbrev pub PendingFits : ℕ → Option Switch → Type 0
PendingFits t None = Unit {0}
PendingFits t (Some x) = (t < x.at) × (x.mode ≤ 1) × (x.channel ≤ highest)

pub record Valid (s : Station) : Type 0 where
  pub own_single : bit 0 (octet 0 s.own) ≡ false
  pub ap_single : bit 0 (octet 0 s.ap) ≡ false
  pub interval_positive : 1 ≤ s.interval
  pub channel_known : s.channel ≤ highest
  pub pending_fits : PendingFits s.clock s.pending
  pub slots : length s.schedules ≡ quiet_limit
  pub few : s.count ≤ quiet_limit
  pub rest_blank : drop s.count s.schedules ≡ replicate (quiet_limit - s.count) no_schedule
