-- What an accepted body may say (01, "Octets", "Numbers that hold"): no value that the rules forbid, and no more Quiet elements than
-- there may be. `b` is the beacon interval.
use Rattle.std.specs.Prelude.{false, List, [], ◌∷◌, ◌≡◌, ℕ, ◌≤◌, length, Some, None, Option}
use Rattle.element.specs.ChannelSwitch.{switch_forbids}
use Rattle.element.specs.Quiet.{quiet_forbids}
use Rattle.element.specs.declared.quiet.Quiet.{Quiet}
use Rattle.beacon.specs.Beacons.{Told, quiet_limit}
use Rattle.element.specs.declared.channel_switch.ChannelSwitch.{ChannelSwitch}

abbrev pub SwitchAllowed : Option ChannelSwitch → Type 0
SwitchAllowed None = Unit {0}
SwitchAllowed (Some w) = switch_forbids w ≡ false

abbrev pub QuietsAllowed : ℕ → List Quiet → Type 0
QuietsAllowed b [] = Unit {0}
QuietsAllowed b (q ∷ qs) = (quiet_forbids b q ≡ false) × QuietsAllowed b qs

pub record Allowed (b : ℕ) (t : Told) : Type 0 where
  pub few : length t.quiets ≤ quiet_limit
  pub switch_allowed : SwitchAllowed t.notice.switch
  pub quiets_allowed : QuietsAllowed b t.quiets
