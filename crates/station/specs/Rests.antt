-- What a station keeps beside its addresses and its schedules (01, "The station"), and what a frame changes of it.
use Rattle.std.specs.Prelude.{Bool, false, ℕ, ◌/◌, eqb, Some, None, Option}
use Rattle.answer.specs.Checks.{pick}
use Rattle.pending.specs.Waiting.{pending_by}
use Rattle.station.specs.declared.Station.{Station}
use Rattle.station.specs.declared.changing.Rest.{Rest}
use Rattle.element.specs.declared.power_constraint.PowerConstraint.{PowerConstraint}
use Rattle.element.specs.declared.channel_switch.ChannelSwitch.{ChannelSwitch}
use Rattle.pending.specs.declared.Switch.{Switch}

-- an announcement whose count is 0 is the switch itself
abbrev pub at_once : Option ChannelSwitch → Bool
at_once None = false
at_once (Some w) = eqb w.count 0

-- of a station that stays quiet until e
abbrev pub rest_of : Station → ℕ → Rest
rest_of s e =
    record { interval = s.interval; clock = s.clock; channel = s.channel; power = s.power; pending = s.pending; until = e }

module _ (r : Rest) where
  abbrev kept : ℕ → Option PowerConstraint → Option Switch → ℕ → Rest
  kept channel power pending until =
      record { interval = r.interval; clock = r.clock; channel = channel; power = power; pending = pending; until = until }

  abbrev pub rest_switched : ℕ → Rest
  rest_switched channel = kept channel None None 0

  abbrev pub rest_constrained : Option PowerConstraint → Rest
  rest_constrained None = r
  rest_constrained (Some p) = kept r.channel (Some p) r.pending r.until

  abbrev pub rest_announced : Option ChannelSwitch → Rest
  rest_announced None = r
  rest_announced (Some w) =
      pick (eqb w.count 0) (rest_switched w.channel)
      (kept r.channel r.power (pending_by w (r.clock / r.interval) r.interval) r.until)
