-- The pending switch, if any: what an announcement sets, and how a question meets it (01, "The station").
use Rattle.std.specs.Prelude.{Bool, false, ℕ, ◌+◌, ◌*◌, ltb, eqb, Some, None, Option}
use Rattle.answer.specs.Checks.{pick}
use Rattle.element.specs.declared.channel_switch.ChannelSwitch.{ChannelSwitch}
use Rattle.pending.specs.declared.Switch.{Switch}

-- the switch of an announcement of count c ≥ 1, k beacon intervals of b units having passed: at (k + c) times b
abbrev pub pending_by : ChannelSwitch → ℕ → ℕ → Option Switch
pending_by w k b = Some (record { at = (k + w.count) * b; mode = w.mode; channel = w.channel })

-- a mode-1 switch is pending
abbrev pub silences : Option Switch → Bool
silences None = false
silences (Some s) = eqb s.mode 1

-- the end of the units that come before the switch, if any
abbrev pub up_to : Option Switch → ℕ → ℕ
up_to None end = end
up_to (Some s) end = pick (ltb s.at end) s.at end

-- the switch lies before the end
abbrev pub comes_before : Option Switch → ℕ → Bool
comes_before None end = false
comes_before (Some s) end = ltb s.at end
