-- A station as octets in its keeper's memory (02, Eight): "the record is lent and changed there". Its fields one after the other, numbers with the
-- least significant octet first, and then the schedules in use. What stands after these is no part of the record.
use Rattle.std.specs.Prelude.{List, [], ◌∷◌, ◌++◌, ℕ, replicate, Some, None, Option}
use Rattle.beacon.specs.Notices.{held_power}
use Rattle.octets.specs.Numbers.{split}
use Rattle.schedule.specs.declared.Schedule.{Schedule}
use Rattle.station.specs.Stations.{in_use}
use Rattle.station.specs.declared.Station.{Station}
use Rattle.element.specs.declared.power_constraint.PowerConstraint.{PowerConstraint}
use Rattle.pending.specs.declared.Switch.{Switch}

-- the first octet: another layout would have another
abbrev pub version : ℕ
version = 1

-- the octets that a keeper sets aside: room for sixteen schedules, so that it need not grow with a later version
abbrev pub size : ℕ
size = 336

-- those before the schedules, and those of each schedule
abbrev pub head_length : ℕ
head_length = 42

abbrev pub slot_length : ℕ
slot_length = 18

-- version, channel; interval (2), clock (4), own address (6), AP (6)
abbrev pub settings_octets : List ℕ → List ℕ → ℕ → ℕ → ℕ → List ℕ
settings_octets own ap interval clock channel = (version ∷ channel ∷ []) ++ split 2 interval ++ split 4 clock ++ own ++ ap

-- 1, mode, channel, moment (8); zeros where no switch is pending
abbrev pub held_pending : Option Switch → List ℕ
held_pending None = replicate 11 0
held_pending (Some x) = (1 ∷ x.mode ∷ x.channel ∷ []) ++ split 8 x.at

-- Power Constraint (2), pending switch (11), until when what had begun of replaced schedules runs on (8), how many schedules are in use
abbrev pub state_octets : Option PowerConstraint → Option Switch → ℕ → ℕ → List ℕ
state_octets power pending until count = held_power power ++ held_pending pending ++ split 8 until ++ (count ∷ [])

-- start (8), period (8), duration (2)
abbrev pub slot_octets : Schedule → List ℕ
slot_octets x = split 8 x.start ++ split 8 x.period ++ split 2 x.duration

unfoldable pub slots_of : List Schedule → List ℕ
slots_of [] = []
slots_of (x ∷ xs) = slot_octets x ++ slots_of xs

abbrev pub head_of : Station → List ℕ
head_of s = settings_octets s.own s.ap s.interval s.clock s.channel ++ state_octets s.power s.pending s.until s.count

abbrev pub record_of : Station → List ℕ
record_of s = head_of s ++ slots_of (in_use s)
