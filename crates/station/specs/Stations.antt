-- What a station keeps (01, "The station"): settings, clock, channel, latest Power Constraint if any, one pending switch if any, and
-- quiet schedules with how many are in use; and until when what had begun of replaced schedules runs on (02, Two), 0 where nothing does.
use Rattle.std.specs.Prelude.{List, [], ◌++◌, ℕ, ◌-◌, length, take, replicate, None, Option}
use Rattle.beacon.specs.Beacons.{quiet_limit}
use Rattle.schedule.specs.declared.Schedule.{Schedule}
use Rattle.station.specs.declared.Station.{Station}
use Rattle.element.specs.declared.power_constraint.PowerConstraint.{PowerConstraint}
use Rattle.pending.specs.declared.Switch.{Switch}

-- the last moment that the clock tells
abbrev pub clock_limit : ℕ
clock_limit = 4294967295

-- the longest advance and the longest question
abbrev pub unit_limit : ℕ
unit_limit = 65535

-- what a slot holds that is not in use
abbrev pub no_schedule : Schedule
no_schedule = record { start = 0; period = 0; duration = 0 }

-- schedules in their slots, the rest of which are blank
abbrev pub slotted : List Schedule → List Schedule
slotted xs = xs ++ replicate (quiet_limit - length xs) no_schedule

-- the schedules in use
abbrev pub in_use : Station → List Schedule
in_use s = take s.count s.schedules

-- at moment 0, with nothing heard
abbrev pub fresh : List ℕ → List ℕ → ℕ → ℕ → Station
fresh own ap b channel =
    record {
      own = own;
      ap = ap;
      interval = b;
      clock = 0;
      channel = channel;
      power = None;
      pending = None;
      schedules = slotted [];
      count = 0;
      until = 0;
    }

-- ---- a station with something changed: the settings never are

module _ (s : Station) where
  abbrev pub kept : ℕ → ℕ → Option PowerConstraint → Option Switch → List Schedule → ℕ → ℕ → Station
  kept clock channel power pending schedules count until =
      record {
        own = s.own;
        ap = s.ap;
        interval = s.interval;
        clock = clock;
        channel = channel;
        power = power;
        pending = pending;
        schedules = schedules;
        count = count;
        until = until;
      }

  abbrev pub with_clock : ℕ → Station
  with_clock t = kept t s.channel s.power s.pending s.schedules s.count s.until

  abbrev pub with_channel : ℕ → Station
  with_channel channel = kept s.clock channel s.power s.pending s.schedules s.count s.until

  abbrev pub with_power : Option PowerConstraint → Station
  with_power p = kept s.clock s.channel p s.pending s.schedules s.count s.until

  abbrev pub with_pending : Option Switch → Station
  with_pending p = kept s.clock s.channel s.power p s.schedules s.count s.until

  -- these schedules are those in use
  abbrev pub with_schedules : List Schedule → Station
  with_schedules xs = kept s.clock s.channel s.power s.pending (slotted xs) (length xs) s.until

  abbrev pub with_until : ℕ → Station
  with_until e = kept s.clock s.channel s.power s.pending s.schedules s.count e
