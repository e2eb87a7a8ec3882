-- A station taken apart (01, "The station"): its schedules in columns, and the rest beside them.
use Rattle.std.specs.Prelude.{List, ◌≡◌, ℕ, ◌/◌, ◌≤◌, take, Ok, Err}
use Rattle.answer.specs.Checks.{pick}
use Rattle.answer.specs.Faults.{Placed}
use Rattle.beacon.specs.Beacons.{quiet_limit}
use Rattle.frame.specs.Frames.{frame_means}
use Rattle.frame.specs.Hearing.{hearing_of}
use Rattle.frame.specs.Laid.{frame_laid}
use Rattle.frame.specs.declared.hearing.Hearing.{Hearing}
use Rattle.station.specs.Rests.{rest_of}
use Rattle.station.specs.Stations.{slotted}
use Rattle.station.specs.Taking.{schedules_of, take_of}
use Rattle.station.specs.Validity.{Valid}
use Rattle.station.specs.declared.Station.{Station}
use Rattle.apart.specs.Columns.{schedules_in, rows_over}
use Rattle.apart.specs.declared.Apart.{Apart}
use Rattle.apart.specs.declared.Told.{Told}
use Rattle.apart.specs.declared.columns.Columns.{Columns}

abbrev pub apart_of : Station → Apart
apart_of s = record { own = s.own; ap = s.ap; rest = rest_of s s.until; count = s.count }

-- the station that the parts are
unfoldable pub whole_of : Apart → Columns → Station
whole_of a c =
    record {
      own = a.own;
      ap = a.ap;
      interval = a.rest.interval;
      clock = a.rest.clock;
      channel = a.rest.channel;
      power = a.rest.power;
      pending = a.rest.pending;
      schedules = slotted (schedules_in a.count c);
      count = a.count;
      until = a.rest.until;
    }

-- columns that hold the schedules of a station
abbrev pub HoldsSchedules : Station → Columns → Type 0
HoldsSchedules s c = (n : ℕ) → n ≤ quiet_limit → schedules_in n c ≡ take n s.schedules

-- the schedules of the Quiet elements that are heard, where they replace those there are
abbrev pub rows_heard : Apart → Hearing → Columns → Columns
rows_heard a h c = pick h.change.replaces (rows_over (schedules_of (a.rest.clock / a.rest.interval) a.rest.interval (take h.count h.quiets)) c) c

-- a refused frame changes no row
abbrev pub rows_by : Apart → Placed Hearing → Columns → Columns
rows_by a (Err x) c = c
rows_by a (Ok h) c = rows_heard a h c

-- the parts after a frame, and the verdict on it, are those of the station that takes it, which stays valid; only the rows of the frame's own schedules change
pub record HeardAs (frame : List ℕ) (a : Apart) (c : Columns) (r : Told) (after : Columns) : Type 0 where
  pub rows : after ≡ rows_by a (hearing_of (frame_laid (frame_means a.own a.ap a.rest.interval frame))) c
  pub verdict : r.verdict ≡ (take_of (whole_of a c) frame).verdict
  pub station : whole_of r.apart after ≡ (take_of (whole_of a c) frame).station
  pub valid : Valid (whole_of r.apart after)
