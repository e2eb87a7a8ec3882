-- What a frame changes of a station as the code works it out: one way for every frame, in which what it does not have changes nothing.
use Rattle.std.specs.Prelude.{Bool, List, ◌++◌, ℕ, ltb, take, drop}
use Rattle.answer.specs.Checks.{pick}
use Rattle.element.specs.declared.quiet.Quiet.{Quiet}
use Rattle.frame.specs.declared.hearing.Change.{Change}
use Rattle.schedule.specs.declared.Schedule.{Schedule}
use Rattle.station.specs.Stations.{with_until}
use Rattle.station.specs.Taking.{outlasting, rescheduled, constrained, announced_if}
use Rattle.station.specs.declared.Station.{Station}
use Rattle.station.specs.declared.changing.Rest.{Rest}
use Rattle.station.specs.declared.replacing.Extent.{Extent}

-- ---- what a change makes of a station

abbrev pub replaced_if : Bool → Station → List Quiet → Station
replaced_if replaces s qs = pick replaces (rescheduled (with_until s (outlasting s)) qs) s

unfoldable pub changed : Station → Change → List Quiet → Station
changed s c qs = announced_if (constrained (replaced_if c.replaces s qs) c.power) c.switch

-- ---- the slots that are gone through, and how many are in use then

abbrev extent : ℕ → ℕ → Extent
extent top used = record { top = top; used = used }

abbrev pub extent_of : Bool → Bool → ℕ → ℕ → Extent
extent_of now replaces before count =
    pick now (extent before 0) (pick replaces (extent (pick (ltb before count) count before) count) (extent 0 before))

-- the first n slots of these, and after them those
abbrev pub overlaid : ℕ → List Schedule → List Schedule → List Schedule
overlaid n these those = take n these ++ drop n those

-- ---- what is kept beside addresses and schedules, put back

abbrev pub with_rest : Station → Rest → List Schedule → ℕ → Station
with_rest s r xs n =
    record {
      own = s.own;
      ap = s.ap;
      interval = s.interval;
      clock = s.clock;
      channel = r.channel;
      power = r.power;
      pending = r.pending;
      schedules = xs;
      count = n;
      until = r.until;
    }
