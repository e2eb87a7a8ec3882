-- Which octets hold a station (02, Eight): those that begin with the record of a valid one. Each field is read where `record_of` puts it, and the octets
-- are judged by tests; `holds_exactly` in the proofs says that a station is read exactly where it is held.
use Rattle.std.specs.Prelude.{Bool, not, ◌||◌, List, [], ◌∷◌, ◌++◌, ◌≡◌, ℕ, zero, suc, ◌+◌, ◌≤◌, ltb, eqb, length, Some, None, Option}
use Rattle.answer.specs.Checks.{Outcome, ◌⇒◌, judged, pick}
use Rattle.answer.specs.declared.Refusal.{Refusal}
use Rattle.beacon.specs.Beacons.{quiet_limit}
use Rattle.channel.specs.Centres.{highest}
use Rattle.octets.specs.Numbers.{octet, octets_from, number}
use Rattle.pending.specs.declared.Switch.{Switch}
use Rattle.schedule.specs.declared.Schedule.{Schedule}
use Rattle.station.specs.Starting.{start_forbids}
use Rattle.station.specs.Stations.{slotted}
use Rattle.station.specs.Validity.{Valid}
use Rattle.station.specs.declared.Station.{Station}
use Rattle.station_record.specs.Fits.{Fits}
use Rattle.station_record.specs.Records.{version, size, head_length, slot_length, record_of}
use Rattle.element.specs.declared.power_constraint.PowerConstraint.{PowerConstraint}

-- ---- what is absent has a 0 in front

abbrev pub power_at : List ℕ → Option PowerConstraint
power_at os = pick (eqb (octet 20 os) 0) None (Some (record { decibels = octet 21 os }))

abbrev pub switch_at : List ℕ → Switch
switch_at os = record { at = number 8 25 os; mode = octet 23 os; channel = octet 24 os }

abbrev pub pending_at : List ℕ → Option Switch
pending_at os = pick (eqb (octet 22 os) 0) None (Some (switch_at os))

-- ---- schedules one after the other, from a place on

abbrev pub schedule_at : ℕ → List ℕ → Schedule
schedule_at i os = record { start = number 8 i os; period = number 8 (i + 8) os; duration = number 2 (i + 16) os }

unfoldable pub schedules_from : ℕ → ℕ → List ℕ → List Schedule
schedules_from zero i os = []
schedules_from (suc n) i os = schedule_at i os ∷ schedules_from n (i + slot_length) os

abbrev pub station_at : List ℕ → Station
station_at os =
    record {
      own = octets_from 6 8 os;
      ap = octets_from 6 14 os;
      interval = number 2 2 os;
      clock = number 4 4 os;
      channel = octet 1 os;
      power = power_at os;
      pending = pending_at os;
      schedules = slotted (schedules_from (octet 41 os) head_length os);
      count = octet 41 os;
      until = number 8 33 os;
    }

-- ---- what no station's record has

-- a constraint that is neither there nor zeros
abbrev pub power_broken : List ℕ → Bool
power_broken os = pick (eqb (octet 20 os) 0) (not (eqb (octet 21 os) 0)) (not (eqb (octet 20 os) 1))

-- a switch that is neither zeros nor one that may be pending at the clock
abbrev pub switch_broken : Switch → ℕ → ℕ → Bool
switch_broken x flag clock =
    pick (eqb flag 0) (not (eqb x.at 0) || (not (eqb x.mode 0) || not (eqb x.channel 0)))
    (not (eqb flag 1) || (not (ltb clock x.at) || (ltb 1 x.mode || ltb highest x.channel)))

unfoldable pub no_record : List ℕ → Bool
no_record os =
    ltb (length os) size
    || (not (eqb (octet 0 os) version)
    || (start_forbids (octets_from 6 8 os) (octets_from 6 14 os) (number 2 2 os) (octet 1 os)
    || (power_broken os
    || (switch_broken (switch_at os) (octet 22 os) (number 4 4 os)
    || ltb quiet_limit (octet 41 os)))))

unfoldable pub held_in : List ℕ → Outcome Station
held_in os = judged (no_record os ⇒ Refusal.Impossible ∷ []) (station_at os)

-- ---- what that means

-- the octets begin with the record of this station, which is valid
pub record Holds (os : List ℕ) (s : Station) : Type 0 where
  pub valid : Valid s
  pub fits : Fits s
  pub roomy : size ≤ length os
  pub begins : (rest : List ℕ) × (os ≡ record_of s ++ rest)
