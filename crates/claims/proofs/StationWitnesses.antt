-- Single histories that shut out stations which look right (01, "Wrong programs that look right", "How tight the promises are"): a
-- definition so wrong would break one of these. The moments marked P shut out more of them. Assumes nothing.
use Rattle.std.specs.Prelude.{Some, None}
use mathlib.Core.List.{List, [], ◌∷◌, ◌++◌}
use mathlib.Core.Path.{◌≡◌, refl}
use Prim.Native.Nat.{ℕ}
use lib.ListN.{replicate}
use Rattle.action.specs.Openings.{opens_with}
use Rattle.single_body.specs.Singles.{single}
use Rattle.walk.specs.Handed.{passing, handing}
use Rattle.walk.specs.Required.{required, nothing_left}
use Rattle.answer.specs.Checks.{checked}
use Rattle.beacon.specs.Beacons.{element_means, takes, says, beacon_means}
use Rattle.element.specs.ChannelSwitch.{switch_means}
use Rattle.octets.specs.Elements.{fixed}
use Rattle.element.specs.PowerConstraint.{power_means}
use Rattle.element.specs.Quiet.{quiet_means}
use Rattle.frame.specs.Actions.{action_means}
use Rattle.frame.specs.Frames.{frame_means}
use Rattle.header.specs.Headers.{foreign_header, foreign_address, to_all, header_means, management_means, address_means}
use Rattle.schedule.specs.Schedules.{covered, end_begun}
use Rattle.schedule.specs.Units.{some_unit}
use Rattle.station.specs.Asking.{first_of, covered_by, permission_of}
use Rattle.station.specs.Asking as Asking
use Rattle.station.specs.Clock.{clock_advance, advance_means}
use Rattle.station.specs.Taking.{latest_end, announced, informed, take_means}
use Rattle.walk.specs.Elements.{elements_after, elements_in}
use Rattle.claims.specs.Histories.{Call, advance}
use Rattle.claims.specs.Moments.{Moment, asking, AllRight, ours, heard, beacon_of, quiet, switch_soon, announcement, quiet_since}
use Rattle.claims.specs.Records.{record_from, record_after}

-- Quiet with this count: period 0, duration 10, offset 20
abbrev quiet_after : ℕ → List ℕ
quiet_after count = 40 ∷ 6 ∷ count ∷ 0 ∷ 10 ∷ 0 ∷ 20 ∷ 0 ∷ []

-- Quiet for so many units from this offset on: count 1, period 0
abbrev quiet_for : ℕ → ℕ → List ℕ
quiet_for duration offset = 40 ∷ 6 ∷ 1 ∷ 0 ∷ duration ∷ 0 ∷ offset ∷ 0 ∷ []

-- one from 120 to 219, accepted at 50, with the clock at 125
abbrev long : List Call
long = advance 75 ∷ beacon_of (quiet_for 100 20) ∷ advance 50 ∷ []

-- one from 120 to 219 and, of a later frame, one from 200 to 209, with the clock at 205
abbrev long_and_short : List Call
long_and_short = advance 75 ∷ beacon_of (quiet_for 10 0) ∷ advance 5 ∷ long

-- Power Constraint of 3 dB
abbrev constraint : List ℕ
constraint = 32 ∷ 1 ∷ 3 ∷ []

-- a switch to channel 44 at once
abbrev switch_now : List ℕ
switch_now = 37 ∷ 3 ∷ 0 ∷ 44 ∷ 0 ∷ []

abbrev witnesses : List Moment
witnesses =
    -- the first of two Quiet elements counts, and so does the second
    asking (advance 120 ∷ beacon_of (quiet_after 1 ++ quiet_after 2) ∷ []) 1 2
    ∷ asking (advance 220 ∷ beacon_of (quiet_after 1 ++ quiet_after 2) ∷ []) 1 2
    -- a later beacon is obeyed, and so is a probe response
    ∷ asking (advance 70 ∷ beacon_of (quiet 0) ∷ advance 50 ∷ beacon_of [] ∷ []) 1 2
    ∷ asking (advance 70 ∷ heard 80 (replicate 8 0 ++ (100 ∷ 0 ∷ 1 ∷ 0 ∷ quiet 0)) ∷ advance 50 ∷ []) 1 2
    -- a beacon that is refused, for its interval, is not
    ∷ asking (advance 70 ∷ heard 128 (replicate 8 0 ++ (101 ∷ 0 ∷ 1 ∷ 0 ∷ [])) ∷ beacon_of (quiet 0) ∷ advance 50 ∷ []) 1 2
    -- an announcement of mode 1 silences, until its switch
    ∷ asking (announcement 1 ∷ advance 50 ∷ []) 1 1
    ∷ asking (advance 49 ∷ announcement 1 ∷ advance 50 ∷ []) 1 1
    ∷ asking (advance 50 ∷ announcement 1 ∷ advance 50 ∷ []) 1 0
    -- a count of 0 comes after the schedules of its own frame
    ∷ asking (advance 70 ∷ beacon_of (quiet 0 ++ switch_now) ∷ advance 50 ∷ []) 1 0
    -- a switch ends the schedules
    ∷ asking (advance 70 ∷ announcement 0 ∷ beacon_of (quiet 0) ∷ advance 50 ∷ []) 1 0
    -- an interval that begins at the very moment at which a later beacon is accepted has begun, one that begins a unit later has not
    ∷ asking (advance 1 ∷ beacon_of [] ∷ quiet_since 0 70) 1 2
    ∷ asking (advance 2 ∷ beacon_of [] ∷ quiet_since 0 69) 1 0
    -- two run on from two frames, the longer one set first: the latest end counts
    ∷ asking (advance 14 ∷ beacon_of [] ∷ long_and_short) 1 2
    ∷ asking (advance 15 ∷ beacon_of [] ∷ long_and_short) 1 0
    -- where a switch comes at the first unit of an interval, or between its frame and it, the interval never begins
    ∷ asking (beacon_of [] ∷ advance 55 ∷ announcement 0 ∷ beacon_of (quiet_for 10 0) ∷ advance 50 ∷ []) 1 0
    ∷ asking (beacon_of [] ∷ advance 75 ∷ announcement 0 ∷ quiet_since 0 0) 1 0
    -- a switch ends what runs on, and so does a count of 0 in the frame that replaces the schedules
    ∷ asking (advance 74 ∷ beacon_of (switch_soon 0) ∷ long) 1 2
    ∷ asking (advance 75 ∷ beacon_of (switch_soon 0) ∷ long) 1 0
    ∷ asking (beacon_of switch_now ∷ long) 1 0
    ∷ []

pub witnesses_right : AllRight witnesses
unfolding record_from take_means frame_means header_means management_means address_means foreign_header foreign_address to_all beacon_means checked says takes element_means elements_in elements_after quiet_means switch_means fixed action_means opens_with required handing passing nothing_left single announced informed latest_end end_begun clock_advance advance_means permission_of first_of Asking.quiet covered_by some_unit covered
witnesses_right = (refl, (refl, (refl, (refl, (refl, (refl, (refl, (refl, (refl, (refl, (refl, (refl, (refl, (refl, (refl, (refl, (refl, (refl, (refl, tt)))))))))))))))))))

-- ---- the record

-- a Power Constraint is kept
pub constraint_kept : (record_after ours (beacon_of constraint ∷ [])).power ≡ Some (record { decibels = 3 })
unfolding record_from take_means frame_means header_means management_means address_means foreign_header foreign_address to_all beacon_means checked says takes element_means elements_in elements_after power_means fixed announced informed
constraint_kept = refl

-- and does not outlive a switch
pub constraint_gone : (record_after ours (advance 100 ∷ announcement 0 ∷ beacon_of constraint ∷ [])).power ≡ None
unfolding record_from take_means frame_means header_means management_means address_means foreign_header foreign_address to_all beacon_means checked says takes element_means elements_in elements_after power_means switch_means fixed action_means opens_with required handing passing nothing_left single announced informed clock_advance advance_means
constraint_gone = refl

-- a switch is for the next TBTT, wherever in the interval it was announced
pub counted_from_tbtt : (record_after ours (announcement 0 ∷ advance 99 ∷ [])).pending ≡ Some (record { at = 100; mode = 0; channel = 40 })
unfolding record_from take_means frame_means header_means management_means address_means foreign_header foreign_address to_all checked elements_in elements_after switch_means fixed action_means opens_with required handing passing nothing_left single announced informed clock_advance advance_means
counted_from_tbtt = refl

-- and when it comes, the channel is the new one
pub channel_new : (record_after ours (advance 1 ∷ announcement 0 ∷ advance 99 ∷ [])).channel ≡ 40
unfolding record_from take_means frame_means header_means management_means address_means foreign_header foreign_address to_all checked elements_in elements_after switch_means fixed action_means opens_with required handing passing nothing_left single announced informed clock_advance advance_means
channel_new = refl
