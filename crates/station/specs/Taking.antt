-- Taking a frame (01, "The station"): what an accepted one changes. A refused one changes nothing, and says where it broke (02, One).
use Rattle.std.specs.Prelude.{List, [], ◌∷◌, map, ℕ, ◌/◌, ltb, eqb, take, Ok, Err, Some, None, Option}
use Rattle.answer.specs.Checks.{pick, and_then}
use Rattle.answer.specs.Faults.{Placed}
use Rattle.beacon.specs.Beacons.{Told, tells}
use Rattle.element.specs.declared.channel_switch.ChannelSwitch.{ChannelSwitch}
use Rattle.element.specs.declared.quiet.Quiet.{Quiet}
use Rattle.frame.specs.Frames.{Kind, frame_means}
use Rattle.frame.specs.Laid.{frame_of, quiets_of}
use Rattle.frame.specs.declared.Frame.{Frame}
use Rattle.frame.specs.declared.Received.{Received}
use Rattle.pending.specs.Waiting.{pending_by}
use Rattle.schedule.specs.Schedules.{set_by, end_begun}
use Rattle.schedule.specs.declared.Schedule.{Schedule}
use Rattle.station.specs.Clock.{switched}
use Rattle.station.specs.Stations.{in_use, with_power, with_pending, with_schedules, with_until}
use Rattle.station.specs.declared.Station.{Station}
use Rattle.station.specs.declared.taking.Taken.{Taken}
use Rattle.element.specs.declared.power_constraint.PowerConstraint.{PowerConstraint}

-- k, the whole part of t / B
abbrev pub passed : Station → ℕ
passed s = s.clock / s.interval

-- the schedules that Quiet elements set, k beacon intervals of b units having passed
abbrev pub schedules_of : ℕ → ℕ → List Quiet → List Schedule
schedules_of k b qs = map (λ q. set_by q k b) qs

-- the later of two moments
abbrev pub later : ℕ → ℕ → ℕ
later d e = pick (ltb d e) e d

-- the latest of an end and of those of the schedules' runs that have begun by t (02, Two: "several may run and the latest end counts")
unfoldable pub latest_end : ℕ → ℕ → List Schedule → ℕ
latest_end t e [] = e
latest_end t e (x ∷ xs) = latest_end t (later e (end_begun x t)) xs

-- until when it stays quiet where the schedules are replaced now: a run that has begun keeps its whole length
abbrev pub outlasting : Station → ℕ
outlasting s = latest_end s.clock s.until (in_use s)

-- all schedules are replaced, by none where there is no Quiet element
abbrev pub rescheduled : Station → List Quiet → Station
rescheduled s qs = with_schedules s (schedules_of (passed s) s.interval qs)

-- a Power Constraint, if present, is kept
abbrev pub constrained : Station → Option PowerConstraint → Station
constrained s None = s
constrained s (Some p) = with_power s (Some p)

-- count c ≥ 1: the switch is at (k + c) times B; count 0: at once
unfoldable pub announced : Station → ChannelSwitch → Station
announced s w =
    pick (eqb w.count 0) (switched s w.channel)
    (with_pending s (pending_by w (passed s) s.interval))

abbrev pub announced_if : Station → Option ChannelSwitch → Station
announced_if s None = s
announced_if s (Some w) = announced s w

-- a beacon or a probe response: first the schedules, of which what has begun runs on, then the Power Constraint, then the announcement
unfoldable pub informed : Station → Told → Station
informed s t =
    announced_if (constrained (rescheduled (with_until s (outlasting s)) t.quiets) t.notice.power) t.notice.switch

-- an accepted frame, with the Quiet elements beside it; other action frames change nothing
abbrev pub changed_by : Station → Frame → List Quiet → Station
changed_by s (Frame.Beacon n) qs = informed s (tells n qs)
changed_by s (Frame.ProbeResponse n) qs = informed s (tells n qs)
changed_by s (Frame.MeasurementRequest token count) qs = s
changed_by s (Frame.MeasurementReport token count) qs = s
changed_by s (Frame.TpcRequest token) qs = s
changed_by s (Frame.TpcReport token t) qs = s
changed_by s (Frame.ChannelSwitch w) qs = announced s w

-- the verdict on a frame, and the station after it
abbrev pub taken : Station → Placed Station → Taken
taken s (Err x) = record { verdict = Err x; station = s }
taken s (Ok next) = record { verdict = Ok tt; station = next }

-- what a reader handed out: a refusal stays one, and a count past the slots is that of all of them
unfoldable pub heard_means : Station → Placed Received → Placed Station
heard_means s o = and_then o (λ v. Ok (changed_by s v.frame (take v.count v.quiets)))

abbrev pub heard_of : Station → Placed Received → Taken
heard_of s o = taken s (heard_means s o)

-- an accepted frame of each kind
abbrev pub heard : Station → Kind → Station
heard s k = changed_by s (frame_of k) (quiets_of k)

-- the octets of a frame, read by the station's own settings
unfoldable pub take_means : Station → List ℕ → Placed Station
take_means s f = and_then (frame_means s.own s.ap s.interval f) (λ sent. Ok (heard s sent.kind))

abbrev pub take_of : Station → List ℕ → Taken
take_of s f = taken s (take_means s f)
