-- The clock (01, "The station" and "Answer numbers"): 14 where it would pass its limit, or the advance is over 65,535; when it reaches
-- the switch, the channel changes, and schedules, constraint and pending switch are gone; what runs on of older schedules ends too (02, Two: "A
-- channel switch still ends it").
use Rattle.std.specs.Prelude.{◌||◌, [], ◌∷◌, ℕ, ◌+◌, ltb, Ok, Err, Some, None, Option}
use Rattle.answer.specs.Checks.{Outcome, pick, ◌⇒◌, judged, and_then}
use Rattle.answer.specs.declared.Refusal.{Refusal}
use Rattle.station.specs.Stations.{clock_limit, unit_limit, with_clock, with_channel, with_power, with_pending, with_schedules, with_until}
use Rattle.station.specs.declared.Station.{Station}
use Rattle.station.specs.declared.clock.Advanced.{Advanced}
use Rattle.station.specs.declared.clock.Stepped.{Stepped}
use Rattle.pending.specs.declared.Switch.{Switch}

-- the answer of a call that may be refused, and the station after it
abbrev pub stepped : Station → Outcome Station → Stepped
stepped s (Err r) = record { answer = Err r; station = s }
stepped s (Ok next) = record { answer = Ok tt; station = next }

abbrev pub switched : Station → ℕ → Station
switched s channel = with_until (with_schedules (with_pending (with_power (with_channel s channel) None) None) []) 0

-- with the clock at t, a switch that lies no later has come
abbrev pub reached : ℕ → Option Switch → Advanced
reached t None = Advanced.Goes t
reached t (Some x) = pick (ltb t x.at) (Advanced.Goes t) (Advanced.Switches t x.channel)

-- an advance by n, as the clock and the pending switch decide it
unfoldable pub clock_advance : ℕ → Option Switch → ℕ → Outcome Advanced
clock_advance t p n = judged ((ltb unit_limit n || ltb clock_limit (t + n)) ⇒ Refusal.PastClock ∷ []) (reached (t + n) p)

-- what it makes of a station
abbrev pub advanced_to : Station → Advanced → Station
advanced_to s (Advanced.Goes t) = with_clock s t
advanced_to s (Advanced.Switches t channel) = switched (with_clock s t) channel

unfoldable pub advance_means : Station → ℕ → Outcome Station
advance_means s n = and_then (clock_advance s.clock s.pending n) (λ a. Ok (advanced_to s a))

abbrev pub advance_of : Station → ℕ → Stepped
advance_of s n = stepped s (advance_means s n)
