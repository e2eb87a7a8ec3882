-- The moments that 01 marks P ("Moments on both sides", B = 100), and those of 02, Two, as one list: calls through raw octets, a question, its answer; and the
-- densities of eight times.
use Rattle.std.specs.Prelude.{List, [], ◌∷◌, ◌++◌, ◌≡◌, ℕ, replicate, Ok}
use Rattle.octets.specs.Sums.{sum_of}
use Rattle.fraction.specs.Fractions.{densities_of}
use Rattle.station.specs.Asking.{permission_number, permission_of}
use Rattle.capture_record.specs.declared.entry.Settings.{Settings}
use Rattle.claims.specs.Histories.{Call, frame, advance, History}
use Rattle.claims.specs.Records.{record_after}

-- ---- a station and its frames

abbrev pub ours : Settings
ours = record { own = 2 ∷ 0 ∷ 0 ∷ 0 ∷ 0 ∷ 1 ∷ []; ap = 2 ∷ 0 ∷ 0 ∷ 0 ∷ 0 ∷ 9 ∷ []; interval = 100; channel = 36 }

-- a frame from the AP to the station, by its first octet and its body
abbrev pub heard : ℕ → List ℕ → Call
heard first body = frame ((first ∷ 0 ∷ 0 ∷ 0 ∷ []) ++ ours.own ++ ours.ap ++ ours.ap ++ (0 ∷ 0 ∷ body))

abbrev pub beacon_of : List ℕ → Call
beacon_of elements = heard 128 (replicate 8 0 ++ (100 ∷ 0 ∷ 1 ∷ 0 ∷ elements))

-- Quiet: count 1, this period, duration 10, offset 20
abbrev pub quiet : ℕ → List ℕ
quiet period = 40 ∷ 6 ∷ 1 ∷ period ∷ 10 ∷ 0 ∷ 20 ∷ 0 ∷ []

-- Channel Switch Announcement: this mode, channel 40, count 1
abbrev pub switch_soon : ℕ → List ℕ
switch_soon mode = 37 ∷ 3 ∷ mode ∷ 40 ∷ 1 ∷ []

abbrev pub announcement : ℕ → Call
announcement mode = heard 208 (0 ∷ 4 ∷ switch_soon mode)

-- the Quiet element accepted at 50, and n units more
abbrev pub quiet_since : ℕ → ℕ → History
quiet_since period n = advance n ∷ beacon_of (quiet period) ∷ advance 50 ∷ []

-- ---- the list

pub data Moment : Type 0 where
  -- after these calls, the latest first, a question for so many units gets this answer
  asking : History → ℕ → ℕ → Moment
  -- these times over so many TU have these densities, of this sum
  densities : ℕ → List ℕ → List ℕ → ℕ → Moment

abbrev pub Right : Moment → Type 0
Right (asking calls n answer) = permission_number (permission_of (record_after ours calls) n) ≡ answer
Right (densities duration times ds sum) = (densities_of duration times ≡ Ok ds) × (sum_of ds ≡ sum)

abbrev pub AllRight : List Moment → Type 0
AllRight [] = Unit {0}
AllRight (m ∷ ms) = Right m × AllRight ms

abbrev pub moments : List Moment
moments =
    -- at 119, 120, 129 and 130
    asking (quiet_since 0 69) 1 0
    ∷ asking (quiet_since 0 69) 2 3
    ∷ asking (quiet_since 0 70) 1 2
    ∷ asking (quiet_since 0 79) 1 2
    ∷ asking (quiet_since 0 80) 1 0
    -- with period 2, at 319 and 330
    ∷ asking (quiet_since 2 269) 2 3
    ∷ asking (quiet_since 2 280) 1 0
    -- a beacon without Quiet at 110: at 120
    ∷ asking (advance 10 ∷ beacon_of [] ∷ quiet_since 0 60) 1 0
    -- one at 125, when the interval has begun (02, Two): at 126, 129 and 130
    ∷ asking (advance 1 ∷ beacon_of [] ∷ quiet_since 0 75) 1 2
    ∷ asking (advance 4 ∷ beacon_of [] ∷ quiet_since 0 75) 1 2
    ∷ asking (advance 5 ∷ beacon_of [] ∷ quiet_since 0 75) 1 0
    -- the same Quiet and a mode-0 switch at 100: at 90
    ∷ asking (advance 40 ∷ announcement 0 ∷ quiet_since 0 0) 50 4
    -- mode 0, count 1 at 50: at 99
    ∷ asking (advance 49 ∷ announcement 0 ∷ advance 50 ∷ []) 1 0
    ∷ asking (advance 49 ∷ announcement 0 ∷ advance 50 ∷ []) 2 4
    -- mode 1, then mode 0
    ∷ asking (announcement 0 ∷ announcement 1 ∷ advance 50 ∷ []) 1 0
    -- ask 0
    ∷ asking [] 0 5
    -- densities of six times 129 and two 125, duration 1
    ∷ densities 1 (replicate 6 129 ++ replicate 2 125) (replicate 6 33 ++ replicate 2 32) 262
    ∷ []
