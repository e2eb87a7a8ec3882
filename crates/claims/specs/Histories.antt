-- The history of one station (00, demand 3): what it goes by from its beginning on, the calls that it was given since, refused ones
-- among them, and what can be read off them. Nothing here names a station's record or a step of one.
use Rattle.std.specs.Prelude.{Bool, ◌||◌, List, [], ◌∷◌, ◌⊎◌, ◌≡◌, ℕ, ◌+◌, ltb, Ok, Some}
use Rattle.answer.specs.Checks.{pick}
use Rattle.beacon.specs.Beacons.{Told}
use Rattle.capture_record.specs.declared.entry.Settings.{Settings}
use Rattle.element.specs.declared.channel_switch.ChannelSwitch.{ChannelSwitch}
use Rattle.element.specs.declared.power_constraint.PowerConstraint.{PowerConstraint}
use Rattle.frame.specs.Announcements.{announcement_in}
use Rattle.frame.specs.Frames.{Kind, beacon, probe_response, action, frame_means}

-- a call as it was made: the octets of a frame, an advance by so many TU, a question to send for so many TU
pub data Call : Type 0 where
  frame : List ℕ → Call
  advance : ℕ → Call
  ask : ℕ → Call

-- the calls so far, the latest first
abbrev pub History : Type 0
History = List Call

-- ---- the clock

-- "clock would pass its limit, or the advance is over 65,535": such an advance is refused
abbrev pub too_far : ℕ → ℕ → Bool
too_far t n = ltb 65535 n || ltb 4294967295 (t + n)

-- the clock after the calls of a history that began when it was at t
unfoldable pub clock_from : ℕ → History → ℕ
clock_from t [] = t
clock_from t (frame f ∷ h) = clock_from t h
clock_from t (advance n ∷ h) = pick (too_far (clock_from t h) n) (clock_from t h) (clock_from t h + n)
clock_from t (ask n ∷ h) = clock_from t h

-- "The clock counts TU from 0 at start"
abbrev pub clock_after : History → ℕ
clock_after h = clock_from 0 h

-- ---- accepted frames

-- a station by what it goes by: the clock at the beginning of its history, its beacon interval, its channel at the beginning, and as what kind of frame it
-- hears a call, after the calls before it. To hear is to accept: a call that is no frame, or a refused one, is heard as nothing
pub record Listener : Type 1 where
  pub begins : ℕ
  pub interval : ℕ
  pub channel : ℕ
  pub hears : Call → History → Kind → Type 0

-- its clock after the calls
abbrev pub clock_of : Listener → History → ℕ
clock_of l h = clock_from l.begins h

-- by a station's settings (01): the call was a frame that was accepted, and it was of this kind
abbrev pub Hears : Settings → Call → Kind → Type 0
Hears s (frame f) k = (to_all : Bool) × (frame_means s.own s.ap s.interval f ≡ Ok (record { to_all = to_all; kind = k }))
Hears s (advance n) k = ⊥
Hears s (ask n) k = ⊥

-- the station of 01 with a history that begins at t, as for a row that is joined at t (02, Six): whether it accepts a frame depends on the frame alone,
-- whatever came before
abbrev pub listener_from : ℕ → Settings → Listener
listener_from t s = record { begins = t; interval = s.interval; channel = s.channel; hears = λ c h k. Hears s c k }

-- started, and so with a history that begins at 0
abbrev pub listener : Settings → Listener
listener s = listener_from 0 s

-- a beacon or a probe response says this
abbrev pub Says : Kind → Told → Type 0
Says (beacon t) said = t ≡ said
Says (probe_response t) said = t ≡ said
Says (action body) said = ⊥

-- the call, made after h, was an accepted beacon or probe response
abbrev pub Tells : Listener → Call → History → Told → Type 0
Tells l c h said = (k : Kind) × l.hears c h k × Says k said

-- it was an accepted announcement
abbrev pub Announces : Listener → Call → History → ChannelSwitch → Type 0
Announces l c h w = (k : Kind) × l.hears c h k × (announcement_in k ≡ Some w)

-- it was an accepted beacon or probe response with a Power Constraint
abbrev pub Constrains : Listener → Call → History → PowerConstraint → Type 0
Constrains l c h p = (said : Told) × Tells l c h said × (said.notice.power ≡ Some p)

-- ---- the latest of some calls

-- one of the calls is such that Q, with the calls before it, and every later one such that P
unfoldable pub Latest : (P Q : Call → History → Type 0) → History → Type 0
Latest P Q [] = ⊥
Latest P Q (c ∷ h) = Q c h ⊎ (P c h × Latest P Q h)

-- every call is such that P
unfoldable pub Throughout : (P : Call → History → Type 0) → History → Type 0
Throughout P [] = Unit {0}
Throughout P (c ∷ h) = P c h × Throughout P h
