-- Which units are open, by the history, read unit by unit (00, demand 3, in the words of 02, Two), and the answers to a question (01, "The station": "First that
-- applies: 5 n is 0 or over 65,535; 1 a mode-1 switch is pending; 2 t is quiet; 3 some covered unit after t and before the pending
-- switch, if any, is quiet; 4 the switch lies before t + n; 0 granted").
use mathlib.Core.List.{Memᴰ}
use Rattle.std.specs.Prelude.{◌⊎◌, ◌≡◌, ℕ, ◌+◌, ◌<◌, ◌≤◌}
use Rattle.beacon.specs.Beacons.{Told}
use Rattle.element.specs.declared.channel_switch.ChannelSwitch.{ChannelSwitch}
use Rattle.element.specs.declared.quiet.Quiet.{Quiet}
use Rattle.station.specs.declared.asking.Permission.{Permission}
use Rattle.claims.specs.Histories.{History, Listener, clock_of}
use Rattle.claims.specs.QuietRuns.{CoversUnit}
use Rattle.claims.specs.Standing.{Awaits, Counts, Begun}

module _ (l : Listener) (h : History) where
  -- the unit lies in a quiet interval set by the latest accepted beacon or probe response since the last switch
  abbrev pub SetUnit : ℕ → Type 0
  SetUnit u =
      (said : Told) × (t : ℕ) × (q : Quiet) × Counts l h said t × Memᴰ q said.quiets × CoversUnit l.interval t q u

  -- the unit lies in a "quiet interval begun while its frame was the latest, with no switch at its beginning or since" (02, Two)
  abbrev pub BegunUnit : ℕ → Type 0
  BegunUnit u = (a : ℕ) × (e : ℕ) × Begun l h a e × (a ≤ u) × (u < e)

  -- the unit is quiet by the one or by the other
  abbrev pub QuietUnit : ℕ → Type 0
  QuietUnit u = SetUnit u ⊎ BegunUnit u

  -- the unit lies before any pending switch, outside the wait of a mode-1 announcement that is still the latest, outside every quiet
  -- interval that the latest frame set and outside every one that has begun
  pub record Open (u : ℕ) : Type 0 where
    pub before_switch : (at : ℕ) (w : ChannelSwitch) → Awaits l h at w → u < at
    pub no_wait : (at : ℕ) (w : ChannelSwitch) → Awaits l h at w → w.mode ≡ 1 → u < at → ⊥
    pub not_set : SetUnit u → ⊥
    pub not_begun : BegunUnit u → ⊥

  -- each unit that sending for n TU would cover is open
  abbrev pub AllOpen : ℕ → Type 0
  AllOpen n = (u : ℕ) → clock_of l h ≤ u → u < clock_of l h + n → Open u

  -- ---- what applies

  -- a mode-1 switch is pending
  abbrev pub Waits : Type 0
  Waits = (at : ℕ) × (w : ChannelSwitch) × Awaits l h at w × (w.mode ≡ 1)

  -- some covered unit after t and before the pending switch, if any, is quiet
  abbrev pub QuietLater : ℕ → Type 0
  QuietLater n =
      (u : ℕ) × (clock_of l h < u) × (u < clock_of l h + n) × ((at : ℕ) (w : ChannelSwitch) → Awaits l h at w → u < at) × QuietUnit u

  -- the switch lies before t + n
  abbrev pub SwitchWithin : ℕ → Type 0
  SwitchWithin n = (at : ℕ) × (w : ChannelSwitch) × Awaits l h at w × (at < clock_of l h + n)

  -- ---- the answers: each one exactly where it is the first that applies

  abbrev pub RightLength : ℕ → Type 0
  RightLength n = (1 ≤ n) × (n ≤ 65535)

  abbrev pub Applies : ℕ → Permission → Type 0
  Applies n Permission.WrongLength = (n ≡ 0) ⊎ (65535 < n)
  Applies n Permission.SwitchSilences = RightLength n × Waits
  Applies n Permission.QuietNow = RightLength n × (Waits → ⊥) × QuietUnit (clock_of l h)
  Applies n Permission.QuietLater = RightLength n × (Waits → ⊥) × (QuietUnit (clock_of l h) → ⊥) × QuietLater n
  Applies n Permission.SwitchBefore =
      RightLength n × (Waits → ⊥) × (QuietUnit (clock_of l h) → ⊥) × (QuietLater n → ⊥) × SwitchWithin n
  Applies n Permission.Granted = RightLength n × AllOpen n
