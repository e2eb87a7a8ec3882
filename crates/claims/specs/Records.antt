-- The record that a station keeps, beside its history: what the calls make of it by their meanings, and what it is for the record to
-- agree with the history, field by field (00, demand 3: "The small record the station keeps agrees with this history").
use Rattle.std.specs.Prelude.{[], ◌∷◌, ◌≡◌, ℕ}
use Rattle.station.specs.Clock.{advance_of}
use Rattle.station.specs.Stations.{fresh, in_use, with_clock}
use Rattle.station.specs.Taking.{take_of}
use Rattle.station.specs.declared.Station.{Station}
use Rattle.capture_record.specs.declared.entry.Settings.{Settings}
use Rattle.claims.specs.Histories.{frame, advance, ask, History, Listener, clock_of, listener_from}
use Rattle.claims.specs.Standing.{ChannelIs, PowerIs, PendingIs, SchedulesAre, UntilIs}

-- whoever listened, every field is what the history says, but for the addresses, of which it says nothing
pub record Agreeing (l : Listener) (h : History) (r : Station) : Type 0 where
  pub same_interval : r.interval ≡ l.interval
  pub same_clock : r.clock ≡ clock_of l h
  pub channel_told : ChannelIs l h r.channel
  pub power_told_lem : PowerIs l h r.power
  pub pending_told : PendingIs l h r.pending
  pub schedules_told : SchedulesAre l h (in_use r)
  pub until_told : UntilIs l h r.until

-- ---- the station of 01

-- with a history that begins at t: there it is "a fresh station, at the present clock" (02, Six)
module _ (t : ℕ) (s : Settings) where
  unfoldable pub record_from : History → Station
  record_from [] = with_clock (fresh s.own s.ap s.interval s.channel) t
  record_from (frame f ∷ h) = (take_of (record_from h) f).station
  record_from (advance n ∷ h) = (advance_of (record_from h) n).station
  record_from (ask n ∷ h) = record_from h

  -- the addresses are those of the settings
  pub record AgreesFrom (h : History) (r : Station) : Type 0 where
    pub same_own : r.own ≡ s.own
    pub same_ap : r.ap ≡ s.ap
    pub as_heard : Agreeing (listener_from t s) h r

-- started, and so with a history that begins at 0
module _ (s : Settings) where
  abbrev pub record_after : History → Station
  record_after h = record_from 0 s h

  abbrev pub Agrees : History → Station → Type 0
  Agrees h r = AgreesFrom 0 s h r
