-- Channel, constraint and schedules after one call more, by whether it brings a switch. Assumes nothing.
use Rattle.std.specs.Prelude.{Some, None, Option}
use mathlib.Core.List.{List, [], ◌∷◌}
use mathlib.Core.Logic.{inl, inr}
use mathlib.Core.Path.{◌≡◌, refl, sym, ap, ◌∙◌}
use Prim.Native.Nat.{ℕ}
use Rattle.beacon.specs.Beacons.{Told}
use Rattle.element.specs.declared.channel_switch.ChannelSwitch.{ChannelSwitch}
use Rattle.element.specs.declared.power_constraint.PowerConstraint.{PowerConstraint}
use Rattle.schedule.specs.declared.Schedule.{Schedule}
use Rattle.claims.specs.Histories.{Call, History, Listener, clock_of, Tells, Constrains, Latest, Throughout}
use Rattle.claims.specs.Standing.{Switches, NoSwitch, Counts, ChannelIs, LastConstrained, PowerIs, SetsEach, SchedulesAre}
use Rattle.claims.proofs.Following.{Sound}
use Rattle.claims.proofs.OneSaying.{tells_one, no_power_said}

module _ (l : Listener) (c : Call) (h : History) where
  -- ---- a switch: the channel changes, and constraint and schedules are gone

  module _ (w : ChannelSwitch) (x : Switches l c h w) where
    pub channel_changes : ChannelIs l (c ∷ h) w.channel
    unfolding Latest
    channel_changes = inr (inl (w, x, refl))

    pub power_gone : PowerIs l (c ∷ h) None
    unfolding Latest
    power_gone p (inl (y, never)) = never w x
    power_gone p (inr ((y, never), last)) = never w x

    no_longer_counts : (said : Told) (t : ℕ) → Counts l (c ∷ h) said t → ⊥
    unfolding Latest
    no_longer_counts said t (inl (y, e, never)) = never w x
    no_longer_counts said t (inr ((y, never), last)) = never w x

    pub schedules_gone : SchedulesAre l (c ∷ h) []
    schedules_gone = inl (no_longer_counts, refl)

  -- ---- no switch

  module _ (calm : NoSwitch l c h) where
    pub channel_stays : (n : ℕ) → ChannelIs l h n → ChannelIs l (c ∷ h) n
    unfolding Latest Throughout
    channel_stays n (inl (never, e)) = inl ((calm, never), e)
    channel_stays n (inr last) = inr (inr (calm, last))

    module _ (silent : (p : PowerConstraint) → Constrains l c h p → ⊥) where
      pub power_stays : (m : Option PowerConstraint) → PowerIs l h m → PowerIs l (c ∷ h) m
      unfolding Latest
      power_stays None f = none
        where
          none : (p : PowerConstraint) → LastConstrained l (c ∷ h) p → ⊥
          none p (inl (y, z)) = silent p y
          none p (inr (y, last)) = f p last
      power_stays (Some p) last = inr ((silent, calm), last)

    module _ (silent : (said : Told) → Tells l c h said → ⊥) where
      pub schedules_stay : (xs : List Schedule) → SchedulesAre l h xs → SchedulesAre l (c ∷ h) xs
      unfolding Latest
      schedules_stay xs (inl (f, e)) = inl (none, e)
        where
          none : (said : Told) (t : ℕ) → Counts l (c ∷ h) said t → ⊥
          none said t (inl (y, z, w)) = silent said y
          none said t (inr (y, last)) = f said t last
      schedules_stay xs (inr (said, t, counts, each)) = inr (said, t, inr ((silent, calm), counts), each)

    -- a beacon or a probe response
    module _ (said : Told) (tells : Tells l c h said) where
      pub power_kept : (p : PowerConstraint) → said.notice.power ≡ Some p → PowerIs l (c ∷ h) (Some p)
      unfolding Latest
      power_kept p e = inl ((said, tells, e), calm)

      pub no_constraint : Sound l → said.notice.power ≡ None → (p : PowerConstraint) → Constrains l c h p → ⊥
      no_constraint sound e p (other, y, z) = no_power_said (sym e ∙ ap (λ (x : Told). x.notice.power) (tells_one l sound c h said other tells y) ∙ z)

      pub schedules_replaced : (xs : List Schedule) → SetsEach l (clock_of l h) said.quiets xs → SchedulesAre l (c ∷ h) xs
      unfolding Latest
      schedules_replaced xs each = inr (said, clock_of l h, inl (tells, refl, calm), each)
