-- The pending switch after one call more, and whether that call brings a switch. Assumes nothing.
use Rattle.std.specs.Prelude.{Some, None, Option}
use mathlib.Core.List.{◌∷◌}
use mathlib.Core.Logic.{inl, inr}
use mathlib.Core.Path.{◌≡◌, refl, ap, ◌∙◌, subst}
use Prim.Native.Nat.{ℕ, ◌/◌, ◌<◌, ◌≤◌}
use native.Mathlib.Omega.{arith}
use Rattle.element.specs.declared.channel_switch.ChannelSwitch.{ChannelSwitch}
use Rattle.pending.specs.Waiting.{pending_by}
use Rattle.station.proofs.StaysValid.{moment_after}
use Rattle.claims.specs.Histories.{Call, History, Listener, clock_of, Announces, Latest}
use Rattle.claims.specs.Standing.{NoAnnouncement, Awaits, Switches, at_once_lem, reached, NoSwitch, PendingIs}
use Rattle.claims.specs.Tbtts.{CountedTo}
use Rattle.claims.proofs.CountingTbtts.{counting}
use Rattle.claims.proofs.Following.{Sound}
use Rattle.claims.proofs.OneSaying.{announces_one, announced_one}
use Rattle.pending.specs.declared.Switch.{Switch}

module _ (l : Listener) (sound : Sound l) (pos : 1 ≤ l.interval) (c : Call) (h : History) where
  -- ---- where the clock stands still

  module _ (still : clock_of l (c ∷ h) ≡ clock_of l h) where
    -- only a count of 0 brings a switch
    pub switch_in_frame : (w : ChannelSwitch) → Switches l c h w → Announces l c h w × (w.count ≡ 0)
    switch_in_frame w (at_once_lem a e) = (a, e)
    switch_in_frame w (reached at (last, come) le) = absurd (omega arith)

    module _ (none : NoAnnouncement l c h) where
      pub no_switch : NoSwitch l c h
      no_switch w x = none w (switch_in_frame w x).0

      pub pending_stays : (p : Option Switch) → PendingIs l h p → PendingIs l (c ∷ h) p
      unfolding Latest
      pending_stays None f = not_awaited
        where
          not_awaited : (at : ℕ) (w : ChannelSwitch) → Awaits l (c ∷ h) at w → ⊥
          not_awaited at w (inl (a, m), come) = none w a
          not_awaited at w (inr (x, last), come) = f at w (last, omega arith)
      pending_stays (Some x) (w, (last, come), m, n) = (w, (inr (none, last), omega arith), m, n)

    module _ (w : ChannelSwitch) (says : Announces l c h w) where
      same_count : (v : ChannelSwitch) → Announces l c h v → v.count ≡ w.count
      same_count v a = ap (λ (x : ChannelSwitch). x.count) (announces_one l sound c h v w a says)

      pub pending_gone : w.count ≡ 0 → PendingIs l (c ∷ h) None
      unfolding Latest CountedTo
      pending_gone e at v (inl (a, m), come) =
          let now : at ≡ clock_of l h = subst (λ (n : ℕ). CountedTo l.interval (clock_of l h) n at) (same_count v a ∙ e) m in
          omega arith
      pending_gone e at v (inr (none, last), come) = none w says

      module _ (more : 1 ≤ w.count) where
        pub pending_new : PendingIs l (c ∷ h) (pending_by w (clock_of l h / l.interval) l.interval)
        unfolding Latest
        pending_new = (
          w,
          (
            inl (says, counting l.interval pos (clock_of l h) w.count more),
            omega (arith, still, moment_after l.interval (clock_of l h) w.count pos more),
          ),
          refl,
          refl,
        )

        pub no_switch_yet : NoSwitch l c h
        no_switch_yet v x = let y = switch_in_frame v x in omega (arith, same_count v y.0, y.1)

  -- ---- where it goes on

  module _ (on : clock_of l h ≤ clock_of l (c ∷ h)) (none : NoAnnouncement l c h) where
    earlier : (at : ℕ) (w : ChannelSwitch) → Awaits l (c ∷ h) at w → Awaits l h at w
    unfolding Latest
    earlier at w (inl (a, m), come) = absurd (none w a)
    earlier at w (inr (x, last), come) = (last, omega arith)

    pub still_nothing : PendingIs l h None → PendingIs l (c ∷ h) None
    still_nothing f at w x = f at w (earlier at w x)

    pub nothing_reached : PendingIs l h None → NoSwitch l c h
    nothing_reached f w (at_once_lem a e) = none w a
    nothing_reached f w (reached at x le) = f at w x

    module _ (at : ℕ) (w : ChannelSwitch) (x : Awaits l h at w) where
      same_moment : (at' : ℕ) (v : ChannelSwitch) → Awaits l h at' v → at ≡ at'
      same_moment at' v y = ap (λ (z : ℕ × ChannelSwitch). z.0) (announced_one l sound pos h (at, w) (at', v) x.0 y.0)

      module _ (short : clock_of l (c ∷ h) < at) where
        pub still_awaited : Awaits l (c ∷ h) at w
        unfolding Latest
        still_awaited = (inr (none, x.0), short)

        pub not_reached : NoSwitch l c h
        not_reached v (at_once_lem a e) = none v a
        not_reached v (reached at' y le) = omega (arith, same_moment at' v y)

      pub no_longer : at ≤ clock_of l (c ∷ h) → PendingIs l (c ∷ h) None
      no_longer le at' v y = omega (arith, same_moment at' v (earlier at' v y), y.1)
