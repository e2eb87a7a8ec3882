-- Quiet intervals that have begun, and those of them that run on from replaced frames (02, Two). Assumes nothing.
use mathlib.Core.Bool.{true, false}
use mathlib.Core.List.Memᴰ
use mathlib.Core.List.{List, [], ◌∷◌, Memᴰ}
use mathlib.Core.Logic.{◌⊎◌, inl, inr, ⊎_elim}
use mathlib.Core.Path.{◌≡◌, refl, sym, ◌∙◌, subst}
use Prim.Native.Nat.{ℕ, ◌≤◌}
use native.Mathlib.Omega.{arith}
use Rattle.answer.proofs.Booleans.{either}
use Rattle.beacon.specs.Beacons.{Told}
use Rattle.element.specs.declared.channel_switch.ChannelSwitch.{ChannelSwitch}
use Rattle.frame.specs.Frames.{Kind, beacon, probe_response, action}
use Rattle.schedule.proofs.Ends.{none_later}
use Rattle.schedule.specs.Schedules.{EndsAt}
use Rattle.schedule.specs.declared.Schedule.{Schedule}
use Rattle.station.specs.Taking.{latest_end}
use Rattle.claims.specs.Histories.{Call, frame, advance, ask, History, too_far, clock_from, Listener, clock_of, Says, Tells, Latest}
use Rattle.claims.specs.Standing.{Switches, NoSwitch, BegunNow, Begun, RunsOn, SetsEach, SchedulesAre, UntilIs}
use Rattle.claims.proofs.CoveredUnits.{ends_begun, begun_ends}
use Rattle.claims.proofs.Following.{Sound}
use Rattle.claims.proofs.LatestEnds.{after_first, after_each, one_of}
use Rattle.claims.proofs.OneSaying.{counts_one}
use Rattle.claims.proofs.SetSchedules.{counts_allowed, counted_once, set_by_some, sets_some}

module _ (l : Listener) (sound : Sound l) where
  -- no call sets the clock back
  onward : (c : Call) (h : History) → clock_of l h ≤ clock_of l (c ∷ h)
  unfolding clock_from
  onward (frame f) h = omega arith
  onward (advance n) h =
      ⊎_elim (λ (y : too_far (clock_of l h) n ≡ true). simp y (omega arith)) (λ (k : too_far (clock_of l h) n ≡ false). simp k (omega arith)) (either (too_far (clock_of l h) n))
  onward (ask n) h = omega arith

  -- a call is an accepted beacon or probe response, or it is not
  tells_or_not : (c : Call) (h : History) → ((said : Told) × Tells l c h said) ⊎ ((said : Told) → Tells l c h said → ⊥)
  tells_or_not c h = ⊎_elim (λ x. by_kind x.0 x.1) (λ none. inr (λ said y. none y.0 y.1)) (sound.decided c h)
    where
      by_kind : (k : Kind) → l.hears c h k → ((said : Told) × Tells l c h said) ⊎ ((said : Told) → Tells l c h said → ⊥)
      by_kind (beacon t) hears = inl (t, (beacon t, hears, refl))
      by_kind (probe_response t) hears = inl (t, (probe_response t, hears, refl))
      by_kind (action body) hears = inr (λ said y. subst (λ (k : Kind). Says k said) (sound.one_kind c h y.0 (action body) y.1 hears) y.2)

  -- ---- what has begun, and what runs on

  begun_now : (h : History) (a e : ℕ) → BegunNow l h a e → Begun l h a e
  unfolding Latest
  begun_now [] a e now = absurd now.counts
  begun_now (c ∷ h) a e now = inl now

  -- what runs on has begun
  pub runs_on_begun : (h : History) (e : ℕ) → RunsOn l h e → (a : ℕ) × Begun l h a e × (a ≤ clock_of l h)
  unfolding Latest
  runs_on_begun [] e x = absurd x
  runs_on_begun (c ∷ h) e (inl (told, calm, (a, now))) = (a, inr (calm, begun_now h a e now), omega (arith, now.begun, onward c h))
  runs_on_begun (c ∷ h) e (inr (calm, last)) = let w = runs_on_begun h e last in (w.0, inr (calm, w.1), omega (arith, w.2, onward c h))

  -- while no other frame comes, the run is one of the latest frame's
  still_now : (c : Call) (h : History) (a e : ℕ) → NoSwitch l c h → ((said : Told) → Tells l c h said → ⊥) → BegunNow l h a e → BegunNow l (c ∷ h) a e
  unfolding Latest
  still_now c h a e calm silent now =
      record {
        said = now.said;
        accepted = now.accepted;
        counts = inr ((silent, calm), now.counts);
        quiet = now.quiet;
        among = now.among;
        begins = now.begins;
        begun = omega (arith, now.begun, onward c h);
        ends = now.ends;
      }

  -- what has begun is the latest frame's, or runs on
  pub begun_or_runs_on : (h : History) (a e : ℕ) → Begun l h a e → BegunNow l h a e ⊎ RunsOn l h e
  unfolding Latest
  begun_or_runs_on [] a e x = absurd x
  begun_or_runs_on (c ∷ h) a e (inl now) = inl now
  begun_or_runs_on (c ∷ h) a e (inr (calm, last)) =
      ⊎_elim
      (λ now. ⊎_elim (λ told. inr (inl (told, calm, (a, now)))) (λ silent. inl (still_now c h a e calm silent now)) (tells_or_not c h))
      (λ on. inr (inr (calm, on)))
      (begun_or_runs_on h a e last)

  -- ---- the ends of the schedules' runs are those of the latest frame's runs

  module _ (pos : 1 ≤ l.interval) (h : History) (xs : List Schedule) (schedules : SchedulesAre l h xs) (e : ℕ) where
    now_ends : (a : ℕ) → BegunNow l h a e → (x : Schedule) × Memᴰ x xs × EndsAt x (clock_of l h) e
    now_ends a now = by_schedules schedules
      where
        by_schedules : SchedulesAre l h xs → (x : Schedule) × Memᴰ x xs × EndsAt x (clock_of l h) e
        by_schedules (inl (f, z)) = absurd (f now.said now.accepted now.counts)
        by_schedules (inr (said, t, counts, each)) =
            let same = counts_one l sound pos h (said, t) (now.said, now.accepted) counts now.counts in
            let each' : SetsEach l now.accepted now.said.quiets xs = subst (λ (z : Told × ℕ). SetsEach l z.1 z.0.quiets xs) same each in
            let w = sets_some l now.accepted now.said.quiets xs now.quiet each' now.among in
            let once = counted_once l now.said.quiets now.quiet (counts_allowed l sound h now.said now.accepted now.counts) now.among in
            (w.0, w.1, begun_ends l pos now.accepted now.quiet w.0 w.2 once (clock_of l h) e a now.begins now.begun now.ends)

    ends_now : (x : Schedule) → Memᴰ x xs → EndsAt x (clock_of l h) e → (a : ℕ) × BegunNow l h a e
    ends_now x m ends = by_schedules schedules
      where
        by_schedules : SchedulesAre l h xs → (a : ℕ) × BegunNow l h a e
        by_schedules (inl (f, z)) = absurd (Memᴰ.not-nil (subst (Memᴰ x) z m))
        by_schedules (inr (said, t, counts, each)) =
            let w = set_by_some l t said.quiets xs x each m in
            let once = counted_once l said.quiets w.0 (counts_allowed l sound h said t counts) w.1 in
            let b = ends_begun l pos t w.0 x w.2 once (clock_of l h) e ends in (
              b.0,
              record { said = said; accepted = t; counts = counts; quiet = w.0; among = w.1; begins = b.1; begun = b.2; ends = b.3 },
            )

-- ---- the latest end after one call more

module _ (l : Listener) (c : Call) (h : History) where
  -- a switch: nothing runs on
  pub until_gone : (w : ChannelSwitch) → Switches l c h w → UntilIs l (c ∷ h) 0
  unfolding Latest
  until_gone w x = (λ e y. absurd (none e y), inl refl)
    where
      none : (e : ℕ) → RunsOn l (c ∷ h) e → ⊥
      none e (inl (told, calm, now)) = calm w x
      none e (inr (calm, last)) = calm w x

  module _ (calm : NoSwitch l c h) (n : ℕ) (until : UntilIs l h n) where
    pub until_stays : ((said : Told) → Tells l c h said → ⊥) → UntilIs l (c ∷ h) n
    unfolding Latest
    until_stays silent = (none_later_on, ⊎_elim (λ z. inl z) (λ last. inr (inr (calm, last))) until.1)
      where
        none_later_on : (e : ℕ) → RunsOn l (c ∷ h) e → e ≤ n
        none_later_on e (inl (told, z, now)) = absurd (silent told.0 told.1)
        none_later_on e (inr (z, last)) = until.0 e last

    -- a beacon or a probe response: what the schedules began runs on too
    pub until_replaced : Sound l → 1 ≤ l.interval → (said : Told) → Tells l c h said → (xs : List Schedule) → SchedulesAre l h xs
        → UntilIs l (c ∷ h) (latest_end (clock_of l h) n xs)
    unfolding Latest
    until_replaced sound pos said tells xs schedules = (none_later_on, ⊎_elim as_before_lem of_these (one_of (clock_of l h) xs n))
      where
        none_later_on : (e : ℕ) → RunsOn l (c ∷ h) e → e ≤ latest_end (clock_of l h) n xs
        none_later_on e (inl (told, z, (a, now))) =
            let w = now_ends l sound pos h xs schedules e a now in
            omega (arith, none_later w.0 (clock_of l h) e w.2, after_each (clock_of l h) xs n w.0 w.1)
        none_later_on e (inr (z, last)) = omega (arith, until.0 e last, after_first (clock_of l h) xs n)

        as_before_lem : latest_end (clock_of l h) n xs ≡ n → (latest_end (clock_of l h) n xs ≡ 0) ⊎ RunsOn l (c ∷ h) (latest_end (clock_of l h) n xs)
        as_before_lem e = ⊎_elim (λ z. inl (e ∙ z)) (λ last. inr (inr (calm, subst (RunsOn l h) (sym e) last))) until.1

        of_these : (x : Schedule) × Memᴰ x xs × EndsAt x (clock_of l h) (latest_end (clock_of l h) n xs)
            → (latest_end (clock_of l h) n xs ≡ 0) ⊎ RunsOn l (c ∷ h) (latest_end (clock_of l h) n xs)
        of_these (x, m, ends) = inr (inl ((said, tells), calm, ends_now l sound pos h xs schedules (latest_end (clock_of l h) n xs) x m ends))
