-- What stands after a history (01, "The station": "In the history, a switch happened where an announcement's moment was reached with no
-- later announcement accepted first. The schedules that count are those of the latest accepted beacon or probe response, unless a
-- switch came after it; a count of 0 in that same frame comes after it."), and which quiet intervals have begun (02, Two).
use mathlib.Core.List.{List, [], ◌∷◌, Memᴰ}
use Rattle.std.specs.Prelude.{◌⊎◌, ◌≡◌, ℕ, ◌+◌, ◌*◌, ◌<◌, ◌≤◌, Some, None, Option}
use Rattle.beacon.specs.Beacons.{Told}
use Rattle.element.specs.declared.channel_switch.ChannelSwitch.{ChannelSwitch}
use Rattle.element.specs.declared.power_constraint.PowerConstraint.{PowerConstraint}
use Rattle.element.specs.declared.quiet.Quiet.{Quiet}
use Rattle.schedule.specs.declared.Schedule.{Schedule}
use Rattle.claims.specs.Histories.{Call, History, Listener, clock_of, Tells, Announces, Constrains, Latest, Throughout}
use Rattle.claims.specs.QuietRuns.{RunBegins}
use Rattle.claims.specs.Tbtts.{CountedTo}
use Rattle.pending.specs.declared.Switch.{Switch}

module _ (l : Listener) where
  -- ---- announcements and switches

  abbrev pub NoAnnouncement : Call → History → Type 0
  NoAnnouncement c h = (w : ChannelSwitch) → Announces l c h w → ⊥

  -- the latest announcement is w, for the moment `at`: so many TBTTs after it was accepted, and with a count of 0 at once
  abbrev pub LastAnnounced : History → ℕ → ChannelSwitch → Type 0
  LastAnnounced h at w =
      Latest
      NoAnnouncement
      (λ c g. Announces l c g w × CountedTo l.interval (clock_of l g) w.count at)
      h

  -- its moment is still to come
  abbrev pub Awaits : History → ℕ → ChannelSwitch → Type 0
  Awaits h at w = LastAnnounced h at w × (clock_of l h < at)

  -- the call, made after h, brings a switch: by a count of 0, or since the clock reaches the moment that was awaited
  pub data Switches (c : Call) (h : History) (w : ChannelSwitch) : Type 0 where
    at_once_lem : Announces l c h w → w.count ≡ 0 → Switches c h w
    reached : (at : ℕ) → Awaits h at w → at ≤ clock_of l (c ∷ h) → Switches c h w

  abbrev pub NoSwitch : Call → History → Type 0
  NoSwitch c h = (w : ChannelSwitch) → Switches c h w → ⊥

  -- ---- the latest beacon or probe response

  -- it said this and was accepted at t, and no switch came with it or after it
  abbrev pub Counts : History → Told → ℕ → Type 0
  Counts h said t =
      Latest
      (λ c g. ((x : Told) → Tells l c g x → ⊥) × NoSwitch c g)
      (λ c g. Tells l c g said × (t ≡ clock_of l g) × NoSwitch c g)
      h

  -- ---- quiet intervals that have begun

  -- the latest beacon or probe response set a run from the unit a on and before e, and the clock has reached its first unit
  pub record BegunNow (h : History) (a e : ℕ) : Type 0 where
    pub said : Told
    pub accepted : ℕ
    pub counts : Counts h said accepted
    pub quiet : Quiet
    pub among : Memᴰ quiet said.quiets
    pub begins : RunBegins l.interval accepted quiet a
    pub begun : a ≤ clock_of l h
    pub ends : e ≡ a + quiet.duration

  -- such a run has begun while its frame was the latest, with no switch at its beginning or since
  abbrev pub Begun : History → ℕ → ℕ → Type 0
  Begun h a e = Latest NoSwitch (λ c g. BegunNow (c ∷ g) a e) h

  -- one that had begun, and ends before e, runs on: a later beacon or probe response replaced its frame, and no switch came with it or since
  abbrev pub RunsOn : History → ℕ → Type 0
  RunsOn h e = Latest NoSwitch (λ c g. ((said : Told) × Tells l c g said) × NoSwitch c g × ((a : ℕ) × BegunNow g a e)) h

  -- ---- each field of the record, as the history has it

  -- the latest switch gave the channel; before any switch it is that of the beginning
  abbrev pub ChannelIs : History → ℕ → Type 0
  ChannelIs h n =
      (Throughout NoSwitch h × (n ≡ l.channel))
      ⊎ Latest NoSwitch (λ c g. (w : ChannelSwitch) × Switches c g w × (n ≡ w.channel)) h

  -- the latest Power Constraint, and no switch with it or after it
  abbrev pub LastConstrained : History → PowerConstraint → Type 0
  LastConstrained h p =
      Latest
      (λ c g. ((x : PowerConstraint) → Constrains l c g x → ⊥) × NoSwitch c g)
      (λ c g. Constrains l c g p × NoSwitch c g)
      h

  abbrev pub PowerIs : History → Option PowerConstraint → Type 0
  PowerIs h None = (p : PowerConstraint) → LastConstrained h p → ⊥
  PowerIs h (Some p) = LastConstrained h p

  abbrev pub PendingIs : History → Option Switch → Type 0
  PendingIs h None = (at : ℕ) (w : ChannelSwitch) → Awaits h at w → ⊥
  PendingIs h (Some x) =
      (w : ChannelSwitch) × Awaits h x.at w × (w.mode ≡ x.mode) × (w.channel ≡ x.channel)

  -- a Quiet element that was accepted at t starts so far past the TBTT that it counts to, and runs again every so many TBTTs
  pub record Sets (t : ℕ) (q : Quiet) (x : Schedule) : Type 0 where
    pub tbtt : ℕ
    pub counted : CountedTo l.interval t q.count tbtt
    pub starts : x.start ≡ tbtt + q.offset
    pub repeats : x.period ≡ q.period * l.interval
    pub lasts : x.duration ≡ q.duration

  -- one schedule for each element, in their order
  abbrev pub SetsEach : ℕ → List Quiet → List Schedule → Type 0
  SetsEach t [] [] = Unit {0}
  SetsEach t [] (x ∷ xs) = ⊥
  SetsEach t (q ∷ qs) [] = ⊥
  SetsEach t (q ∷ qs) (x ∷ xs) = Sets t q x × SetsEach t qs xs

  abbrev pub SchedulesAre : History → List Schedule → Type 0
  SchedulesAre h xs =
      (((said : Told) (t : ℕ) → Counts h said t → ⊥) × (xs ≡ []))
      ⊎ ((said : Told) × (t : ℕ) × Counts h said t × SetsEach t said.quiets xs)

  -- the latest end of what runs on; 0 where nothing does
  abbrev pub UntilIs : History → ℕ → Type 0
  UntilIs h n = ((e : ℕ) → RunsOn h e → e ≤ n) × ((n ≡ 0) ⊎ RunsOn h n)
