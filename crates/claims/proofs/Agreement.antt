-- The record agrees with the history, field by field, whatever the calls (00, demand 3). Assumes nothing.
use Rattle.std.specs.Prelude.{Some, None, Option}
use mathlib.Core.Bool.{true, false}
use mathlib.Core.List.{List, [], ◌∷◌}
use mathlib.Core.Logic.{inl, ⊎_elim}
use mathlib.Core.Path.{◌≡◌, refl, sym, ap, ◌∙◌, subst}
use Prim.Native.Nat.{ℕ, ◌+◌, ◌*◌, ◌/◌, ◌<◌, ◌≤◌}
use native.Mathlib.Omega.{arith}
use borrow.Author.Tests.{ltb-true, ltb-false, eqb-true, eqb-false}
use lib.Dec.{ltb, eqb}
use lib.Seq.{take_at}
use Rattle.answer.specs.Checks.{checked}
use Rattle.answer.proofs.Booleans.{either, neither}
use Rattle.beacon.specs.Allowed.{QuietsAllowed}
use Rattle.beacon.specs.Beacons.{Told}
use Rattle.element.specs.declared.channel_switch.ChannelSwitch.{ChannelSwitch}
use Rattle.element.specs.declared.quiet.Quiet.{Quiet}
use Rattle.frame.specs.Announcements.{announcement_in}
use Rattle.frame.specs.Actions.{Body, requests, reports, tpc_request, tpc_report, switch}
use Rattle.frame.specs.Allowed.{KindAllowed}
use Rattle.frame.specs.Frames.{Kind, beacon, probe_response, action}
use Rattle.station.specs.Clock.{switched, reached, clock_advance, advanced_to, advance_means, advance_of}
use Rattle.station.specs.Stations.{in_use, fresh, with_clock, with_until}
use Rattle.station.specs.Taking.{schedules_of, latest_end, outlasting, rescheduled, constrained, announced, announced_if, informed, heard}
use Rattle.station.specs.declared.Station.{Station}
use Rattle.capture_record.specs.declared.entry.Settings.{Settings}
use Rattle.claims.specs.Histories.{Call, frame, advance, ask, History, too_far, clock_from, Listener, clock_of, listener_from, Says, Tells, Announces, Latest, Throughout}
use Rattle.claims.specs.Records.{Agreeing, record_from, AgreesFrom, record_after, Agrees}
use Rattle.claims.specs.Standing.{NoAnnouncement, Switches, at_once_lem, NoSwitch, ChannelIs, PowerIs, PendingIs, SetsEach, SchedulesAre, UntilIs}
use Rattle.claims.specs.Standing as Standing
use Rattle.claims.proofs.BegunRuns.{until_gone, until_stays, until_replaced}
use Rattle.claims.proofs.CountingTbtts.{counting}
use Rattle.claims.proofs.Following.{Sound, Follows}
use Rattle.claims.proofs.OneSaying.{no_switch_said}
use Rattle.claims.proofs.Others.{channel_changes, power_gone, schedules_gone, channel_stays, power_stays, schedules_stay, power_kept, no_constraint, schedules_replaced}
use Rattle.claims.proofs.Pendings.{no_switch, pending_stays, pending_gone, pending_new, no_switch_yet, still_nothing, nothing_reached, still_awaited, not_reached, no_longer}
use Rattle.claims.proofs.StationFollows.{follows, kept}
use Rattle.element.specs.declared.power_constraint.PowerConstraint.{PowerConstraint}
use Rattle.pending.specs.declared.Switch.{Switch}

module _ (l : Listener) (sound : Sound l) (pos : 1 ≤ l.interval) where
  -- ---- at the beginning

  at_beginning : (own ap' : List ℕ) → Agreeing l [] (with_clock (fresh own ap' l.interval l.channel) l.begins)
  unfolding clock_from Latest Throughout
  at_beginning own ap' =
      record {
        same_interval = refl;
        same_clock = refl;
        channel_told = inl (tt, refl);
        power_told_lem = λ p x. x;
        pending_told = λ at w x. x.0;
        schedules_told = inl (λ said t x. x, refl);
        until_told = (λ e x. absurd x, inl refl);
      }

  -- ---- the schedules of a beacon or a probe response

  sets_each : (t : ℕ) (qs : List Quiet) → QuietsAllowed l.interval qs → SetsEach l t qs (schedules_of (t / l.interval) l.interval qs)
  sets_each t [] a = tt
  sets_each t (q ∷ qs) a = (
    record {
      tbtt = (t / l.interval + q.count) * l.interval;
      counted =
          counting l.interval pos t q.count
          (omega (arith, eqb-false q.count 0 (neither (eqb q.count 0) _ a.0).0));
      starts = refl;
      repeats = refl;
      lasts = refl;
    },
    sets_each t qs a.1,
  )

  in_use_lem : (r : Station) (qs : List Quiet) → in_use (rescheduled r qs) ≡ schedules_of (r.clock / r.interval) r.interval qs
  in_use_lem r qs = take_at (schedules_of (r.clock / r.interval) r.interval qs) _ _ refl

  module _ (h : History) (r : Station) (a : Agreeing l h r) where
    -- ---- a call that changes nothing

    idle : (c : Call) → clock_of l (c ∷ h) ≡ clock_of l h → NoAnnouncement l c h → ((said : Told) → Tells l c h said → ⊥) → Agreeing l (c ∷ h) r
    idle c still none silent =
        let calm = no_switch l sound pos c h still none in
        record {
          same_interval = a.same_interval;
          same_clock = a.same_clock ∙ sym still;
          channel_told = channel_stays l c h calm r.channel a.channel_told;
          power_told_lem = power_stays l c h calm (λ p x. silent x.0 x.1) r.power a.power_told_lem;
          pending_told = pending_stays l sound pos c h still none r.pending a.pending_told;
          schedules_told = schedules_stay l c h calm silent (in_use r) a.schedules_told;
          until_told = until_stays l c h calm r.until a.until_told silent;
        }

    -- one that is heard as nothing
    unheard : (c : Call) → clock_of l (c ∷ h) ≡ clock_of l h → ((k : Kind) → l.hears c h k → ⊥) → Agreeing l (c ∷ h) r
    unheard c still none = idle c still (λ w y. none y.0 y.1) (λ said y. none y.0 y.1)

    -- ---- an accepted frame: `x` is the record before its announcement

    module _ (c : Call) (k : Kind) (x : Station) (still : clock_of l (c ∷ h) ≡ clock_of l h) (hears : l.hears c h k)
        (interval : x.interval ≡ l.interval) (clock : x.clock ≡ clock_of l h)
        (channel : ChannelIs l h x.channel) (pending : PendingIs l h x.pending)
        (power : NoSwitch l c h → PowerIs l (c ∷ h) x.power) (schedules : NoSwitch l c h → SchedulesAre l (c ∷ h) (in_use x))
        (until : NoSwitch l c h → UntilIs l (c ∷ h) x.until) where
      silent_frame : announcement_in k ≡ None → Agreeing l (c ∷ h) x
      silent_frame e =
          let none : NoAnnouncement l c h = λ w y. no_switch_said (sym e ∙ ap announcement_in (sound.one_kind c h k y.0 hears y.1) ∙ y.2) in
          let calm = no_switch l sound pos c h still none in
          record {
            same_interval = interval;
            same_clock = clock ∙ sym still;
            channel_told = channel_stays l c h calm x.channel channel;
            power_told_lem = power calm;
            pending_told = pending_stays l sound pos c h still none x.pending pending;
            schedules_told = schedules calm;
            until_told = until calm;
          }

      module _ (w : ChannelSwitch) (e : announcement_in k ≡ Some w) where
        says : Announces l c h w
        says = (k, hears, e)

        announces_now : w.count ≡ 0 → Agreeing l (c ∷ h) (switched x w.channel)
        announces_now z =
            record {
              same_interval = interval;
              same_clock = clock ∙ sym still;
              channel_told = channel_changes l c h w (at_once_lem says z);
              power_told_lem = power_gone l c h w (at_once_lem says z);
              pending_told = pending_gone l sound pos c h still w says z;
              schedules_told = schedules_gone l c h w (at_once_lem says z);
              until_told = until_gone l c h w (at_once_lem says z);
            }

        announces_later : eqb w.count 0 ≡ false → Agreeing l (c ∷ h) (announced x w)
        unfolding announced
        announces_later n =
            let more : 1 ≤ w.count = omega (arith, eqb-false w.count 0 n) in
            let calm = no_switch_yet l sound pos c h still w says more in
            simp n
            (record {
              same_interval = interval;
              same_clock = clock ∙ sym still;
              channel_told = channel_stays l c h calm x.channel channel;
              power_told_lem = power calm;
              pending_told = rw (clock, interval) (pending_new l sound pos c h still w says more);
              schedules_told = schedules calm;
              until_told = until calm;
            })

        announces : Agreeing l (c ∷ h) (announced x w)
        unfolding announced
        announces =
            ⊎_elim
            (λ (y : eqb w.count 0 ≡ true). simp y (announces_now (eqb-true w.count 0 y)))
            (λ (n : eqb w.count 0 ≡ false). announces_later n)
            (either (eqb w.count 0))

      announces_if : (m : Option ChannelSwitch) → announcement_in k ≡ m → Agreeing l (c ∷ h) (announced_if x m)
      announces_if None e = silent_frame e
      announces_if (Some w) e = announces w e

    -- ---- a beacon or a probe response

    module _ (c : Call) (k : Kind) (said : Told) (still : clock_of l (c ∷ h) ≡ clock_of l h) (hears : l.hears c h k) (says' : Says k said)
        (allowed : QuietsAllowed l.interval said.quiets) where
      tells : Tells l c h said
      tells = (k, hears, says')

      -- the record with the new schedules, and with what the old ones began
      abbrev replaced : Station
      replaced = rescheduled (with_until r (outlasting r)) said.quiets

      new_schedules : NoSwitch l c h → SchedulesAre l (c ∷ h) (in_use replaced)
      new_schedules calm =
          rw (in_use_lem (with_until r (outlasting r)) said.quiets, a.same_clock, a.same_interval)
          (schedules_replaced l c h calm said tells _ (sets_each (clock_of l h) said.quiets allowed))

      runs_on : NoSwitch l c h → UntilIs l (c ∷ h) (outlasting r)
      runs_on calm =
          subst (λ (t : ℕ). UntilIs l (c ∷ h) (latest_end t r.until (in_use r))) (sym a.same_clock)
          (until_replaced l c h calm r.until a.until_told sound pos said tells (in_use r) a.schedules_told)

      notices : (m : Option PowerConstraint) → said.notice.power ≡ m → Agreeing l (c ∷ h) (announced_if (constrained replaced m) (announcement_in k))
      notices None e =
          announces_if c k replaced still hears a.same_interval a.same_clock
          a.channel_told a.pending_told
          (λ calm. power_stays l c h calm (no_constraint l c h calm said tells sound e) r.power a.power_told_lem)
          new_schedules runs_on (announcement_in k) refl
      notices (Some p) e =
          announces_if c k (constrained replaced (Some p)) still hears a.same_interval
          a.same_clock a.channel_told a.pending_told
          (λ calm. power_kept l c h calm said tells p e)
          new_schedules runs_on (announcement_in k) refl

    -- ---- any frame

    module _ (f : List ℕ) where
      still_frame : clock_of l (frame f ∷ h) ≡ clock_of l h
      unfolding clock_from
      still_frame = refl

      -- an action frame but the announcement
      changes_nothing : (body : Body) → l.hears (frame f) h (action body) → announcement_in (action body) ≡ None → Agreeing l (frame f ∷ h) r
      changes_nothing body hears e =
          idle (frame f) still_frame
          (λ w y. no_switch_said (sym e ∙ ap announcement_in (sound.one_kind (frame f) h (action body) y.0 hears y.1) ∙ y.2))
          (λ said y. subst (λ (z : Kind). Says z said) (sound.one_kind (frame f) h y.0 (action body) y.1 hears) y.2)

      hears_kind : (k : Kind) → l.hears (frame f) h k → KindAllowed l.interval k → Agreeing l (frame f ∷ h) (heard r k)
      unfolding informed
      hears_kind (beacon t) hears ok = notices (frame f) (beacon t) t still_frame hears refl ok.quiets_allowed t.notice.power refl
      hears_kind (probe_response t) hears ok =
          notices (frame f) (probe_response t) t still_frame hears refl ok.quiets_allowed t.notice.power refl
      hears_kind (action (requests token rs)) hears ok = changes_nothing (requests token rs) hears refl
      hears_kind (action (reports token rs)) hears ok = changes_nothing (reports token rs) hears refl
      hears_kind (action (tpc_request token)) hears ok = changes_nothing (tpc_request token) hears refl
      hears_kind (action (tpc_report token t)) hears ok = changes_nothing (tpc_report token t) hears refl
      hears_kind (action (switch w)) hears ok =
          announces_if (frame f) (action (switch w)) r still_frame hears a.same_interval a.same_clock
          a.channel_told a.pending_told
          (λ calm. power_stays l (frame f) h calm (λ p x. silent x.0 x.1) r.power a.power_told_lem)
          (λ calm. schedules_stay l (frame f) h calm silent (in_use r) a.schedules_told)
          (λ calm. until_stays l (frame f) h calm r.until a.until_told silent)
          (Some w) refl
        where
          silent : (said : Told) → Tells l (frame f) h said → ⊥
          silent said y = subst (λ (z : Kind). Says z said) (sound.one_kind (frame f) h y.0 (action (switch w)) y.1 hears) y.2

    -- ---- the clock goes on

    module _ (n : ℕ) (t : ℕ) (moves : clock_of l (advance n ∷ h) ≡ t) (on : clock_of l h ≤ t) where
      onward : clock_of l h ≤ clock_of l (advance n ∷ h)
      onward = omega arith

      nobody : NoAnnouncement l (advance n) h
      nobody w y = sound.advance_unheard n h y.0 y.1

      silence : (said : Told) → Tells l (advance n) h said → ⊥
      silence said y = sound.advance_unheard n h y.0 y.1

      -- no switch on the way
      goes_on : NoSwitch l (advance n) h → PendingIs l (advance n ∷ h) r.pending → Agreeing l (advance n ∷ h) (with_clock r t)
      goes_on calm pending =
          record {
            same_interval = a.same_interval;
            same_clock = sym moves;
            channel_told = channel_stays l (advance n) h calm r.channel a.channel_told;
            power_told_lem = power_stays l (advance n) h calm (λ p x. silence x.0 x.1) r.power a.power_told_lem;
            pending_told = pending;
            schedules_told = schedules_stay l (advance n) h calm silence (in_use r) a.schedules_told;
            until_told = until_stays l (advance n) h calm r.until a.until_told silence;
          }

      meets : (w : ChannelSwitch) → Switches l (advance n) h w → PendingIs l (advance n ∷ h) None
          → Agreeing l (advance n ∷ h) (switched (with_clock r t) w.channel)
      meets w x pending =
          record {
            same_interval = a.same_interval;
            same_clock = sym moves;
            channel_told = channel_changes l (advance n) h w x;
            power_told_lem = power_gone l (advance n) h w x;
            pending_told = pending;
            schedules_told = schedules_gone l (advance n) h w x;
            until_told = until_gone l (advance n) h w x;
          }

      reaches : Agreeing l (advance n ∷ h) (advanced_to r (reached t r.pending))
      reaches = by_pending r.pending refl
        where
          by_pending : (p : Option Switch) → r.pending ≡ p → Agreeing l (advance n ∷ h) (advanced_to r (reached t p))
          by_pending None e =
              let before = subst (PendingIs l h) e a.pending_told in
              goes_on (nothing_reached l sound pos (advance n) h onward nobody before)
              (subst (PendingIs l (advance n ∷ h)) (sym e) (still_nothing l sound pos (advance n) h onward nobody before))
          by_pending (Some q) e =
              let before : PendingIs l h (Some q) = subst (PendingIs l h) e a.pending_told in
              let w = before.0 in
              ⊎_elim
              (λ (y : ltb t q.at ≡ true).
              let short : clock_of l (advance n ∷ h) < q.at = omega (arith, ltb-true t q.at y) in
              simp y
              (goes_on (not_reached l sound pos (advance n) h onward nobody q.at w before.1 short)
              (subst (PendingIs l (advance n ∷ h)) (sym e)
              (w, still_awaited l sound pos (advance n) h onward nobody q.at w before.1 short, before.2, before.3))))
              (λ (k : ltb t q.at ≡ false).
              let come : q.at ≤ clock_of l (advance n ∷ h) = omega (arith, ltb-false t q.at k) in
              simp k
              (subst (λ (m : ℕ). Agreeing l (advance n ∷ h) (switched (with_clock r t) m)) before.3
              (meets w (Standing.reached q.at before.1 come) (no_longer l sound pos (advance n) h onward nobody q.at w before.1 come))))
              (either (ltb t q.at))

    module _ (n : ℕ) where
      same_test : too_far r.clock n ≡ too_far (clock_of l h) n
      same_test = rw a.same_clock

      refused_stays : clock_of l (advance n ∷ h) ≡ clock_of l h → Agreeing l (advance n ∷ h) r
      refused_stays still = unheard (advance n) still (sound.advance_unheard n h)

      advances : Agreeing l (advance n ∷ h) (advance_of r n).station
      unfolding advance_means clock_advance clock_from checked
      advances =
          ⊎_elim
          (λ (y : too_far r.clock n ≡ true). simp y (refused_stays (simp (sym same_test ∙ y))))
          (λ (k : too_far r.clock n ≡ false). simp k (reaches n (r.clock + n) (simp (sym same_test ∙ k) (rw a.same_clock)) (omega (arith, a.same_clock))))
          (either (too_far r.clock n))

-- ---- whatever the calls, and whoever listens

module _ (l : Listener) (after : History → Station) (follow : Follows l after) (pos : 1 ≤ l.interval) where
  abbrev hearing : Sound l
  hearing = follow.sound

  takes : (f : List ℕ) (h : History) → Agreeing l h (after h) → Agreeing l (frame f ∷ h) (after (frame f ∷ h))
  takes f h a =
      ⊎_elim
      (λ x.
      subst (Agreeing l (frame f ∷ h)) (sym (follow.takes f h x.0 x.1))
      (hears_kind l hearing pos h (after h) a f x.0 x.1 (hearing.allowed (frame f) h x.0 x.1)))
      (λ none.
      subst (Agreeing l (frame f ∷ h)) (sym (follow.ignores f h none))
      (unheard l hearing pos h (after h) a (frame f) (still_frame l hearing pos h (after h) a f) none))
      (hearing.decided (frame f) h)

  pub agreeing : (h : History) → Agreeing l h (after h)
  unfolding clock_from
  agreeing [] = subst (Agreeing l []) (sym follow.starts.2) (at_beginning l hearing pos follow.starts.0 follow.starts.1)
  agreeing (frame f ∷ h) = takes f h (agreeing h)
  agreeing (advance n ∷ h) = subst (Agreeing l (advance n ∷ h)) (sym (follow.advances n h)) (advances l hearing pos h (after h) (agreeing h) n)
  agreeing (ask n ∷ h) = subst (Agreeing l (ask n ∷ h)) (sym (follow.asks n h)) (unheard l hearing pos h (after h) (agreeing h) (ask n) refl (hearing.ask_unheard n h))

-- the station of 01, from any beginning
pub agrees_from : (t : ℕ) (s : Settings) → 1 ≤ s.interval → (h : History) → AgreesFrom t s h (record_from t s h)
agrees_from t s pos h =
    record {
      same_own = ap (λ z. z.0) (kept t s h);
      same_ap = ap (λ z. z.1) (kept t s h);
      as_heard = agreeing (listener_from t s) (record_from t s) (follows t s) pos h;
    }

-- and so from its start
pub agrees : (s : Settings) → 1 ≤ s.interval → (h : History) → Agrees s h (record_after s h)
agrees s pos h = agrees_from 0 s pos h
