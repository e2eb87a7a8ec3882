-- The station of 01 hears only what its reader accepts, and its record follows what it hears, from any beginning of its history. Assumes nothing.
use Rattle.std.specs.Prelude.{Ok, Err}
use mathlib.Core.List.{List, [], ◌∷◌}
use mathlib.Core.Logic.{◌⊎◌, inl, inr}
use mathlib.Core.Path.{◌≡◌, refl, sym, ap, ◌∙◌}
use Prim.Native.Nat.{ℕ}
use Rattle.answer.proofs.Judged.{never}
use Rattle.answer.specs.Checks.{and_then}
use Rattle.answer.specs.Faults.{Placed}
use Rattle.frame.proofs.Allowing.{frame_allowed}
use Rattle.frame.specs.Allowed.{KindAllowed}
use Rattle.frame.specs.Frames.{Kind, Sent, frame_means}
use Rattle.station.specs.Taking.{taken, heard, take_means, take_of}
use Rattle.station.specs.declared.Station.{Station}
use Rattle.capture_record.specs.declared.entry.Settings.{Settings}
use Rattle.claims.specs.Histories.{Call, frame, advance, ask, History, Hears, listener_from}
use Rattle.claims.specs.Records.{record_from}
use Rattle.claims.proofs.Following.{Sound, Follows}
use Rattle.station.proofs.KeptThroughout.{KeptThroughout, kept_by, heard_keeps, advance_keeps}
use Rattle.claims.proofs.Same.{accepted_once}

-- what the outcome of reading a frame makes of the record
abbrev leaves : Station → Placed Sent → Station
leaves r o = (taken r (and_then o (λ x. Ok (heard r x.kind)))).station

take_keeps : (r : Station) (f : List ℕ) → kept_by (take_of r f).station ≡ kept_by r
unfolding take_means
take_keeps r f = by_outcome (frame_means r.own r.ap r.interval f)
  where
    by_outcome : (o : Placed Sent) → kept_by (leaves r o) ≡ kept_by r
    by_outcome (Err q) = refl
    by_outcome (Ok x) = heard_keeps r x.kind

module _ (s : Settings) where
  -- ---- what it hears

  hears_one : (c : Call) (k k' : Kind) → Hears s c k → Hears s c k' → k ≡ k'
  hears_one (frame f) k k' (a, x) (b, y) = ap (λ (z : Sent). z.kind) (accepted_once (sym x ∙ y))
  hears_one (advance n) k k' x y = absurd x
  hears_one (ask n) k k' x y = absurd x

  hears_or_not : (c : Call) → ((k : Kind) × Hears s c k) ⊎ ((k : Kind) → Hears s c k → ⊥)
  hears_or_not (frame f) = by_outcome (frame_means s.own s.ap s.interval f) refl
    where
      by_outcome : (o : Placed Sent) → frame_means s.own s.ap s.interval f ≡ o
          → ((k : Kind) × Hears s (frame f) k) ⊎ ((k : Kind) → Hears s (frame f) k → ⊥)
      by_outcome (Err q) e = inr (λ k y. never (sym e ∙ y.1))
      by_outcome (Ok x) e = inl (x.kind, (x.to_all, e))
  hears_or_not (advance n) = inr (λ k y. y)
  hears_or_not (ask n) = inr (λ k y. y)

  hears_allowed : (c : Call) (k : Kind) → Hears s c k → KindAllowed s.interval k
  hears_allowed (frame f) k (to_all, e) = frame_allowed s.interval s.own s.ap f _ e
  hears_allowed (advance n) k x = absurd x
  hears_allowed (ask n) k x = absurd x

module _ (t : ℕ) (s : Settings) where
  pub sound : Sound (listener_from t s)
  sound =
      record {
        advance_unheard = λ n h k x. x;
        ask_unheard = λ n h k x. x;
        one_kind = λ c h k k' x y. hears_one s c k k' x y;
        decided = λ c h. hears_or_not s c;
        allowed = λ c h k x. hears_allowed s c k x;
      }

  -- ---- its record

  pub kept : (h : History) → kept_by (record_from t s h) ≡ (s.own, s.ap, s.interval)
  unfolding record_from
  kept [] = refl
  kept (frame f ∷ h) = take_keeps (record_from t s h) f ∙ kept h
  kept (advance n ∷ h) = advance_keeps (record_from t s h) n ∙ kept h
  kept (ask n ∷ h) = kept h

  -- so a frame means to the record what it means by the settings
  taken_as_lem : (f : List ℕ) (h : History) (o : Placed Sent) → frame_means s.own s.ap s.interval f ≡ o
      → record_from t s (frame f ∷ h) ≡ leaves (record_from t s h) o
  unfolding record_from take_means
  taken_as_lem f h o e = ap (leaves (record_from t s h)) (ap (λ (z : KeptThroughout). frame_means z.0 z.1 z.2 f) (kept h) ∙ e)

  ignored : (f : List ℕ) (h : History) → ((k : Kind) → Hears s (frame f) k → ⊥) → record_from t s (frame f ∷ h) ≡ record_from t s h
  ignored f h none = by_outcome (frame_means s.own s.ap s.interval f) refl
    where
      by_outcome : (o : Placed Sent) → frame_means s.own s.ap s.interval f ≡ o → record_from t s (frame f ∷ h) ≡ record_from t s h
      by_outcome (Err q) e = taken_as_lem f h (Err q) e
      by_outcome (Ok x) e = absurd (none x.kind (x.to_all, e))

  pub follows : Follows (listener_from t s) (record_from t s)
  unfolding record_from
  follows =
      record {
        sound = sound;
        starts = (s.own, s.ap, refl);
        takes = λ f h k x. taken_as_lem f h _ x.1;
        ignores = ignored;
        advances = λ n h. refl;
        asks = λ n h. refl;
      }
