-- What is heard of a frame comes to what the station makes of it. Assumes nothing.
use Rattle.std.specs.Prelude.{Ok, Err}
use mathlib.Core.List.{List}
use mathlib.Core.Path.{◌≡◌, refl, sym, ap, ◌∙◌, subst}
use Prim.Native.Nat.{ℕ}
use lib.ListN.{take}
use Rattle.answer.specs.Checks.{and_then}
use Rattle.answer.specs.Faults.{Placed}
use Rattle.answer.specs.declared.Fault.{Fault}
use Rattle.frame.proofs.Allowing.{read_allowed}
use Rattle.frame.specs.Frames.{frame_means}
use Rattle.frame.specs.Hearing.{hearing_of}
use Rattle.frame.specs.Laid.{frame_laid}
use Rattle.frame.specs.declared.Received.{Received}
use Rattle.frame.specs.declared.hearing.Hearing.{Hearing}
use Rattle.station.proofs.Received.{heard_as, valid_heard, read_means}
use Rattle.station.specs.CodeTerms.Changing.{changed}
use Rattle.station.specs.Taking.{taken, take_of}
use Rattle.station.specs.Validity.{Valid}
use Rattle.station.specs.declared.Station.{Station}
use Rattle.station.specs.declared.taking.Taken.{Taken}
use Rattle.apart.specs.Apart.{whole_of, rows_heard, rows_by, HeardAs}
use Rattle.apart.specs.declared.Apart.{Apart}
use Rattle.apart.specs.declared.columns.Columns.{Columns}

-- ---- the station's taking of a frame, by what is heard of it

module _ (s : Station) where
  abbrev after : Placed Hearing → Placed Station
  after o = and_then o (λ h. Ok (changed s h.change (take h.count h.quiets)))

  after_heard : (o : Placed Received) → taken s (after (hearing_of o)) ≡ taken s (and_then o (λ v. after (hearing_of (Ok v))))
  after_heard (Err x) = refl
  after_heard (Ok v) = refl

  take_heard : (f : List ℕ) → taken s (after (hearing_of (frame_laid (frame_means s.own s.ap s.interval f)))) ≡ take_of s f
  take_heard f =
      let o = frame_laid (frame_means s.own s.ap s.interval f) in
      after_heard o ∙ heard_as s o ∙ ap (taken s) (read_means s f o refl)

  -- it is valid
  valid_taken : (f : List ℕ) → Valid s → Valid (take_of s f).station
  valid_taken f v =
      let o = frame_laid (frame_means s.own s.ap s.interval f) in
      subst (λ (next : Placed Station). Valid (taken s next).station) (read_means s f o refl) (valid_heard s v o (read_allowed s.interval s.own s.ap f))

-- ---- the parts after a frame, by what is heard of it

module _ (a : Apart) (c : Columns) (f : List ℕ) where
  by_parts : (r : Placed Hearing) → r ≡ hearing_of (frame_laid (frame_means a.own a.ap a.rest.interval f)) → taken (whole_of a c) (after (whole_of a c) r) ≡ take_of (whole_of a c) f
  unfolding whole_of
  by_parts r e = ap (λ (o : Placed Hearing). taken (whole_of a c) (after (whole_of a c) o)) e ∙ take_heard (whole_of a c) f

  -- a refused frame changes nothing
  pub refused : (x : Fault) → Err x ≡ hearing_of (frame_laid (frame_means a.own a.ap a.rest.interval f)) → Valid (whole_of a c)
      → HeardAs f a c (record { verdict = Err x; apart = a }) c
  refused x e v =
      let t = by_parts (Err x) e in
      record {
        rows = ap (λ (o : Placed Hearing). rows_by a o c) e;
        verdict = ap (λ (y : Taken). y.verdict) t;
        station = ap (λ (y : Taken). y.station) t;
        valid = v;
      }

  pub accepted : (h : Hearing) (next : Apart) (later : Columns) → Ok h ≡ hearing_of (frame_laid (frame_means a.own a.ap a.rest.interval f)) → Valid (whole_of a c)
      → whole_of next later ≡ changed (whole_of a c) h.change (take h.count h.quiets) → later ≡ rows_heard a h c
      → HeardAs f a c (record { verdict = Ok tt; apart = next }) later
  accepted h next later e v same rows =
      let t = by_parts (Ok h) e in
      let station = same ∙ ap (λ (y : Taken). y.station) t in
      record {
        rows = rows ∙ ap (λ (o : Placed Hearing). rows_by a o c) e;
        verdict = ap (λ (y : Taken). y.verdict) t;
        station = station;
        valid = subst Valid (sym station) (valid_taken (whole_of a c) f v);
      }
