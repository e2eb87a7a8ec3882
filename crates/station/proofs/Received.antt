-- From what `frame::read` hands out to what the frame means to the station, which stays valid. Assumes nothing.
use Rattle.std.specs.Prelude.{Ok, Err}
use mathlib.Core.List.{List}
use mathlib.Core.Path.{◌≡◌, refl, sym, ap, ◌∙◌, subst}
use Prim.Native.Nat.{ℕ}
use lib.ListN.{take}
use lib.Seq.{take_at}
use Rattle.answer.specs.Checks.{and_then}
use Rattle.answer.specs.Faults.{Placed}
use Rattle.element.specs.declared.quiet.Quiet.{Quiet}
use Rattle.frame.specs.Allowed.{ReceivedAllowed}
use Rattle.frame.specs.Frames.{Sent, frame_means}
use Rattle.frame.specs.Hearing.{by_frame}
use Rattle.frame.specs.Laid.{frame_of, quiets_of, frame_laid}
use Rattle.frame.specs.declared.Frame.{Frame}
use Rattle.frame.specs.declared.Received.{Received}
use Rattle.station.specs.CodeTerms.Changing.{changed}
use Rattle.station.specs.Taking.{informed, changed_by, taken, heard, heard_means, heard_of, take_means}
use Rattle.station.specs.Validity.{Valid}
use Rattle.station.specs.declared.Station.{Station}
use Rattle.station.proofs.StaysValid.{valid_changed}

module _ (s : Station) where
  -- what the frame changes, done the one way of every frame, is what its kind changes
  pub by_frame_lem : (f : Frame) (qs : List Quiet) → changed s (by_frame f) qs ≡ changed_by s f qs
  unfolding changed informed
  by_frame_lem (Frame.Beacon n) qs = refl
  by_frame_lem (Frame.ProbeResponse n) qs = refl
  by_frame_lem (Frame.MeasurementRequest token count) qs = refl
  by_frame_lem (Frame.MeasurementReport token count) qs = refl
  by_frame_lem (Frame.TpcRequest token) qs = refl
  by_frame_lem (Frame.TpcReport token t) qs = refl
  by_frame_lem (Frame.ChannelSwitch w) qs = refl

  -- the same of a reading, with the verdict on it
  pub heard_as : (o : Placed Received) → taken s (and_then o (λ v. Ok (changed s (by_frame v.frame) (take v.count v.quiets)))) ≡ heard_of s o
  unfolding heard_means
  heard_as (Err x) = refl
  heard_as (Ok v) = ap (λ (next : Station). taken s (Ok next)) (by_frame_lem v.frame (take v.count v.quiets))

  -- where what was heard is allowed, the station stays valid
  pub valid_heard : Valid s → (o : Placed Received) → ReceivedAllowed s.interval o → Valid (heard_of s o).station
  unfolding heard_means
  valid_heard v (Err x) allowed = v
  valid_heard v (Ok r) allowed = valid_changed s r.frame (take r.count r.quiets) v allowed

  pub still_valid : (x : Station) (v : Received) (o : Placed Received) → Valid s → o ≡ Ok v → x ≡ changed s (by_frame v.frame) (take v.count v.quiets)
      → ReceivedAllowed s.interval o → Valid x
  still_valid x v o valid e is allowed =
      subst Valid (sym (is ∙ by_frame_lem v.frame (take v.count v.quiets)))
      (valid_changed s v.frame (take v.count v.quiets) valid (subst (ReceivedAllowed s.interval) e allowed))

  -- what a reader hands out of an outcome
  pub laid_means : (o : Placed Sent) → heard_means s (frame_laid o) ≡ and_then o (λ sent. Ok (heard s sent.kind))
  unfolding heard_means
  laid_means (Err x) = refl
  laid_means (Ok x) = ap (λ (qs : List Quiet). Ok (changed_by s (frame_of x.kind) qs)) (take_at (quiets_of x.kind) _ _ refl)

  -- what was read is what the frame means
  pub read_means : (f : List ℕ) (o : Placed Received) → o ≡ frame_laid (frame_means s.own s.ap s.interval f) → heard_means s o ≡ take_means s f
  unfolding take_means
  read_means f o e = ap (heard_means s) e ∙ laid_means (frame_means s.own s.ap s.interval f)

pub ruleset heard_ways = (by_frame_lem, still_valid)
