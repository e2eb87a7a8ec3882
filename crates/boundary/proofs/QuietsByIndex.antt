-- A Quiet element by its index, out of the slots that a reader hands out. Assumes nothing.
use Rattle.std.specs.Prelude.{Ok, Err}
use mathlib.Core.Bool.{Bool, true, false}
use mathlib.Core.List.{List, [], ◌∷◌, ◌++◌}
use mathlib.Core.Path.{◌≡◌, refl, sym, ap, ◌∙◌}
use Prim.Native.Nat.{ℕ, zero, suc, ◌-◌, ◌<◌, ◌≤◌}
use native.Mathlib.Omega.{arith}
use borrow.Author.Tests.{leb-true, leb-false}
use lib.Dec.{leb}
use lib.ListN.{length, get_or, replicate}
use Rattle.answer.proofs.Judged.{never}
use Rattle.answer.specs.Checks.{pick}
use Rattle.answer.specs.Faults.{Placed}
use Rattle.answer.specs.declared.Refusal.{Refusal}
use Rattle.beacon.specs.Beacons.{quiet_limit}
use Rattle.beacon.specs.Laid.{no_quiet, slots}
use Rattle.element.specs.declared.quiet.Quiet.{Quiet}
use Rattle.frame.specs.Frames.{Sent}
use Rattle.frame.specs.IbssFrames.{SentInIbss}
use Rattle.frame.specs.IbssLaid.{ibss_laid}
use Rattle.frame.specs.Laid.{received, frame_of, quiets_of, frame_laid}
use Rattle.frame.specs.declared.Received.{Received}
use Rattle.measurement_body.specs.Lists.{nth}
use Rattle.boundary.specs.CodeTerms.HeldQuiets.{held_quiet}
use Rattle.boundary.specs.ElementFields.{quiet_of}
use Rattle.boundary.specs.IbssFields.{sent_in}

past_last : (i : ℕ) (qs : List Quiet) → length qs ≤ i → nth i qs ≡ Err Refusal.Impossible
unfolding nth
past_last i [] h = refl
past_last zero (q ∷ qs) h = absurd (omega arith)
past_last (suc i) (q ∷ qs) h = past_last i qs (omega arith)

at_index : (i : ℕ) (qs rest : List Quiet) (blank : Quiet) → i < length qs → nth i qs ≡ Ok (get_or (qs ++ rest) i blank)
unfolding nth
at_index i [] rest blank h = absurd (omega arith)
at_index zero (q ∷ qs) rest blank h = refl
at_index (suc i) (q ∷ qs) rest blank h = at_index i qs rest blank (omega arith)

-- of what was laid out
pub quiet_held : (i : ℕ) (o : Placed Sent) {v : Received} → frame_laid o ≡ Ok v → quiet_of i o ≡ held_quiet i v
quiet_held i (Err x) e = absurd (never e)
quiet_held i (Ok s) {v} e = sym (by (leb (length (quiets_of s.kind)) i) refl) ∙ ap (held_quiet i) (let same : received (frame_of s.kind) s.to_all (quiets_of s.kind) ≡ v = cc in same)
  where
    by : (t : Bool) → leb (length (quiets_of s.kind)) i ≡ t
        → pick t (Err Refusal.Impossible) (Ok (get_or (slots (quiets_of s.kind)) i no_quiet)) ≡ nth i (quiets_of s.kind)
    by true e = sym (past_last i (quiets_of s.kind) (leb-true (length (quiets_of s.kind)) i e))
    by false e =
        sym (at_index i (quiets_of s.kind) (replicate (quiet_limit - length (quiets_of s.kind)) no_quiet) no_quiet (leb-false (length (quiets_of s.kind)) i e))

-- ---- in an IBSS: of what 01 reads of the frame

pub laid_in_ibss : (o : Placed SentInIbss) → (ibss_laid o).received ≡ frame_laid (sent_in o)
laid_in_ibss (Err x) = refl
laid_in_ibss (Ok s) = refl
