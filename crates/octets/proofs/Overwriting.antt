-- The ways out of the one writer, and octets over octets. Assumes nothing.
use Rattle.std.specs.Prelude.{Ok, Err, IfOk}
use mathlib.Core.Path.{◌≡◌, sym, ap, subst₂, ◌∙◌}
use mathlib.Core.Bool.{Bool}
use mathlib.Core.List.{List}
use Prim.Native.Nat.{ℕ, ◌+◌, ◌≤◌}
use lib.ListN.{length, take}
use lib.Seq.{paste-zero, take-length}
use Rattle.answer.specs.Checks.{Outcome}
use Rattle.octets.specs.Writing.{room, wrote, left, stored_by, over, after, Written}

-- the stored octets are all or none
pub stored_over : (may : Bool) (os : List ℕ) (at : ℕ) (buffer : List ℕ) (o : Outcome ℕ) → o ≡ room may (length os) at (length buffer) → IfOk o (λ (n : ℕ). (n ≡ length os) × (at + n ≤ length buffer))
    → over buffer at (take (stored_by o) os) ≡ left may os at buffer
unfolding wrote left
stored_over may os at buffer (Err r) e h = sym (paste-zero buffer at os) ∙ ap (λ (x : Outcome ℕ). after x os at buffer) e
stored_over may os at buffer (Ok n) e h =
    ap (over buffer at) (ap (λ (k : ℕ). take k os) h.0 ∙ take-length os) ∙ ap (λ (x : Outcome ℕ). after x os at buffer) e

-- what was written of a test and of octets was written of equal ones
pub written_as : {may may' : Bool} {os os' : List ℕ} {at : ℕ} {buffer : List ℕ} {answer : Outcome ℕ} {exit : List ℕ}
    → may ≡ may' → os ≡ os' → Written may os at buffer answer exit → Written may' os' at buffer answer exit
written_as {at} {buffer} {answer} {exit} e f w =
    subst₂ (λ m o. Written m o at buffer answer exit) e f w
