-- Demand 1 for writers and frames: a refused write puts no byte into its buffer, whatever the writer, and a refused frame is nothing
-- but its refusal. Assumes nothing.
use Rattle.std.specs.Prelude.{Err}
use mathlib.Core.Path.{◌≡◌, sym, ap, ◌∙◌}
use mathlib.Core.Bool.{Bool}
use mathlib.Core.List.{List}
use Prim.Native.Nat.{ℕ}
use Rattle.answer.specs.Checks.{Outcome}
use Rattle.answer.specs.Faults.{Placed}
use Rattle.answer.specs.declared.Fault.{Fault}
use Rattle.answer.specs.declared.Refusal.{Refusal}
use Rattle.frame.specs.Frames.{frame_means}
use Rattle.frame.specs.Laid.{frame_laid}
use Rattle.frame.specs.declared.Received.{Received}
use Rattle.octets.specs.Writing.{wrote, left, after, Written}

untouched : (may : Bool) (os : List ℕ) (at : ℕ) (buffer : List ℕ) (r : Refusal) → wrote may os at buffer ≡ Err r → left may os at buffer ≡ buffer
unfolding left
untouched may os at buffer r e = ap (λ (o : Outcome ℕ). after o os at buffer) e

-- every writer promises `Written`
pub refused_write : {may : Bool} {os : List ℕ} {at : ℕ} {buffer : List ℕ} {answer : Outcome ℕ} {exit : List ℕ} {r : Refusal}
    → Written may os at buffer answer exit → answer ≡ Err r → exit ≡ buffer
refused_write {may} {os} {at} {buffer} {r = r} w e =
    w.leaves ∙ untouched may os at buffer r (sym w.answers ∙ e)

-- of a refused frame `frame::read` hands out its refusal alone
pub refused_frame : (own ap' : List ℕ) (b : ℕ) (f : List ℕ) (r : Fault) (v : Placed Received) → v ≡ frame_laid (frame_means own ap' b f)
    → frame_means own ap' b f ≡ Err r → v ≡ Err r
refused_frame own ap' b f r v e h = e ∙ ap frame_laid h
