-- What a call promises of an outcome that is the same as the one that was asked for. Assumes nothing.
use mathlib.Core.List.{List}
use mathlib.Core.Path.{◌≡◌, ap, subst, ◌∙◌}
use Prim.Native.Nat.{ℕ}
use Rattle.answer.specs.Checks.{Outcome}
use Rattle.reply.specs.Replies.{Replied}
use Rattle.boundary.specs.Codes.{code_of, Given}

pub given_from : (o p : Outcome (List ℕ)) (buffer : List ℕ) (answer : Outcome ℕ) (exit : List ℕ) (code : ℕ) → p ≡ o → Replied p buffer answer exit → code ≡ code_of answer → Given o buffer code exit
given_from o p buffer answer exit code same w e =
    subst (λ (x : Outcome (List ℕ)). Given x buffer code exit) same (record { answers = e ∙ ap code_of w.answers; leaves = w.leaves })
