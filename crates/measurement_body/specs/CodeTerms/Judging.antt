-- What the contents of one element come to.
use Rattle.std.specs.Prelude.{Bool, ◌&&◌, List, ℕ, Ok}
use Rattle.answer.specs.Checks.{Outcome, and_then}
use Rattle.measurement_body.specs.Lists.{Sort}
use Rattle.measurement_body.specs.declared.judging.Judged.{Judged}

module _ {A : Type 0} (s : Sort A) where
  -- the record's token, and whether the element is plain; `clear` says that no reserved bit is set in it
  abbrev pub judged_as : Bool → A → Judged
  judged_as clear a = record { token = s.token a; plain = clear && s.interpreted a }

  abbrev pub judgement : List ℕ → Outcome Judged
  judgement c = and_then (s.means c) (λ a. Ok (judged_as (s.clear c) a))
