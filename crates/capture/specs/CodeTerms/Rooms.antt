-- Whether blocks may be listed, apart from what they tell.
use Rattle.std.specs.Prelude.{[], ◌∷◌, ℕ, ◌+◌, ◌*◌, ltb, Ok}
use Rattle.answer.specs.Checks.{◌⇒◌, judged, Answer}
use Rattle.answer.specs.declared.Refusal.{Refusal}
use Rattle.capture.specs.Feeding.{enough_room}
use Rattle.capture.specs.Listers.{block_limit}
use Rattle.capture.specs.declared.feeding.Listing.{Listing}
use Rattle.capture.specs.declared.listing.Put.{Put}

unfoldable pub room_for : ℕ → ℕ → ℕ → Answer
room_for blocks many size =
    judged (ltb block_limit (blocks + many) ⇒ Refusal.Impossible ∷ ltb size (many * enough_room) ⇒ Refusal.BufferShort ∷ []) tt

abbrev pub listed_as : Put → Listing
listed_as p = record { wrote = Ok p.count; lister = p.lister }
