-- Feeding blocks (01, "Capture blocks and the evening list"): their lines in front of the buffer, or a refusal in 01's order ("Write: 16, 13"), which leaves lister and
-- buffer as they are.
use Rattle.std.specs.Prelude.{List, [], ◌∷◌, ◌≡◌, ℕ, ◌+◌, ◌*◌, ltb, length, Ok, Err}
use Rattle.answer.specs.Checks.{Outcome, ◌⇒◌, judged}
use Rattle.answer.specs.declared.Refusal.{Refusal}
use Rattle.octets.specs.Writing.{filled}
use Rattle.pen.specs.Rooms.{line_room}
use Rattle.capture.specs.Listers.{block_limit, most_lines}
use Rattle.capture.specs.Lists.{Told}
use Rattle.capture.specs.declared.feeding.Listing.{Listing}
use Rattle.capture.specs.declared.lister.Lister.{Lister}

-- the room that the lines of a block always find
abbrev pub enough_room : ℕ
enough_room = most_lines * line_room

-- so many blocks more, which tell this, for a buffer of so many octets: past the limit that no file reaches they are not listed (16), and a buffer under the room that the
-- lines of so many blocks always find is too short (13)
unfoldable pub feed_means : Lister → ℕ → Told → ℕ → Outcome Told
feed_means l many t size =
    judged
    (ltb block_limit (l.blocks + many) ⇒ Refusal.Impossible ∷ ltb size (many * enough_room) ⇒ Refusal.BufferShort ∷ [])
    t

-- how many octets the lines are, and the lister after them
abbrev pub listing_of : Lister → Outcome Told → Listing
listing_of l (Err r) = record { wrote = Err r; lister = l }
listing_of l (Ok t) = record { wrote = Ok (length t.text); lister = t.lister }

abbrev pub filled_by : Outcome Told → List ℕ → List ℕ
filled_by (Err r) out = out
filled_by (Ok t) out = filled t.text out

-- what is promised of feeding: the listing, and the buffer as it is left
pub record FedWith (o : Outcome Told) (l : Lister) (out : List ℕ) (listing : Listing) (exit : List ℕ) : Type 0 where
  pub answers : listing ≡ listing_of l o
  pub leaves : exit ≡ filled_by o out
