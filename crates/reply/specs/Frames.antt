-- A reply's frame (01, "Replies": "The reply's DA is the old SA, its SA the station, BSSID kept; flags, duration and sequence control 0").
-- In a frame that a station of 01 accepts the old SA and the BSSID are the AP's address; in an IBSS SA is any member's (02, Five).
use Rattle.std.specs.Prelude.{List, [], ◌∷◌, ◌++◌, ℕ, ◌+◌, drop}
use Rattle.action.specs.Openings.{category_field}
use Rattle.header.specs.Headers.{sa}
use Rattle.header.specs.declared.address.Cell.{Cell}
use Rattle.octets.specs.Numbers.{octet}

abbrev pub head_to : List ℕ → List ℕ → List ℕ → List ℕ
head_to own to bss = (208 ∷ 0 ∷ 0 ∷ 0 ∷ []) ++ to ++ own ++ bss ++ (0 ∷ 0 ∷ [])

abbrev pub frame_to : List ℕ → List ℕ → List ℕ → List ℕ → List ℕ
frame_to own to bss body = head_to own to bss ++ body

abbrev pub reply_frame : List ℕ → List ℕ → List ℕ → List ℕ
reply_frame own ap body = frame_to own ap ap body

-- to whom a reply goes
abbrev pub old_sender : Cell → List ℕ → List ℕ → List ℕ
old_sender Cell.Ap bss f = bss
old_sender Cell.Ibss bss f = sa f

-- an error return (02, One): "its body with the category's top bit set and nothing else changed". The category is under 128, and comes first
abbrev pub error_return : List ℕ → List ℕ
error_return body = (octet category_field body + 128) ∷ drop 1 body
