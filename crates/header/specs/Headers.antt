-- The header (01, "Octets": octet 0 is version in bits 0-1, type in 2-3, subtype in 4-7; then flags, duration (2), DA, SA, BSSID,
-- sequence control (2)) and what is refused of it, in 01's order: 1, 2, 3, 4. `own` is the station's address, `bss` the BSSID of its cell.
use Rattle.std.specs.Prelude.{Bool, true, false, not, ◌&&◌, ◌||◌, List, [], ◌∷◌, ◌++◌, ℕ, ◌/◌, ◌%◌, ltb, eqb, length, take, drop, replicate, Ok}
use Rattle.answer.specs.Checks.{Outcome, pick, ◌⇒◌, judged, and_then}
use Rattle.answer.specs.declared.Refusal.{Refusal}
use Rattle.octets.specs.Numbers.{octet, octets_from, bit}
use Rattle.header.specs.declared.Head.{Head}
use Rattle.header.specs.declared.address.Cell.{Cell}
use Rattle.header.specs.declared.management.Subtype.{Subtype}

-- how many octets a header has, and the most that a frame has
abbrev pub header_length : ℕ
header_length = 24

abbrev pub longest_frame : ℕ
longest_frame = 2336

-- what stands after the header
abbrev pub body_of : List ℕ → List ℕ
body_of f = drop header_length f

-- whether two lists of octets are the same
abbrev pub same : List ℕ → List ℕ → Bool
same [] [] = true
same [] (y ∷ ys) = false
same (x ∷ xs) [] = false
same (x ∷ xs) (y ∷ ys) = eqb x y && same xs ys

-- the fields
abbrev pub version : List ℕ → ℕ
version f = octet 0 f % 4

abbrev pub type : List ℕ → ℕ
type f = octet 0 f / 4 % 4

abbrev pub subtype : List ℕ → ℕ
subtype f = octet 0 f / 16

abbrev pub flags : List ℕ → ℕ
flags f = octet 1 f

abbrev pub da : List ℕ → List ℕ
da f = octets_from 6 4 f

abbrev pub sa : List ℕ → List ℕ
sa f = octets_from 6 10 f

abbrev pub bssid : List ℕ → List ℕ
bssid f = octets_from 6 16 f

abbrev pub fragment : List ℕ → ℕ
fragment f = octet 22 f % 16

-- Probe Response, Beacon, Action
abbrev pub is_read : ℕ → Bool
is_read n = eqb n 5 || (eqb n 8 || eqb n 13)

abbrev pub subtype_of : ℕ → Subtype
subtype_of n = pick (eqb n 5) Subtype.ProbeResponse (pick (eqb n 8) Subtype.Beacon Subtype.Action)

-- which of the frames that are read has this number
abbrev pub subtype_in : ℕ → Outcome Subtype
subtype_in n = judged (not (is_read n) ⇒ Refusal.ForeignHeader ∷ []) (subtype_of n)

-- To DS, From DS, More Fragments, Protected
abbrev pub has_foreign_flag : ℕ → Bool
has_foreign_flag o = bit 0 o || (bit 1 o || (bit 2 o || bit 6 o))

-- version or type not 0; subtype not 5, 8 or 13; one of those flags set; fragment number not 0
unfoldable pub foreign_header : List ℕ → Bool
foreign_header f =
    not (eqb (version f) 0) ||
    (not (eqb (type f) 0) || (not (is_read (subtype f)) || (has_foreign_flag (flags f) || not (eqb (fragment f) 0))))

-- the same but for the subtype
unfoldable pub foreign_but_for_subtype : List ℕ → Bool
foreign_but_for_subtype f = not (eqb (version f) 0) || (not (eqb (type f) 0) || (has_foreign_flag (flags f) || not (eqb (fragment f) 0)))

-- sent to all ones
unfoldable pub to_all : List ℕ → Bool
to_all f = same (da f) (replicate 6 255)

-- whose frames are not taken: all but the AP's, whose address is the BSSID (01); in an IBSS a group's, since "any individual address" may send (02, Five)
abbrev pub foreign_sender : Cell → List ℕ → List ℕ → Bool
foreign_sender Cell.Ap bss f = not (same (sa f) bss)
foreign_sender Cell.Ibss bss f = bit 0 (octet 0 (sa f))

-- SA is none whose frames are taken, BSSID is not the cell's, or DA is neither the station nor all ones
unfoldable pub foreign_address : Cell → List ℕ → List ℕ → List ℕ → Bool
foreign_address cell own bss f = foreign_sender cell bss f || (not (same (bssid f) bss) || not (same (da f) own || to_all f))

-- what every management frame must be (1, 2, 3), and which of those that are read it is
unfoldable pub management_means : List ℕ → Outcome Subtype
management_means f =
    judged
    (ltb (length f) header_length ⇒ Refusal.TooShort
    ∷ ltb longest_frame (length f) ⇒ Refusal.TooLong
    ∷ foreign_header f ⇒ Refusal.ForeignHeader
    ∷ [])
    (subtype_of (subtype f))

-- whose it must be (4), and whether it was sent to all ones
unfoldable pub address_means : Cell → List ℕ → List ℕ → List ℕ → Outcome Bool
address_means cell own bss f = judged (foreign_address cell own bss f ⇒ Refusal.ForeignAddress ∷ []) (to_all f)

-- what the header of a frame that is taken says
unfoldable pub header_means : Cell → List ℕ → List ℕ → List ℕ → Outcome Head
header_means cell own bss f =
    and_then (management_means f) (λ s. and_then (address_means cell own bss f) (λ a. Ok (record { subtype = s; to_all = a })))

-- the frame as an AP at this address would have sent it: SA replaced
unfoldable pub from_ap : List ℕ → List ℕ → List ℕ
from_ap a f = take 10 f ++ (a ++ drop 16 f)
