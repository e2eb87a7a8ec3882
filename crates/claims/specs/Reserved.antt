-- Reserved bits (01, "Octets": "Reserved bits are ignored when read"), and what else of a header is not looked at (docs/DECISIONS.md, "Frames"): what
-- it is for two contents, two runs of elements, two bodies and two frames to differ in these bits alone. Bits are told by the place of their octet,
-- `i`, and by their own in it, `k`.
use Rattle.std.specs.Prelude.{Bool, true, false, not, ◌&&◌, ◌||◌, List, [], ◌∷◌, ◌++◌, ◌⊎◌, ◌≡◌, ℕ, ◌≤◌, ltb, leb, eqb, length, take}
use Rattle.answer.specs.Checks.{pick}
use Rattle.header.specs.Headers.{header_length, body_of, subtype}
use Rattle.octets.specs.Numbers.{octet, bit}
use Rattle.claims.specs.Filters.{Item, laid}

-- as many octets, and the same but for these bits
pub record AlikeBut (ignored : ℕ → ℕ → Bool) (c d : List ℕ) : Type 0 where
  pub as_long : length c ≡ length d
  pub same_bits : (i k : ℕ) → ignored i k ≡ false → bit k (octet i c) ≡ bit k (octet i d)

-- none of these bits is set
abbrev pub NoneSet : (ℕ → ℕ → Bool) → List ℕ → Type 0
NoneSet ignored c = (i k : ℕ) → ignored i k ≡ true → bit k (octet i c) ≡ false

-- ---- contents of 38 and 39: token, mode, type, and the rest

-- what the mode of a request says: bit 1 is Enable; with it bits 2 and 3 are Request and Report, unless the type is reserved (7.3.2.21)
abbrev pub request_mode_says : List ℕ → ℕ → Bool
request_mode_says c k = eqb k 1 || (bit 1 (octet 1 c) && (leb (octet 2 c) 2 && (eqb k 2 || eqb k 3)))

-- what the mode of a report says: bits 0 Late, 1 Incapable, 2 Refused
abbrev pub report_mode_says : ℕ → Bool
report_mode_says k = leb k 2

-- a basic report with no mode bit has a map, in octet 14, of which bits 0 to 4 say something
abbrev pub has_map : List ℕ → Bool
has_map c = eqb (octet 2 c) 0 && not (bit 0 (octet 1 c) || (bit 1 (octet 1 c) || bit 2 (octet 1 c)))

abbrev pub map_says : ℕ → Bool
map_says k = leb k 4

abbrev pub request_reserved : List ℕ → ℕ → ℕ → Bool
request_reserved c i k = eqb i 1 && not (request_mode_says c k)

abbrev pub report_reserved : List ℕ → ℕ → ℕ → Bool
report_reserved c i k = (eqb i 1 && not (report_mode_says k)) || (eqb i 14 && (has_map c && not (map_says k)))

-- the reserved bits of an element's contents, by its ID: only measurement elements have any
abbrev pub reserved_in : ℕ → List ℕ → ℕ → ℕ → Bool
reserved_in id c i k = pick (eqb id 38) (request_reserved c i k) (pick (eqb id 39) (report_reserved c i k) false)

-- ---- measurement bodies

-- elements that differ in reserved bits alone, one by one
abbrev pub ItemsAlike : List Item → List Item → Type 0
ItemsAlike [] [] = Unit {0}
ItemsAlike [] (y ∷ ys) = ⊥
ItemsAlike (x ∷ xs) [] = ⊥
ItemsAlike (x ∷ xs) (y ∷ ys) =
    (x.id ≡ y.id) × AlikeBut (reserved_in x.id x.contents) x.contents y.contents × ItemsAlike xs ys

-- such elements side by side, and after them the same octets, whatever they are
pub record RunsAlike (run other : List ℕ) : Type 0 where
  pub items : List Item
  pub others : List Item
  pub rest : List ℕ
  pub octets : run ≡ laid items ++ rest
  pub other_octets : other ≡ laid others ++ rest
  pub alike : ItemsAlike items others

-- 0, action 0 or 1, token, and such runs
pub record MeasurementsAlike (body other : List ℕ) : Type 0 where
  pub action : ℕ
  pub token : ℕ
  pub run : List ℕ
  pub other_run : List ℕ
  pub measures : action ≤ 1
  pub octets : body ≡ 0 ∷ action ∷ token ∷ run
  pub other_octets : other ≡ 0 ∷ action ∷ token ∷ other_run
  pub alike : RunsAlike run other_run

-- ---- frames

-- what the flags say: bits 0 To DS, 1 From DS, 2 More Fragments, 6 Protected
abbrev pub flag_says : ℕ → Bool
flag_says k = leb k 2 || eqb k 6

-- the other flags (octet 1), the duration (2 and 3), and the sequence control (22 and 23) but for the fragment number, which is its bits 0 to 3
abbrev pub header_ignored : ℕ → ℕ → Bool
header_ignored i k = (eqb i 1 && not (flag_says k)) || (eqb i 2 || (eqb i 3 || ((eqb i 22 && ltb 3 k) || eqb i 23)))

-- headers that are the same but for this, and bodies that are the same, or measurement bodies that differ in reserved bits alone
pub record FramesAlike (f g : List ℕ) : Type 0 where
  pub headers : AlikeBut header_ignored (take header_length f) (take header_length g)
  pub bodies : (body_of f ≡ body_of g) ⊎ ((subtype f ≡ 13) × MeasurementsAlike (body_of f) (body_of g))
