-- What the walk of an action body hands out (02, Four): its elements one after the other, and between and after them those of vendors, ID 221, which it passes
-- over, each in its place. In front of the first element nothing is passed over: there one of a vendor is another element.
use Rattle.std.specs.Prelude.{Bool, true, false, List, [], ◌++◌, ℕ, eqb}
use Rattle.answer.specs.Checks.{pick}
use Rattle.octets.specs.Elements.{element}
use Rattle.walk.specs.Elements.{Elements, elements_in}
use Rattle.walk.specs.Elements as Raw

pub data Handed : Type 0 where
  -- nothing is left
  end : Handed
  -- one octet is left, which is no header
  cut_header : Handed
  -- a header with this ID, whose contents run past the end
  cut_contents : ℕ → Handed
  -- a whole element, with its ID and its contents, and what follows it
  more : ℕ → List ℕ → Handed → Handed
  -- an element of a vendor, with its contents, that is passed over, and what follows it
  passed : List ℕ → Handed → Handed
  -- one that would be passed over, but its header or its contents are cut
  cut_passed : Handed

-- the ID of vendors' elements
abbrev pub vendor_id : ℕ
vendor_id = 221

-- after an element: those of vendors are passed over
unfoldable pub passing : Elements → Handed
passing Raw.end = end
passing (Raw.cut_header o) = pick (eqb o vendor_id) cut_passed cut_header
passing (Raw.cut_contents id) = pick (eqb id vendor_id) cut_passed (cut_contents id)
passing (Raw.more id c es) = pick (eqb id vendor_id) (passed c (passing es)) (more id c (passing es))

-- from the first element on
unfoldable pub handing : Elements → Handed
handing Raw.end = end
handing (Raw.cut_header o) = cut_header
handing (Raw.cut_contents id) = cut_contents id
handing (Raw.more id c es) = more id c (passing es)

-- the same of octets
abbrev pub passing_in : List ℕ → Handed
passing_in os = passing (elements_in os)

abbrev pub handed_in : List ℕ → Handed
handed_in os = handing (elements_in os)

-- the octets of the whole elements, handed out or passed over: of each its ID, its length, its contents
unfoldable pub octets_of : Handed → List ℕ
octets_of end = []
octets_of cut_header = []
octets_of (cut_contents id) = []
octets_of (more id c hs) = element id c ++ octets_of hs
octets_of (passed c hs) = element vendor_id c ++ octets_of hs
octets_of cut_passed = []

-- those that it passed over in front of what it hands out next
unfoldable pub skipped_before : Handed → List ℕ
skipped_before end = []
skipped_before cut_header = []
skipped_before (cut_contents id) = []
skipped_before (more id c hs) = []
skipped_before (passed c hs) = element vendor_id c ++ skipped_before hs
skipped_before cut_passed = []

-- nothing was passed over
unfoldable pub vendorless : Handed → Bool
vendorless end = true
vendorless cut_header = true
vendorless (cut_contents id) = true
vendorless (more id c hs) = vendorless hs
vendorless (passed c hs) = false
vendorless cut_passed = true
