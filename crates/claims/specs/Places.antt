-- Where a frame broke (02, One: "give for 5 to 12, 21 and 22 the offset in the frame of the octet at fault: the element's ID octet for element faults, the first
-- left-over octet, the category, action, token or interval field otherwise. Absent gives the frame's length"). Each refusal of a frame, with where its octet may be.
use Rattle.std.specs.Prelude.{List, ◌⊎◌, ◌≡◌, ℕ, ◌<◌, ◌≤◌, length, Some, None, Option}
use Rattle.answer.specs.declared.Fault.{Fault}
use Rattle.answer.specs.declared.Refusal.{Refusal}

-- in the body, which begins at octet 24: the category is octet 24, the action 25 and the interval 32. (That elements stand whole before an element's place is
-- `sound_before`.)
abbrev pub BrokenAt : List ℕ → ℕ → Refusal → Type 0
BrokenAt f n Refusal.ForeignAction = ((n ≡ 24) ⊎ (n ≡ 25)) × (n < length f)
BrokenAt f n Refusal.ElementAbsent = n ≡ length f
BrokenAt f n Refusal.ElementCut = (24 ≤ n) × (n < length f)
BrokenAt f n Refusal.WrongLength = (24 ≤ n) × (n < length f)
BrokenAt f n Refusal.ForbiddenValue = (24 ≤ n) × (n < length f)
BrokenAt f n Refusal.Repeated = (24 ≤ n) × (n < length f)
BrokenAt f n Refusal.TooManyQuiets = (24 ≤ n) × (n < length f)
BrokenAt f n Refusal.OtherInterval = (n ≡ 32) × (n < length f)
BrokenAt f n Refusal.OtherElement = (24 ≤ n) × (n < length f)
BrokenAt f n Refusal.LeftOver = (24 ≤ n) × (n < length f)
BrokenAt f n Refusal.TooShort = ⊥
BrokenAt f n Refusal.TooLong = ⊥
BrokenAt f n Refusal.ForeignHeader = ⊥
BrokenAt f n Refusal.ForeignAddress = ⊥
BrokenAt f n Refusal.BufferShort = ⊥
BrokenAt f n Refusal.PastClock = ⊥
BrokenAt f n Refusal.BadStart = ⊥
BrokenAt f n Refusal.Impossible = ⊥
BrokenAt f n Refusal.BlockDamaged = ⊥
BrokenAt f n Refusal.NoReplyDue = ⊥
BrokenAt f n Refusal.NoStation = ⊥
BrokenAt f n Refusal.RecordMalformed = ⊥
BrokenAt f n Refusal.ForeignAnnouncement = ⊥
BrokenAt f n Refusal.NoFreeRow = ⊥
BrokenAt f n Refusal.AlreadyJoined = ⊥
BrokenAt f n Refusal.NotJoined = ⊥

-- 1 to 4: no octet is at fault
abbrev pub BrokenNowhere : Refusal → Type 0
BrokenNowhere r = (r ≡ Refusal.TooShort) ⊎ ((r ≡ Refusal.TooLong) ⊎ ((r ≡ Refusal.ForeignHeader) ⊎ (r ≡ Refusal.ForeignAddress)))

-- of a frame: each of these refusals has its place, and no other has one
abbrev pub PlacedIn : List ℕ → Refusal → Option ℕ → Type 0
PlacedIn f r None = BrokenNowhere r
PlacedIn f r (Some n) = BrokenAt f n r

abbrev pub FaultIn : List ℕ → Fault → Type 0
FaultIn f x = PlacedIn f x.refusal x.offset
