-- The refusals' numbers (01, "Answer numbers"; 02, One, Five and Six) are 1 to 26, and no two refusals share one. Assumes nothing.
use mathlib.Core.List.{List, [], ◌∷◌}
use mathlib.Core.Path.{◌≡◌, refl, sym, ap, ◌∙◌}
use Prim.Native.Nat.{ℕ, ◌-◌, ◌≤◌}
use native.Mathlib.Omega.{arith}
use lib.ListN.{get_or}
use Rattle.answer.specs.Numbers.{number_of}
use Rattle.answer.specs.declared.Refusal.{Refusal}

-- the refusals in the order of their numbers
abbrev in_order : List Refusal
in_order =
    Refusal.TooShort ∷ Refusal.TooLong ∷ Refusal.ForeignHeader ∷ Refusal.ForeignAddress ∷ Refusal.ForeignAction
    ∷ Refusal.ElementCut ∷ Refusal.ElementAbsent ∷ Refusal.WrongLength ∷ Refusal.ForbiddenValue ∷ Refusal.Repeated
    ∷ Refusal.TooManyQuiets ∷ Refusal.OtherInterval ∷ Refusal.BufferShort ∷ Refusal.PastClock ∷ Refusal.BadStart
    ∷ Refusal.Impossible ∷ Refusal.BlockDamaged ∷ Refusal.NoReplyDue ∷ Refusal.NoStation ∷ Refusal.RecordMalformed
    ∷ Refusal.OtherElement ∷ Refusal.LeftOver ∷ Refusal.ForeignAnnouncement ∷ Refusal.NoFreeRow ∷ Refusal.AlreadyJoined
    ∷ Refusal.NotJoined ∷ []

abbrev with_number : ℕ → Refusal
with_number n = get_or in_order (n - 1) Refusal.TooShort

pub numbered : (r : Refusal) → (1 ≤ number_of r) × (number_of r ≤ 26) × (with_number (number_of r) ≡ r)
numbered Refusal.TooShort = (omega arith, omega arith, refl)
numbered Refusal.TooLong = (omega arith, omega arith, refl)
numbered Refusal.ForeignHeader = (omega arith, omega arith, refl)
numbered Refusal.ForeignAddress = (omega arith, omega arith, refl)
numbered Refusal.ForeignAction = (omega arith, omega arith, refl)
numbered Refusal.ElementCut = (omega arith, omega arith, refl)
numbered Refusal.ElementAbsent = (omega arith, omega arith, refl)
numbered Refusal.WrongLength = (omega arith, omega arith, refl)
numbered Refusal.ForbiddenValue = (omega arith, omega arith, refl)
numbered Refusal.Repeated = (omega arith, omega arith, refl)
numbered Refusal.TooManyQuiets = (omega arith, omega arith, refl)
numbered Refusal.OtherInterval = (omega arith, omega arith, refl)
numbered Refusal.BufferShort = (omega arith, omega arith, refl)
numbered Refusal.PastClock = (omega arith, omega arith, refl)
numbered Refusal.BadStart = (omega arith, omega arith, refl)
numbered Refusal.Impossible = (omega arith, omega arith, refl)
numbered Refusal.BlockDamaged = (omega arith, omega arith, refl)
numbered Refusal.NoReplyDue = (omega arith, omega arith, refl)
numbered Refusal.NoStation = (omega arith, omega arith, refl)
numbered Refusal.RecordMalformed = (omega arith, omega arith, refl)
numbered Refusal.OtherElement = (omega arith, omega arith, refl)
numbered Refusal.LeftOver = (omega arith, omega arith, refl)
numbered Refusal.ForeignAnnouncement = (omega arith, omega arith, refl)
numbered Refusal.NoFreeRow = (omega arith, omega arith, refl)
numbered Refusal.AlreadyJoined = (omega arith, omega arith, refl)
numbered Refusal.NotJoined = (omega arith, omega arith, refl)

pub same_refusal : (r q : Refusal) → number_of r ≡ number_of q → r ≡ q
same_refusal r q e = sym (numbered r).2 ∙ ap with_number e ∙ (numbered q).2
