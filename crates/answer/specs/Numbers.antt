-- The answer numbers (01, "Answer numbers"; 02, One, for 7, 21 and 22, Five, for 23, and Six, for 24 to 26).
use Rattle.std.specs.Prelude.{ℕ, Ok, Err}
use Rattle.answer.specs.declared.Refusal.{Refusal}
use Rattle.answer.specs.Checks.{Answer}
use Rattle.answer.specs.Faults.{Verdict}

-- each refusal's number in the table
abbrev pub number_of : Refusal → ℕ
number_of Refusal.TooShort = 1
number_of Refusal.TooLong = 2
number_of Refusal.ForeignHeader = 3
number_of Refusal.ForeignAddress = 4
number_of Refusal.ForeignAction = 5
number_of Refusal.ElementCut = 6
number_of Refusal.ElementAbsent = 7
number_of Refusal.WrongLength = 8
number_of Refusal.ForbiddenValue = 9
number_of Refusal.Repeated = 10
number_of Refusal.TooManyQuiets = 11
number_of Refusal.OtherInterval = 12
number_of Refusal.BufferShort = 13
number_of Refusal.PastClock = 14
number_of Refusal.BadStart = 15
number_of Refusal.Impossible = 16
number_of Refusal.BlockDamaged = 17
number_of Refusal.NoReplyDue = 18
number_of Refusal.NoStation = 19
number_of Refusal.RecordMalformed = 20
number_of Refusal.OtherElement = 21
number_of Refusal.LeftOver = 22
number_of Refusal.ForeignAnnouncement = 23
number_of Refusal.NoFreeRow = 24
number_of Refusal.AlreadyJoined = 25
number_of Refusal.NotJoined = 26

-- 0 is accepted
abbrev pub answer_number : Answer → ℕ
answer_number (Ok tt) = 0
answer_number (Err r) = number_of r

abbrev pub verdict_number : Verdict → ℕ
verdict_number (Ok tt) = 0
verdict_number (Err x) = number_of x.refusal
