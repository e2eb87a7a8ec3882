-- Where a frame broke (02, One: "the offset in the frame of the octet at fault"): so many octets stand before that octet.
use Rattle.std.specs.Prelude.{ℕ, ◌+◌, Option, Some, None, Result, Ok, Err}
use Rattle.answer.specs.Checks.{Outcome}
use Rattle.answer.specs.declared.Fault.{Fault}
use Rattle.answer.specs.declared.Refusal.{Refusal}

-- a refusal, and the place: so many octets stand before the one at fault
abbrev pub fault_at : ℕ → Refusal → Fault
fault_at n r = record { refusal = r; offset = Some n }

-- a refusal, and no octet is at fault
abbrev pub fault_nowhere : Refusal → Fault
fault_nowhere r = record { refusal = r; offset = None }

-- what octets come to: a value, or a refusal and its place
abbrev pub Placed : Type 0 → Type 0
Placed A = Result A Fault

-- what a call answers that is handed a frame
abbrev pub Verdict : Type 0
Verdict = Placed (Unit {0})

-- of what has so many octets before it
abbrev pub placed_at : {A : Type 0} → ℕ → Outcome A → Placed A
placed_at n (Err r) = Err (fault_at n r)
placed_at n (Ok a) = Ok a

-- of what is refused as a whole
abbrev pub nowhere : {A : Type 0} → Outcome A → Placed A
nowhere (Err r) = Err (fault_nowhere r)
nowhere (Ok a) = Ok a

-- the outcome without its place
abbrev pub without_place : {A : Type 0} → Placed A → Outcome A
without_place (Err x) = Err x.refusal
without_place (Ok a) = Ok a

-- ---- the same with so many octets more before all of it

abbrev pub offset_past : ℕ → Option ℕ → Option ℕ
offset_past n None = None
offset_past n (Some m) = Some (n + m)

abbrev pub fault_past : ℕ → Fault → Fault
fault_past n x = record { refusal = x.refusal; offset = offset_past n x.offset }

abbrev pub placed_past : {A : Type 0} → ℕ → Placed A → Placed A
placed_past n (Err x) = Err (fault_past n x)
placed_past n (Ok a) = Ok a

-- ---- where the value stands beside it

-- the verdict that stands for an outcome
abbrev pub verdict_of : {A : Type 0} → Placed A → Verdict
verdict_of (Err x) = Err x
verdict_of (Ok a) = Ok tt

abbrev pub verdict_offset : Verdict → Option ℕ
verdict_offset (Ok tt) = None
verdict_offset (Err x) = x.offset
