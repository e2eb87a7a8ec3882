-- Where a frame broke, as a call of its own (docs/BOUNDARY.md).
use Rattle.std.specs.Prelude.{ℕ, Ok, Err, Some, None, Option}
use Rattle.answer.specs.Checks.{Outcome}
use Rattle.answer.specs.Faults.{Placed}
use Rattle.answer.specs.declared.Refusal.{Refusal}

-- the offset; a refusal with no octet at fault stays as it is
abbrev pub offset_or : Refusal → Option ℕ → Outcome ℕ
offset_or r None = Err r
offset_or r (Some n) = Ok n

-- an accepted frame has no fault: 16
abbrev pub fault_offset : {A : Type 0} → Placed A → Outcome ℕ
fault_offset (Err x) = offset_or x.refusal x.offset
fault_offset (Ok a) = Err Refusal.Impossible
