-- What the caller of a reply has found, by a number and a value.
use Rattle.std.specs.Prelude.{ℕ, ◌%◌, eqb}
use Rattle.answer.specs.Checks.{pick}
use Rattle.measured_report.specs.declared.Finding.{Finding}

-- 0 the caller refuses, 1 a map, which is the value's lowest octet, 2 a busy time; every other number stands for the eight times
unfoldable pub finding_given : ℕ → ℕ → Finding
finding_given number value =
    pick (eqb number 0) Finding.Refused
    (pick (eqb number 1) (Finding.Map (value % 256))
    (pick (eqb number 2) (Finding.Busy value)
    Finding.Times))
