-- Signed octets, −128 to 127, by two's complement (01, "Octets": 35; 7.3.2.18): 0 to 127 stand for themselves, 255 for −1,
-- 128 for −128.
use Rattle.std.specs.Prelude.{ℕ, ◌-◌, ℤ, pos, negsuc, ltb}
use Rattle.answer.specs.Checks.{pick}

-- `negsuc k` is −1 − k
abbrev pub signed_of : ℕ → ℤ
signed_of o = pick (ltb o 128) (pos o) (negsuc (255 - o))

abbrev pub octet_of : ℤ → ℕ
octet_of (pos n) = n
octet_of (negsuc k) = 255 - k
