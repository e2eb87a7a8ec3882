-- TBTTs that the clock comes to (01, "Numbers that hold": "Moment 0 and every multiple of B is a TBTT"), counted unit by unit. `b` is B.
use Rattle.std.specs.Prelude.{Bool, ℕ, zero, suc, ◌+◌, ◌%◌, eqb}
use Rattle.answer.specs.Checks.{pick}

abbrev pub is_tbtt : ℕ → ℕ → Bool
is_tbtt b u = eqb (u % b) 0

-- how many of the n units after t are TBTTs
unfoldable pub tbtts_in : ℕ → ℕ → ℕ → ℕ
tbtts_in b t zero = 0
tbtts_in b t (suc n) = tbtts_in b t n + pick (is_tbtt b (t + suc n)) 1 0
