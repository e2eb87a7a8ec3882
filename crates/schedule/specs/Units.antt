-- Some unit of several, and the first of them, read unit by unit (01, "The station": "some covered unit").
use Rattle.std.specs.Prelude.{Bool, false, ◌||◌, ℕ, zero, suc}
use Rattle.answer.specs.Checks.{pick}

-- one of the n units from a on passes the test
unfoldable pub some_unit : (ℕ → Bool) → ℕ → ℕ → Bool
some_unit test a zero = false
some_unit test a (suc n) = test a || some_unit test (suc a) n

-- the first of the n units from a on that passes the test, or the unit after them where none does
unfoldable pub first_unit : (ℕ → Bool) → ℕ → ℕ → ℕ
first_unit test a zero = a
first_unit test a (suc n) = pick (test a) a (first_unit test (suc a) n)
