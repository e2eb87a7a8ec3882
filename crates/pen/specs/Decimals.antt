-- Numbers in decimal.
use Rattle.std.specs.Prelude.{List, [], ◌∷◌, ◌++◌, ℕ, zero, suc, ◌+◌, ◌/◌, ◌%◌, ltb}
use Rattle.answer.specs.Checks.{pick}

-- the digits of n, where at most k numbers of one digit less are left; 48 is the digit 0
unfoldable pub digits : ℕ → ℕ → List ℕ
digits zero n = (48 + n) ∷ []
digits (suc k) n = pick (ltb n 10) ((48 + n) ∷ []) (digits k (n / 10) ++ ((48 + n % 10) ∷ []))

-- with no zero in front: dividing by ten n times leaves nothing
unfoldable pub decimal : ℕ → List ℕ
decimal n = digits n n
