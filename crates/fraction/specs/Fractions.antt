-- Busy fraction and densities (01, "Replies", its last paragraph): the ceiling of 255 times a time in µs over 1,024 times the
-- duration in TU. Duration 0, or times whose sum is over 1,024 times the duration: 16.
use Rattle.std.specs.Prelude.{Bool, not, ◌&&◌, List, [], ◌∷◌, map, ℕ, ◌+◌, ◌-◌, ◌*◌, ◌/◌, leb, eqb}
use Rattle.answer.specs.Checks.{Outcome, ◌⇒◌, judged}
use Rattle.octets.specs.Sums.{sum_of}
use Rattle.answer.specs.declared.Refusal.{Refusal}

-- the least number that times d is n or more, for d over 0
unfoldable pub ceiling : ℕ → ℕ → ℕ
ceiling n d = (n + (d - 1)) / d

unfoldable pub fraction_of : ℕ → ℕ → ℕ
fraction_of duration time = ceiling (255 * time) (1024 * duration)

-- whether times of this sum can have been measured
unfoldable pub possible : ℕ → ℕ → Bool
possible duration sum = not (eqb duration 0) && leb sum (1024 * duration)

unfoldable pub busy_of : ℕ → ℕ → Outcome ℕ
busy_of duration time = judged (not (possible duration time) ⇒ Refusal.Impossible ∷ []) (fraction_of duration time)

-- each of the times by the same rule
unfoldable pub densities_of : ℕ → List ℕ → Outcome (List ℕ)
densities_of duration times =
    judged (not (possible duration (sum_of times)) ⇒ Refusal.Impossible ∷ []) (map (fraction_of duration) times)
