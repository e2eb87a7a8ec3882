-- Start (01, "Answer numbers"): 15 where B is 0, the channel is over 200, or either address has its group bit set.
use Rattle.std.specs.Prelude.{Bool, ◌||◌, List, [], ◌∷◌, ℕ, ltb, eqb, replicate}
use Rattle.answer.specs.Checks.{Outcome, ◌⇒◌, judged}
use Rattle.answer.specs.declared.Refusal.{Refusal}
use Rattle.channel.specs.Centres.{highest}
use Rattle.octets.specs.Numbers.{bit, octet}
use Rattle.station.specs.Stations.{fresh}
use Rattle.station.specs.declared.Station.{Station}

-- what stands where there is no station; its interval is 0, so it is not valid
abbrev pub blank : Station
blank = fresh (replicate 6 0) (replicate 6 0) 0 0

-- the group bit is the first of an address
abbrev pub start_forbids : List ℕ → List ℕ → ℕ → ℕ → Bool
start_forbids own ap b channel = eqb b 0 || (ltb highest channel || (bit 0 (octet 0 own) || bit 0 (octet 0 ap)))

unfoldable pub start_means : List ℕ → List ℕ → ℕ → ℕ → Outcome Station
start_means own ap b channel = judged (start_forbids own ap b channel ⇒ Refusal.BadStart ∷ []) (fresh own ap b channel)
