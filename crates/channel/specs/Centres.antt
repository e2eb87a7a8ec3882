-- Channels 0 to 200, and their centres (01, "Numbers that hold"): 5000 + 5 times the channel, in MHz; over 200: 16.
use Rattle.std.specs.Prelude.{[], ◌∷◌, ℕ, ◌+◌, ◌*◌, ltb}
use Rattle.answer.specs.Checks.{Outcome, ◌⇒◌, judged}
use Rattle.answer.specs.declared.Refusal.{Refusal}

abbrev pub highest : ℕ
highest = 200

unfoldable pub centre_of : ℕ → Outcome ℕ
centre_of channel = judged (ltb highest channel ⇒ Refusal.Impossible ∷ []) (5000 + 5 * channel)
