-- What `map_err` leaves as it was. Assumes nothing.
use Rattle.std.specs.Prelude.{Ok, Err, Result, MatchResult}
use Rattle.std.specs.Result.{is_ok}
use mathlib.Core.Path.{◌≡◌}
use mathlib.Core.Bool.{true}

-- a value, where it was one before
pub kept_ok : {A E : Type 0} {a : A} (F : Type 0) (Q : E → Type 0) (o : Result A E) → true ≡ is_ok o → MatchResult o (λ x. ◌≡◌ {A = Result A F} (Ok a) (Ok x)) Q → o ≡ Ok a
kept_ok F Q (Ok x) t m = cc
kept_ok F Q (Err e) t m = cc
