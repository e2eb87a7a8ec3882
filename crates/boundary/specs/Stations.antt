-- What a call on a station in the caller's memory gives back, and what it leaves there (02, Eight).
use Rattle.std.specs.Prelude.{List, ◌≡◌, ℕ, Ok, Err}
use Rattle.answer.specs.Checks.{Outcome, and_then, Answer}
use Rattle.station.specs.declared.Station.{Station}
use Rattle.station_record.specs.Calls.{relaid}
use Rattle.boundary.specs.Codes.{code_of}
use Rattle.answer.specs.Faults.{Verdict}

-- the outcome that an answer and a verdict stand for
abbrev pub answer_told : Answer → Outcome ℕ
answer_told (Err r) = Err r
answer_told (Ok tt) = Ok 0

abbrev pub verdict_told : Verdict → Outcome ℕ
verdict_told (Err x) = Err x.refusal
verdict_told (Ok tt) = Ok 0

-- what is promised: 0 and the record of the station that the call came to, or minus the refusal's number and every octet as it was
pub record OnStation (o : Outcome Station) (memory : List ℕ) (code : ℕ) (exit : List ℕ) : Type 0 where
  pub answers : code ≡ code_of (and_then o (λ _. Ok 0))
  pub leaves : exit ≡ relaid memory o
