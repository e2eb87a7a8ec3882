-- Who is joined (02, Six: "a row is joined by an address and left by it"), by the calls of a table and their answers alone. Nothing here names a row.
use Rattle.std.specs.Prelude.{Bool, true, false, not, ◌&&◌, List, [], ◌∷◌, ◌≡◌, ℕ, suc, ◌+◌, eqb, Ok, Err}
use Rattle.answer.specs.Checks.{pick, ◌⇒◌, judged, answer_of, Answer}
use Rattle.answer.specs.declared.Refusal.{Refusal}
use Rattle.header.specs.Headers.{same}
use Rattle.station.specs.Starting.{start_forbids}
use Rattle.claims.specs.Histories.{too_far, clock_after}
use Rattle.claims.specs.Runs.{calls_of}
use Rattle.claims.specs.TableHistories.{advances_of}
use Rattle.claims.specs.TableRuns.{TableCall, join, leave, tick, take, question, tpc, measurement, TableAnswer, answered, judged as frame_judged, asked, replied, TableMade}

-- the call was accepted: an address joined or left, the clock went on, a frame was taken
abbrev pub accepts : TableAnswer → Bool
accepts (answered (Ok tt)) = true
accepts (answered (Err r)) = false
accepts (frame_judged (Ok tt)) = true
accepts (frame_judged (Err x)) = false
accepts (asked x) = false
accepts (replied w buffer) = false

-- an address joins, or leaves
abbrev pub comes : (List ℕ → Bool) → TableCall → Bool
comes who (join a channel) = who a
comes who (leave a) = false
comes who (tick n) = false
comes who (take f) = false
comes who (question a n) = false
comes who (tpc f report buffer) = false
comes who (measurement f index readings buffer) = false

abbrev pub goes : (List ℕ → Bool) → TableCall → Bool
goes who (leave a) = who a
goes who (join a channel) = false
goes who (tick n) = false
goes who (take f) = false
goes who (question a n) = false
goes who (tpc f report buffer) = false
goes who (measurement f index readings buffer) = false

-- the address has joined, and has not left since
abbrev pub joined_after : List ℕ → TableCall → TableAnswer → Bool → Bool
joined_after own c r before = pick (accepts r && comes (λ a. same a own) c) true (pick (accepts r && goes (λ a. same a own) c) false before)

unfoldable pub joined_in : List ℕ → List TableMade → Bool
joined_in own [] = false
joined_in own (m ∷ ms) = joined_after own m.call m.answer (joined_in own ms)

-- how many such calls were accepted
unfoldable pub accepted_of : (TableCall → Bool) → List TableMade → ℕ
accepted_of p [] = 0
accepted_of p (m ∷ ms) = pick (accepts m.answer && p m.call) (suc (accepted_of p ms)) (accepted_of p ms)

abbrev pub anybody : List ℕ → Bool
anybody a = true

-- "24 no free row": sixteen more have joined than have left
abbrev pub is_full : List TableMade → Bool
is_full ms = eqb (accepted_of (comes anybody) ms) (accepted_of (goes anybody) ms + 16)

-- ---- what is answered

-- "24 no free row, 25 address already joined, 26 address not joined; 15 comes first, and 25 before 24"
-- 15 is that of document 01's start
abbrev pub join_answer : List ℕ → ℕ → List TableMade → List ℕ → ℕ → Answer
join_answer ap b ms own channel =
    answer_of {A = Unit {0}}
    (judged
    (start_forbids own ap b channel ⇒ Refusal.BadStart
    ∷ joined_in own ms ⇒ Refusal.AlreadyJoined
    ∷ is_full ms ⇒ Refusal.NoFreeRow
    ∷ [])
    tt)

abbrev pub leave_answer : List TableMade → List ℕ → Answer
leave_answer ms own = answer_of {A = Unit {0}} (judged (not (joined_in own ms) ⇒ Refusal.NotJoined ∷ []) tt)

-- "or the clock would pass its limit", the clock by the advances
abbrev pub tick_answer : List TableMade → ℕ → Answer
tick_answer ms n = pick (too_far (clock_after (advances_of (calls_of ms))) n) (Err Refusal.PastClock) (Ok tt)

-- who is joined is this one alone
abbrev pub OnlyJoined : List ℕ → List TableMade → Type 0
OnlyJoined own ms = (a : List ℕ) → joined_in a ms ≡ same a own
