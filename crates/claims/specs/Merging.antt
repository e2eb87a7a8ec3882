-- What it means that advances may be merged (02, Seven: "advancing by a and then b, where both are accepted and a + b is at most 65,535, leaves the same station as advancing
-- by a + b, that zero changes nothing"), for anything that has a clock: document 01's station, a station of an IBSS, a table.
use Rattle.std.specs.Prelude.{List, [], ◌∷◌, ◌≡◌, ℕ, ◌+◌, ◌≤◌, Ok}
use Rattle.station.specs.Stations.{clock_limit, unit_limit}
use Rattle.table.specs.declared.Table.{Table}
use Rattle.claims.specs.TableRuns.{tick, answered, Does}
use Rattle.answer.specs.Checks.{Answer}

-- `Table::tick` was called on a table, gave this answer and left that table
abbrev pub TableTicks : Table → ℕ → Answer → Table → Type 0
TableTicks t n r next = Does t (tick n) (answered r) next

unfoldable pub sum : List ℕ → ℕ
sum [] = 0
sum (n ∷ ns) = n + sum ns

-- each is an advance that may be accepted
unfoldable pub NoneTooLong : List ℕ → Type 0
NoneTooLong [] = Unit {0}
NoneTooLong (n ∷ ns) = (n ≤ unit_limit) × NoneTooLong ns

-- `StepsTo` is what the code's own promise allows of an advance
module _ {S : Type 0} (StepsTo : S → ℕ → Answer → S → Type 0) where
  -- advances one after the other, with any answers
  unfoldable pub AllMade : S → List ℕ → S → Type 0
  AllMade s [] last = s ≡ last
  AllMade s (n ∷ ns) last = (r : Answer) × (next : S) × StepsTo s n r next × AllMade next ns last

  -- the same, each of them accepted
  unfoldable pub AllAccepted : S → List ℕ → S → Type 0
  AllAccepted s [] last = s ≡ last
  AllAccepted s (n ∷ ns) last = (next : S) × StepsTo s n (Ok tt) next × AllAccepted next ns last

  -- a clock of 32 bits is at most its limit; of what calls have reached that is proved
  pub record Merges (ValidOf : S → Type 0) (clock_of : S → ℕ) : Type 0 where
    -- advancing twice is advancing once
    pub twice_once : (s mid last : S) (a b : ℕ) → ValidOf s → StepsTo s a (Ok tt) mid → StepsTo mid b (Ok tt) last → a + b ≤ unit_limit
        → (r : Answer) (next : S) → StepsTo s (a + b) r next → (r ≡ Ok tt) × (next ≡ last)
    -- zero is accepted and changes nothing
    pub zero_nothing : (s : S) → ValidOf s → clock_of s ≤ clock_limit → (r : Answer) (next : S) → StepsTo s 0 r next → (r ≡ Ok tt) × (next ≡ s)
    -- accepted advances of one sum leave the same, however they are cut
    pub same_sum : (s x y : S) (ns ms : List ℕ) → ValidOf s → AllAccepted s ns x → AllAccepted s ms y → sum ns ≡ sum ms → x ≡ y
    -- and what a capture tool cuts anew is accepted where the old advances were
    pub cut_anew : (s x y : S) (ns ms : List ℕ) → ValidOf s → clock_of s ≤ clock_limit → AllAccepted s ns x → sum ns ≡ sum ms → NoneTooLong ms → AllMade s ms y
        → AllAccepted s ms y × (x ≡ y)
