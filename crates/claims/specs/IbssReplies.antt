-- Replies in an IBSS beside document 01's (02, Five): the same octets, but for whom they go to.
use Rattle.std.specs.Prelude.{List, ◌++◌, ℕ, take, drop}

-- a frame with this DA in place of its own, which is octets 4 to 9
abbrev pub sent_to : List ℕ → List ℕ → List ℕ
sent_to a os = take 4 os ++ (a ++ drop 10 os)
