-- What stands at a place of the used part, and what it says of the rest.
use Rattle.std.specs.Prelude.{List, ◌≡◌, ℕ, ◌+◌, ◌-◌, ◌≤◌, take, drop}
use Rattle.capture_record.specs.Records.{Records, end, cut, more, records_in}
use Rattle.capture_record.specs.declared.Found.{Found}

abbrev pub follow : List ℕ → Found → Records
follow used Found.End = end
follow used Found.Cut = cut
follow used (Found.Whole kind start stop) = more kind (take (stop - start) (drop start used)) (records_in (drop stop used))

-- a record at a place has its contents three octets past it, and ends in the used part
abbrev pub Within : ℕ → ℕ → Found → Type 0
Within at size Found.End = size ≤ at
Within at size Found.Cut = at + 1 ≤ size
Within at size (Found.Whole kind start stop) = (start ≡ at + 3) × (start ≤ stop) × (stop ≤ size)
