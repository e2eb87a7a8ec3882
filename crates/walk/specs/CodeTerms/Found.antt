-- What stands at a place of a run, and what it says of the rest of the run: which octets are the contents, and where the next
-- element begins.
use Rattle.std.specs.Prelude.{List, ◌≡◌, ℕ, ◌+◌, ◌-◌, ◌≤◌, take, drop}
use Rattle.walk.specs.Elements.{Elements, end, cut_header, cut_contents, more, elements_in}
use Rattle.walk.specs.declared.Found.{Found}

abbrev pub follow : List ℕ → Found → Elements
follow run Found.End = end
follow run (Found.CutHeader o) = cut_header o
follow run (Found.CutContents id) = cut_contents id
follow run (Found.Whole id start stop) = more id (take (stop - start) (drop start run)) (elements_in (drop stop run))

-- an element at a place begins two octets past it, and ends in the run
abbrev pub Within : ℕ → ℕ → Found → Type 0
Within at size Found.End = size ≤ at
Within at size (Found.CutHeader o) = Unit {0}
Within at size (Found.CutContents id) = Unit {0}
Within at size (Found.Whole id start stop) = (start ≡ at + 2) × (start ≤ stop) × (stop ≤ size)
