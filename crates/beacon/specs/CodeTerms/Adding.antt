-- An element as the code reads it and adds it to a notice. A Quiet element that finds a slot does not come this way.
use Rattle.std.specs.Prelude.{List, ◌≡◌, ℕ, ◌≤◌, length, Ok, Err}
use Rattle.answer.specs.Checks.{Outcome}
use Rattle.element.specs.Quiet.{quiet_means}
use Rattle.element.specs.declared.quiet.Quiet.{Quiet}
use Rattle.beacon.specs.Beacons.{Told, tells, quiet_limit}
use Rattle.beacon.specs.declared.Notice.{Notice}
use Rattle.beacon.specs.declared.elements.Element.{Element}

-- what is said with what was added to a notice, beside these Quiet elements
abbrev pub added_told : List Quiet → Outcome Notice → Outcome Told
added_told qs (Err r) = Err r
added_told qs (Ok next) = Ok (tells next qs)

-- beside these Quiet elements there is no slot for the element, if it is a Quiet element
abbrev pub Slotless : List Quiet → Element → Type 0
Slotless qs (Element.Power p) = Unit {0}
Slotless qs (Element.Report t) = Unit {0}
Slotless qs (Element.Switch s) = Unit {0}
Slotless qs (Element.Quiet q) = quiet_limit ≤ length qs
Slotless qs Element.Other = Unit {0}

-- the same of an element by its ID and its contents, if it is a Quiet element that is not refused; `b` is the beacon interval
abbrev pub SlotlessIn : List Quiet → ℕ → ℕ → List ℕ → Type 0
SlotlessIn qs b id c = (q : Quiet) → id ≡ 40 → quiet_means b c ≡ Ok q → quiet_limit ≤ length qs
