-- A Quiet element as the code looks for it at a place of a body, before it looks for any other element there.
use Rattle.std.specs.Prelude.{List, ◌≡◌, ℕ, ◌+◌, ◌<◌, ◌≤◌, length, drop, Ok, Some, None, Option}
use Rattle.element.specs.Quiet.{quiet_means}
use Rattle.element.specs.declared.quiet.Quiet.{Quiet}
use Rattle.walk.specs.Elements.{Elements, more, elements_in, past_element}
use Rattle.beacon.specs.Beacons.{quiet_limit}

-- a Quiet element stands at a place of a run, the first of the elements from there on: it is not refused and says this, and those after it begin 8 octets
-- on. `b` is the beacon interval
pub record QuietHere (run : List ℕ) (at b : ℕ) (q : Quiet) : Type 0 where
  pub contents : List ℕ
  pub begins : elements_in (drop at run) ≡ more 40 contents (elements_in (drop (at + 8) run))
  pub past : past_element at contents ≡ at + 8
  pub inside : at + 8 ≤ length run
  pub means : quiet_means b contents ≡ Ok q

-- where `n` slots are in use: there is one, and it finds a slot; or, if there is one, no slot is left for it
abbrev pub QuietAt : List ℕ → ℕ → ℕ → ℕ → Option Quiet → Type 0
QuietAt run at n b (Some q) = QuietHere run at b q × (n < quiet_limit)
QuietAt run at n b None =
    (c : List ℕ) (es : Elements) (q : Quiet) → elements_in (drop at run) ≡ more 40 c es → quiet_means b c ≡ Ok q → quiet_limit ≤ n
