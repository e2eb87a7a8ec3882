-- The records that ask no more of a station than its clock and its pending switch, and their lines.
use Rattle.std.specs.Prelude.{Bool, true, false, not, ◌&&◌, List, ◌≡◌, ℕ, ◌+◌, ◌-◌, ◌*◌, ◌/◌, ◌≤◌, leb, eqb, length, drop, Ok, Option}
use Rattle.answer.specs.Checks.{Outcome}
use Rattle.capture_record.specs.Entries.{Noted, advancing, asking, entry_means}
use Rattle.capture_record.specs.Records.{more, records_in}
use Rattle.octets.specs.Writing.{over}
use Rattle.pen.specs.Numerals.{Spells}
use Rattle.pen.specs.Rooms.{line_room}
use Rattle.pen.specs.declared.Pen.{Pen}
use Rattle.station.specs.Clear.{Clear}
use Rattle.station.specs.Clock.{clock_advance}
use Rattle.station.specs.Stations.{unit_limit, with_clock}
use Rattle.station.specs.Validity.{Valid}
use Rattle.station.specs.declared.clock.Advanced.{Advanced}
use Rattle.capture.specs.Listers.{with_lines, with_station}
use Rattle.capture.specs.Lists.{before, recorded}
use Rattle.capture.specs.declared.lister.Lister.{Lister}
use Rattle.capture.specs.declared.plain.Plain.{Plain}
use Rattle.capture.specs.declared.plain.Ran.{Ran}
use Rattle.pending.specs.declared.Switch.{Switch}

-- ---- one record

-- a question of n units ends where it is known to be clear
abbrev pub known_granted : ℕ → ℕ → ℕ → Bool
known_granted t c n = not (eqb n 0) && leb (t + n) c

-- an advance that ends at a place
abbrev pub goes_to : Outcome Advanced → ℕ → Plain
goes_to (Ok (Advanced.Goes t)) end = Plain.Goes t end
goes_to _ end = Plain.Other

-- the record at a place notes this, and the next one stands at `end`
pub record Notes (used : List ℕ) (at end : ℕ) (x : Noted) : Type 0 where
  pub kind : ℕ
  pub contents : List ℕ
  pub stands : records_in (drop at used) ≡ more kind contents (records_in (drop end used))
  pub means : entry_means kind contents ≡ x
  pub past : at + 3 ≤ end
  pub within : end ≤ length used

abbrev pub PlainAt : List ℕ → ℕ → ℕ → Option Switch → ℕ → Plain → Type 0
PlainAt used at t p c (Plain.Goes later end) = (n : ℕ) × Notes used at end (advancing n) × (clock_advance t p n ≡ Ok (Advanced.Goes later))
PlainAt used at t p c (Plain.Granted end) = (n : ℕ) × Notes used at end (asking n) × (n ≤ unit_limit) × (known_granted t c n ≡ true)
PlainAt used at t p c Plain.Other = Unit {0}

-- ---- one after the other

-- how many lines so many octets of records make at most: one that is cut makes a line too
abbrev pub lines_left : ℕ → ℕ
lines_left n = (n + 2) / 3

-- the lister with its station's clock at t
abbrev pub clocked_at : Lister → ℕ → Lister
clocked_at l t = with_station l l.active (with_clock l.station t)

-- the station that is followed, if one is: its clock is at t, its pending switch is p, and it is clear before c
pub record Watched (l : Lister) (active : Bool) (t : ℕ) (p : Option Switch) (c : ℕ) : Type 0 where
  pub same : l.active ≡ active
  pub clock : l.station.clock ≡ t
  pub pending : l.station.pending ≡ p
  pub valid : active ≡ true → Valid l.station
  pub clear : active ≡ true → Clear l.station c

-- what the lines of plain records leave, of which the first stands at `start`
pub record RanFrom (used : List ℕ) (start : ℕ) (active : Bool) (t : ℕ) (p : Option Switch) (c : ℕ) (begun : Pen) (out : List ℕ) (r : Ran) (digits exit : List ℕ) : Type 0 where
  pub text : List ℕ
  pub told : (l : Lister) → Watched l active t p c
      → recorded (records_in (drop start used)) (with_lines l begun.lines)
      ≡ before text (recorded (records_in (drop r.at used)) (with_lines (clocked_at l r.clock) r.pen.lines))
  pub watched : (l : Lister) → Watched l active t p c → Watched (clocked_at l r.clock) active r.clock p c
  pub idle : active ≡ false → r.clock ≡ t
  pub many : r.pen.count ≡ begun.count + length text
  pub leaves : exit ≡ over out begun.count text
  pub spells : Spells r.pen.lines digits r.pen.from
  pub past : start ≤ r.at
  pub within : r.at ≤ length used
  pub few : r.pen.lines + lines_left (length used - r.at) ≤ begun.lines + lines_left (length used - start)
  pub room : r.pen.count + line_room * begun.lines ≤ begun.count + line_room * r.pen.lines
