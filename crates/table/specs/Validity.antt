-- What start and the calls make of a table (02, Six): the one thing that a call asks of the table it is handed. Rows that are joined have distinct individual
-- addresses and the table's AP, interval and clock; the others hold one fixed blank.
use Rattle.std.specs.Prelude.{Bool, true, false, List, [], ◌∷◌, ◌≡◌, ℕ, ◌≤◌, length, All}
use Rattle.octets.specs.Numbers.{bit, octet}
use Rattle.row.specs.Rows.{row_count, is_of, Occupied}
use Rattle.row.specs.declared.Row.{Row}
use Rattle.station.specs.Validity.{Valid}
use Rattle.station.specs.declared.Station.{Station}
use Rattle.table.specs.Tables.{some_row}
use Rattle.table.specs.declared.Table.{Table}

-- a valid station, whose address is an individual one, of this AP, beacon interval and clock
pub record Sits (ap : List ℕ) (b clock : ℕ) (s : Station) : Type 0 where
  pub valid : Valid s
  pub same_ap : s.ap ≡ ap
  pub same_interval : s.interval ≡ b
  pub same_clock : s.clock ≡ clock

abbrev pub Holds : List ℕ → ℕ → ℕ → Bool → Station → Type 0
Holds ap b clock joined s = Occupied (Sits ap b clock) joined s

abbrev pub RowOf : Table → Row → Type 0
RowOf t w = Holds t.ap t.interval t.clock w.joined w.station

-- no two rows that are joined have one address: none has that of one before it
unfoldable pub Apart : List Row → Type 0
Apart [] = Unit {0}
Apart (w ∷ ws) = (w.joined ≡ true → some_row (is_of w.station.own) ws ≡ false) × Apart ws

pub record ValidTable (t : Table) : Type 0 where
  pub ap_single : bit 0 (octet 0 t.ap) ≡ false
  pub interval_positive : 1 ≤ t.interval
  pub sixteen : length t.rows ≡ row_count
  pub each : All (RowOf t) t.rows
  pub apart : Apart t.rows
