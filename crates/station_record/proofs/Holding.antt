-- What octets hold, by the one test of them. Assumes nothing.
use Rattle.std.specs.Prelude.{Ok, Err}
use mathlib.Core.Bool.{true, false}
use mathlib.Core.List.{List}
use mathlib.Core.Path.{◌≡◌, sym}
use Prim.Native.Nat.{ℕ, ◌≤◌}
use lib.ListN.{length}
use Rattle.answer.proofs.Judged.{passed, past, stop, done}
use Rattle.answer.specs.declared.Refusal.{Refusal}
use Rattle.beacon.specs.Beacons.{quiet_limit}
use Rattle.octets.specs.Numbers.{octet}
use Rattle.station.specs.declared.Station.{Station}
use Rattle.station_record.proofs.Sound.{sound}
use Rattle.station_record.specs.Held.{station_at, no_record, held_in}
use Rattle.station_record.specs.Records.{size}

module _ (os : List ℕ) where
  pub held_none : no_record os ≡ true → held_in os ≡ Err Refusal.Impossible
  unfolding held_in
  held_none e = sym (stop _ _ _ e)

  pub held_some : no_record os ≡ false → held_in os ≡ Ok (station_at os)
  unfolding held_in
  held_some e = sym (past _ _ _ e (done _))

-- octets that hold a station have a schedule's slot for each in use
pub held_few : (os : List ℕ) → no_record os ≡ false → octet 41 os ≤ quiet_limit
held_few os e = (sound os e).few

-- where a station is held there is room for any record
pub held_room : (os : List ℕ) (s : Station) → held_in os ≡ Ok s → size ≤ length os
unfolding held_in
held_room os s e = (sound os (passed _ _ _ e).0).roomy
