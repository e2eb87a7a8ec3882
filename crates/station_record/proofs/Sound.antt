-- What octets say, test by test, that are not refused, and that nothing else refuses them. Assumes nothing.
use mathlib.Core.Bool.{false, not}
use mathlib.Core.List.{List}
use mathlib.Core.Path.{◌≡◌, ap, ◌∙◌}
use Prim.Native.Nat.{ℕ, ◌≤◌}
use borrow.Author.Tests.{ltb-false, le-ltb, eqb-true, eq-eqb, not-false}
use lib.Dec.{ltb, eqb}
use lib.ListN.{length}
use Rattle.answer.proofs.Booleans.{neither, or_go}
use Rattle.beacon.specs.Beacons.{quiet_limit}
use Rattle.octets.specs.Numbers.{octet, octets_from, number}
use Rattle.station.specs.Starting.{start_forbids}
use Rattle.station_record.specs.Held.{switch_at, power_broken, switch_broken, no_record}
use Rattle.station_record.specs.Records.{version, size}

-- all that `no_record` asks
pub record Sound (os : List ℕ) : Type 0 where
  pub roomy : size ≤ length os
  pub known : octet 0 os ≡ version
  pub startable : start_forbids (octets_from 6 8 os) (octets_from 6 14 os) (number 2 2 os) (octet 1 os) ≡ false
  pub power_sound : power_broken os ≡ false
  pub switch_sound : switch_broken (switch_at os) (octet 22 os) (number 4 4 os) ≡ false
  pub few : octet 41 os ≤ quiet_limit

-- octets that are not refused say it
pub sound : (os : List ℕ) → no_record os ≡ false → Sound os
unfolding no_record
sound os e =
    let a = neither (ltb (length os) size) _ e in
    let b = neither (not (eqb (octet 0 os) version)) _ a.1 in
    let c = neither (start_forbids (octets_from 6 8 os) (octets_from 6 14 os) (number 2 2 os) (octet 1 os)) _ b.1 in
    let d = neither (power_broken os) _ c.1 in
    let f = neither (switch_broken (switch_at os) (octet 22 os) (number 4 4 os)) _ d.1 in
    record {
      roomy = ltb-false (length os) size a.0;
      known = eqb-true (octet 0 os) version (not-false (eqb (octet 0 os) version) b.0);
      startable = c.0;
      power_sound = d.0;
      switch_sound = f.0;
      few = ltb-false quiet_limit (octet 41 os) f.1;
    }

-- and octets that say it are not refused
pub not_refused : (os : List ℕ) → Sound os → no_record os ≡ false
unfolding no_record
not_refused os s =
    or_go (ltb (length os) size) (le-ltb (length os) size s.roomy)
    ∙ or_go (not (eqb (octet 0 os) version)) (ap not (eq-eqb (octet 0 os) version s.known))
    ∙ or_go (start_forbids (octets_from 6 8 os) (octets_from 6 14 os) (number 2 2 os) (octet 1 os)) s.startable
    ∙ or_go (power_broken os) s.power_sound
    ∙ or_go (switch_broken (switch_at os) (octet 22 os) (number 4 4 os)) s.switch_sound
    ∙ le-ltb quiet_limit (octet 41 os) s.few
