-- A record that is changed where it lies: the clock's octets alone, and at a switch the channel and the state. Assumes nothing.
use Rattle.std.specs.Prelude.{None}
use mathlib.Core.Bool.{false}
use mathlib.Core.List.{List, [], ◌∷◌, ◌++◌, append_assoc, append-nil}
use mathlib.Core.Path.{◌≡◌, refl, sym, ap, ap₂, ◌∙◌}
use Prim.Native.Nat.{ℕ, ◌+◌}
use native.Mathlib.Omega.{arith}
use lib.ListN.{length, take, drop, length-append}
use lib.Seq.{take_at, drop_at}
use Rattle.octets.proofs.JoinSplit.{length_from}
use Rattle.octets.specs.Numbers.{Octets, split}
use Rattle.octets.specs.Writing.{over, filled}
use Rattle.station.specs.Clock.{switched}
use Rattle.station.specs.Stations.{in_use, with_clock, with_channel}
use Rattle.station.specs.declared.Station.{Station}
use Rattle.station_record.proofs.Heads.{head_length_lem}
use Rattle.station_record.proofs.Layouts.{held_lies}
use Rattle.station_record.proofs.Lengths.{settings_length, state_length}
use Rattle.station_record.specs.Held.{station_at, no_record}
use Rattle.station_record.specs.Records.{head_length, settings_octets, state_octets, slots_of, head_of, record_of}

-- 22 octets over as many after the first 20
over_state : (front state later new : List ℕ) → length front ≡ 20 → length state ≡ 22 → length new ≡ 22
    → over ((front ++ state) ++ later) 20 new ≡ (front ++ new) ++ later
over_state front state later new f s n =
    ap₂ (λ (a b : List ℕ). a ++ new ++ b)
    (ap (take 20) (append_assoc front state later) ∙ take_at front (state ++ later) 20 f)
    (drop_at (front ++ state) later (20 + length new) (length-append front state ∙ omega (arith, f, s, n)))

module _ (os : List ℕ) (o : Octets os) (e : no_record os ≡ false) (m : ℕ) where
  -- the clock tells another moment
  pub told_in_place : over os 4 (split 4 m) ≡ filled (record_of (with_clock (station_at os) m)) os
  told_in_place = ap (λ (x : List ℕ). over x 4 (split 4 m)) (held_lies os o e)

  module _ (channel : ℕ) where
    abbrev cleared : List ℕ
    cleared = state_octets None None 0 0

    -- the station on another channel, before its state is cleared, and what stands after its head
    abbrev moved : Station
    moved = with_channel (with_clock (station_at os) m) channel

    abbrev later : List ℕ
    later = slots_of (in_use (station_at os)) ++ drop (length (record_of (station_at os))) os

    after_head_lem : drop head_length os ≡ later
    after_head_lem =
        let s = station_at os in
        ap (drop head_length) (held_lies os o e ∙ append_assoc (head_of s) (slots_of (in_use s)) (drop (length (record_of s)) os))
        ∙ drop_at (head_of s) later head_length (head_length_lem s (length_from 6 8 os) (length_from 6 14 os))

    pub switched_in_place : over (over (over os 4 (split 4 m)) 1 (channel ∷ [])) 20 (state_octets None None 0 0)
        ≡ filled (record_of (switched (with_clock (station_at os) m) channel)) os
    unfolding slots_of
    switched_in_place =
        let front = settings_octets moved.own moved.ap moved.interval moved.clock channel in
        ap (λ (x : List ℕ). over (over x 1 (channel ∷ [])) 20 cleared) told_in_place
        ∙ ap (λ (x : List ℕ). over x 20 cleared) (append_assoc (head_of moved) (slots_of (in_use moved)) (drop (length (record_of (station_at os))) os))
        ∙ over_state front (state_octets moved.power moved.pending moved.until moved.count) later cleared
        (settings_length moved.own moved.ap moved.interval moved.clock channel (length_from 6 8 os) (length_from 6 14 os))
        (state_length moved.power moved.pending moved.until moved.count) refl
        ∙ ap₂ (λ (a b : List ℕ). a ++ b) (sym (append-nil (front ++ cleared))) (sym after_head_lem)
