-- The parts of a record, put one after the other into its keeper's octets. Assumes nothing.
use Rattle.std.specs.Prelude.{Some, Option}
use mathlib.Core.List.{List, [], ◌∷◌, ◌++◌}
use mathlib.Core.Path.{◌≡◌, refl, sym, ap, ◌∙◌, subst}
use Prim.Native.Nat.{ℕ, ◌+◌, ◌-◌, ◌*◌, ◌<◌, ◌≤◌}
use native.Mathlib.Numerals.{add-one}
use native.Mathlib.Omega.{arith}
use borrow.Rule.Slice.PartMut.{put_mid}
use lib.ListN.{length, take, drop, get_or, set, length-append}
use lib.Seq.{length-take-le, take-suc}
use Rattle.beacon.proofs.HeldLengths.{power_length}
use Rattle.beacon.specs.Beacons.{quiet_limit}
use Rattle.beacon.specs.Notices.{held_power}
use Rattle.element.specs.declared.power_constraint.PowerConstraint.{PowerConstraint}
use Rattle.octets.proofs.Copied.{copied_over, front_over, over_front, set_over, Put, first_put, next_put, next_copied, same_size}
use Rattle.octets.specs.Numbers.{split}
use Rattle.octets.specs.Writing.{over, filled}
use Rattle.pending.specs.declared.Switch.{Switch}
use Rattle.schedule.specs.declared.Schedule.{Schedule}
use Rattle.station.specs.Stations.{in_use}
use Rattle.station.specs.declared.Station.{Station}
use Rattle.station_record.proofs.Lengths.{settings_length, pending_length, state_length}
use Rattle.station_record.proofs.SlotBySlot.{slots_one_more}
use Rattle.station_record.proofs.Slots.{slots_length}
use Rattle.station_record.specs.Records.{version, size, slot_length, settings_octets, held_pending, state_octets, slot_octets, slots_of, record_of}

module _ (m : List ℕ) where
  pub settings_put : (s : Station) {a b c d e : List ℕ} → a ≡ version ∷ s.channel ∷ [] → b ≡ split 2 s.interval → c ≡ split 4 s.clock → d ≡ s.own → e ≡ s.ap
      → length s.own ≡ 6 → length s.ap ≡ 6 → size ≤ length m
      → put_mid 14 6 (put_mid 8 6 (put_mid 4 4 (put_mid 2 2 (a ++ drop 2 m) b) c) d) e ≡ over m 0 (settings_octets s.own s.ap s.interval s.clock s.channel)
  settings_put s a b c d e own_six ap_six room =
      let p = first_put 0 (version ∷ s.channel ∷ []) m (omega arith) (front_over 2 m a refl) in
      let p2 = next_copied p 2 refl (split 2 s.interval) (omega arith) b refl in
      let p4 = next_copied p2 4 refl (split 4 s.clock) (omega arith) c refl in
      let p8 = next_copied p4 8 refl s.own (omega arith) d (sym own_six) in
      (next_copied p8 14 (omega (arith, p8.fits)) s.ap (omega arith) e (sym ap_six)).stands

  pub pending_put : (x : Switch) {a b : List ℕ} → a ≡ 1 ∷ x.mode ∷ x.channel ∷ [] → b ≡ split 8 x.at → size ≤ length m
      → put_mid 25 8 (put_mid 22 3 m a) b ≡ over m 22 (held_pending (Some x))
  pending_put x a b room =
      let p = first_put 22 (1 ∷ x.mode ∷ x.channel ∷ []) m (omega arith) (copied_over 22 m a refl) in
      (next_copied p 25 refl (split 8 x.at) (omega arith) b refl).stands

  pub state_put : (power : Option PowerConstraint) (pending : Option Switch) (until count : ℕ) {a b now : List ℕ}
      → a ≡ held_power power → now ≡ over (put_mid 20 2 m a) 22 (held_pending pending) → b ≡ split 8 until → size ≤ length m
      → set (put_mid 33 8 now b) 41 count ≡ over m 20 (state_octets power pending until count)
  state_put power pending until count a stands b room =
      let two = power_length power in
      let eleven = pending_length pending in
      let p = first_put 20 (held_power power) m (omega (arith, two)) (copied_over 20 m a (sym two)) in
      let p22 = next_put p 22 (omega (arith, two)) (held_pending pending) (omega (arith, two, eleven)) stands in
      let p33 = next_copied p22 33 (omega (arith, p22.fits, two, eleven, length-append (held_power power) (held_pending pending))) (split 8 until)
      (omega (arith, two, eleven, length-append (held_power power) (held_pending pending))) b refl in
      (next_put p33 41 (omega (arith, two, eleven, length-append (held_power power) (held_pending pending), length-append (held_power power ++ held_pending pending) (split 8 until)))
      (count ∷ []) (omega (arith, two, eleven, length-append (held_power power) (held_pending pending), length-append (held_power power ++ held_pending pending) (split 8 until)))
      (set_over 41 _ count (omega (arith, same_size p33)))).stands

  pub slot_put : (x : Schedule) (at : ℕ) {a b c : List ℕ} → a ≡ split 8 x.start → b ≡ split 8 x.period → c ≡ split 2 x.duration → at + slot_length ≤ length m
      → put_mid (at + 16) (at + 18 - (at + 16)) (put_mid (at + 8) (at + 16 - (at + 8)) (put_mid at (at + 8 - at) m a) b) c ≡ over m at (slot_octets x)
  slot_put x at a b c room =
      let p = first_put at (split 8 x.start) m (omega arith) (copied_over at m a (let n : at + 8 - at ≡ 8 = omega arith in n)) in
      let p8 = next_copied p (at + 8) refl (split 8 x.period) (omega arith) b (let n : at + 16 - (at + 8) ≡ 8 = omega arith in n) in
      (next_copied p8 (at + 16) (let n : at + 16 ≡ at + 16 = refl in n) (split 2 x.duration) (omega arith) c (let n : at + 18 - (at + 16) ≡ 2 = omega arith in n)).stands

  -- one schedule more
  pub next_slot_put : (xs : List Schedule) (i : ℕ) (d : Schedule) {now exit : List ℕ} → i < length xs → length xs ≤ quiet_limit → size ≤ length m
      → Put 42 (slots_of (take i xs)) m now → exit ≡ over now (42 + slot_length * i) (slot_octets (get_or xs i d)) → Put 42 (slots_of (take (i + 1) xs)) m exit
  next_slot_put xs i d {exit = exit} h few room p e =
      let many = length-take-le i xs (omega arith) in
      let size = slots_length (take i xs) in
      subst (λ (os : List ℕ). Put 42 os m exit)
      (sym (slots_one_more (take i xs) (get_or xs i d)) ∙ ap slots_of (sym (take-suc xs i d h) ∙ ap (λ (n : ℕ). take n xs) (sym (add-one i))))
      (next_put p (42 + slot_length * i) (omega (arith, many, size)) (slot_octets (get_or xs i d)) (omega (arith, many, size)) e)

  -- the whole
  pub record_put : (s : Station) {m1 m2 m3 : List ℕ} → length s.own ≡ 6 → length s.ap ≡ 6 → length (in_use s) ≤ quiet_limit → size ≤ length m
      → m1 ≡ over m 0 (settings_octets s.own s.ap s.interval s.clock s.channel) → m2 ≡ over m1 20 (state_octets s.power s.pending s.until s.count)
      → m3 ≡ over m2 42 (slots_of (in_use s)) → m3 ≡ filled (record_of s) m
  record_put s own_six ap_six few room e1 e2 e3 =
      let twenty = settings_length s.own s.ap s.interval s.clock s.channel own_six ap_six in
      let more = state_length s.power s.pending s.until s.count in
      let head = length-append (settings_octets s.own s.ap s.interval s.clock s.channel) (state_octets s.power s.pending s.until s.count) in
      let p = first_put 0 (settings_octets s.own s.ap s.interval s.clock s.channel) m (omega (arith, twenty)) e1 in
      let p20 = next_put p 20 (omega (arith, twenty)) (state_octets s.power s.pending s.until s.count) (omega (arith, twenty, more)) e2 in
      let p42 = next_put p20 42 (omega (arith, twenty, more, head)) (slots_of (in_use s)) (omega (arith, twenty, more, head, slots_length (in_use s))) e3 in
      p42.stands ∙ over_front (record_of s) m
