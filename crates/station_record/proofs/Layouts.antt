-- A record and its station (02, Eight: "both give the same station and answer"): octets that are not refused are the record of the station that is
-- read from them, which is valid, and a valid station is read from its record. Assumes nothing.
use Rattle.std.specs.Prelude.{Ok, Option}
use mathlib.Core.Bool.{true, false}
use mathlib.Core.List.{List, [], ◌∷◌, ◌++◌, append_assoc}
use mathlib.Core.Logic.{⊎_elim}
use mathlib.Core.Path.{◌≡◌, sym, ap, ap₂, ◌∙◌, subst}
use Prim.Native.Nat.{ℕ, ◌+◌, ◌-◌, ◌*◌, ◌≤◌}
use native.Mathlib.Omega.{arith}
use borrow.Author.Tests.{ltb-false, le-ltb, eqb-false, ne_eqb}
use lib.Dec.{ltb, eqb}
use lib.ListN.{length, take, drop, replicate, length-append, length-replicate, take-append-drop}
use lib.Seq.{take_at, drop_at}
use Rattle.answer.proofs.Booleans.{either, neither, or_go}
use Rattle.answer.proofs.Judged.{passed, kept, past, done}
use Rattle.answer.specs.Checks.{◌⇒◌, judged}
use Rattle.answer.specs.declared.Refusal.{Refusal}
use Rattle.beacon.specs.Beacons.{quiet_limit}
use Rattle.channel.specs.Centres.{highest}
use Rattle.octets.proofs.JoinSplit.{from_octets, length_from, number_bound, take_from, from_add}
use Rattle.octets.specs.Numbers.{Octets, bit, octet, number}
use Rattle.schedule.specs.declared.Schedule.{Schedule}
use Rattle.station.proofs.InUse.{in_use_length, in_use_slotted}
use Rattle.station.specs.Starting.{start_forbids}
use Rattle.station.specs.Stations.{no_schedule, slotted, in_use}
use Rattle.station.specs.Validity.{Valid}
use Rattle.station.specs.declared.Station.{Station}
use Rattle.station_record.proofs.Heads.{head_length_lem, head_lies, pending_at_allowed, Shows, head_shows, power_told_lem, power_fine, pending_told, switch_fine}
use Rattle.station_record.proofs.Slots.{read_length, slots_length, slots_lie, slots_fit, read_after, slots_read}
use Rattle.station_record.proofs.Sound.{Sound, sound, not_refused}
use Rattle.station_record.specs.Fits.{PowerFits, MomentFits, AllFit, Fits}
use Rattle.station_record.specs.Held.{power_at, pending_at, schedules_from, station_at, no_record, held_in, Holds}
use Rattle.station_record.specs.Records.{size, head_length, slot_length, head_of, slots_of, record_of}
use Rattle.element.specs.declared.power_constraint.PowerConstraint.{PowerConstraint}
use Rattle.pending.specs.declared.Switch.{Switch}

-- ---- how many octets

-- those before the schedules, and as many for each schedule in use
pub record_length : (s : Station) → length s.own ≡ 6 → length s.ap ≡ 6
    → length (record_of s) ≡ head_length + slot_length * length (in_use s)
record_length s a b = length-append (head_of s) (slots_of (in_use s)) ∙ ap₂ (λ (m n : ℕ). m + n) (head_length_lem s a b) (slots_length (in_use s))

-- ---- from octets to a station and back

module _ (os : List ℕ) where
  -- the schedules in use are those that were read
  held_in_use : in_use (station_at os) ≡ schedules_from (octet 41 os) head_length os
  held_in_use =
      let xs = schedules_from (octet 41 os) head_length os in
      take_at xs (replicate (quiet_limit - length xs) no_schedule) (octet 41 os) (read_length (octet 41 os) head_length os)

  -- its record has so many octets
  held_length : length (record_of (station_at os)) ≡ head_length + slot_length * octet 41 os
  held_length =
      record_length (station_at os) (length_from 6 8 os) (length_from 6 14 os)
      ∙ ap (λ (n : ℕ). head_length + slot_length * n) (ap length held_in_use ∙ read_length (octet 41 os) head_length os)

  -- the station that was read is valid
  pub held_valid : no_record os ≡ false → Valid (station_at os)
  held_valid e =
      let w = sound os e in
      let xs = schedules_from (octet 41 os) head_length os in
      let many = read_length (octet 41 os) head_length os in
      let a = neither (eqb (number 2 2 os) 0) _ w.startable in
      let b = neither (ltb highest (octet 1 os)) _ a.1 in
      let c = neither (bit 0 (octet 8 os)) _ b.1 in
      record {
        own_single = c.0;
        ap_single = c.1;
        interval_positive = omega (arith, eqb-false (number 2 2 os) 0 a.0);
        channel_known = ltb-false highest (octet 1 os) b.0;
        pending_fits = pending_at_allowed os w;
        slots =
            length-append xs (replicate (quiet_limit - length xs) no_schedule)
            ∙ omega (arith, length-replicate (quiet_limit - length xs) no_schedule, many, w.few);
        few = w.few;
        rest_blank =
            drop_at xs (replicate (quiet_limit - length xs) no_schedule) (octet 41 os) many
            ∙ ap (λ (n : ℕ). replicate (quiet_limit - n) no_schedule) many;
      }

  -- the record of the station that was read has the first octets
  held_front : Octets os → no_record os ≡ false → record_of (station_at os) ≡ take (length (record_of (station_at os))) os
  held_front o e =
      let w = sound os e in
      let n = slot_length * octet 41 os in
      ap₂ (λ (a b : List ℕ). a ++ b) (head_lies os o w) (ap slots_of held_in_use ∙ slots_lie (octet 41 os) head_length os o)
      ∙ sym (from_add head_length n 0 os)
      ∙ sym (take_from (head_length + n) 0 os (omega (arith, w.roomy, w.few)))
      ∙ ap (λ (k : ℕ). take k os) (sym held_length)

  -- so they are its record and what stands after it
  pub held_lies : Octets os → no_record os ≡ false → os ≡ record_of (station_at os) ++ drop (length (record_of (station_at os))) os
  held_lies o e =
      let n = length (record_of (station_at os)) in
      sym (ap (λ (front : List ℕ). front ++ drop n os) (held_front o e) ∙ take-append-drop n os)

  -- a Power Constraint that was read fits its octet, and a moment its eight
  power_held_fits : Octets os → PowerFits (power_at os)
  power_held_fits o = ⊎_elim
      (λ (y : eqb (octet 20 os) 0 ≡ true). simp y tt)
      (λ (n : eqb (octet 20 os) 0 ≡ false). simp n (o 21))
      (either (eqb (octet 20 os) 0))

  moment_held_fits : Octets os → MomentFits (pending_at os)
  moment_held_fits o = ⊎_elim
      (λ (y : eqb (octet 22 os) 0 ≡ true). simp y tt)
      (λ (n : eqb (octet 22 os) 0 ≡ false). simp n (number_bound 8 25 os o))
      (either (eqb (octet 22 os) 0))

  -- and so all that was read fits the types that the code has for it
  pub held_fits : Octets os → no_record os ≡ false → Fits (station_at os)
  held_fits o e =
      record {
        own_six = length_from 6 8 os;
        own_octets = from_octets 6 8 os o;
        ap_six = length_from 6 14 os;
        ap_octets = from_octets 6 14 os o;
        interval_fits = number_bound 2 2 os o;
        clock_fits = number_bound 4 4 os o;
        power_fits = power_held_fits o;
        moment_fits = moment_held_fits o;
        schedules_fit = subst AllFit (sym held_in_use) (slots_fit (octet 41 os) head_length os o);
        until_fits = number_bound 8 33 os o;
      }

-- ---- from a station to octets and back

-- stations are the same whose fields are
pub same_station : {o o' a a' : List ℕ} {i i' c c' h h' : ℕ} {p p' : Option PowerConstraint} {w w' : Option Switch} {xs xs' : List Schedule} {n n' u u' : ℕ}
    → o ≡ o' → a ≡ a' → i ≡ i' → c ≡ c' → h ≡ h' → p ≡ p' → w ≡ w' → xs ≡ xs' → n ≡ n' → u ≡ u'
    → ◌≡◌ {A = Station}
    (record { own = o; ap = a; interval = i; clock = c; channel = h; power = p; pending = w; schedules = xs; count = n; until = u })
    (record { own = o'; ap = a'; interval = i'; clock = c'; channel = h'; power = p'; pending = w'; schedules = xs'; count = n'; until = u' })
same_station o a i c h p w xs n u = cc

module _ (s : Station) (v : Valid s) where
  -- it may be started
  valid_startable : start_forbids s.own s.ap s.interval s.channel ≡ false
  valid_startable =
      or_go (eqb s.interval 0) (ne_eqb s.interval 0 (λ (e : s.interval ≡ 0). omega (arith, v.interval_positive)))
      ∙ or_go (ltb highest s.channel) (le-ltb highest s.channel v.channel_known)
      ∙ or_go (bit 0 (octet 0 s.own)) v.own_single
      ∙ v.ap_single

module _ {s : Station} (v : Valid s) (f : Fits s) {os : List ℕ} (w : Shows os s) where
  -- octets that show a valid station are not refused
  shown_sound : size ≤ length os → Sound os
  shown_sound h =
      record {
        roomy = h;
        known = w.version_there;
        startable =
            ap₂ (λ (own ap : List ℕ). start_forbids own ap (number 2 2 os) (octet 1 os)) w.own_there w.ap_there
            ∙ ap₂ (λ (interval channel : ℕ). start_forbids s.own s.ap interval channel) w.interval_there w.channel_there
            ∙ valid_startable s v;
        power_sound = power_fine w;
        switch_sound = switch_fine w f.moment_fits v.pending_fits;
        few = omega (arith, w.count_there, v.few);
      }

  -- and where they show its schedules, it is read from them
  shown_station : schedules_from s.count head_length os ≡ in_use s → station_at os ≡ s
  shown_station e =
      same_station w.own_there w.ap_there w.interval_there w.clock_there w.channel_there (power_told_lem w) (pending_told w f.moment_fits)
      (ap (λ (n : ℕ). slotted (schedules_from n head_length os)) w.count_there ∙ ap slotted e ∙ in_use_slotted s v)
      w.count_there w.until_there

module _ (s : Station) (v : Valid s) (f : Fits s) (rest : List ℕ) where
  -- the schedules are read again
  laid_schedules : schedules_from s.count head_length (head_of s ++ (slots_of (in_use s) ++ rest)) ≡ in_use s
  laid_schedules =
      let later = slots_of (in_use s) ++ rest in
      let place : head_length ≡ length (head_of s) + 0 = omega (arith, head_length_lem s f.own_six f.ap_six) in
      ap₂ (λ (n p : ℕ). schedules_from n p (head_of s ++ later)) (sym (in_use_length s v)) place
      ∙ read_after (length (in_use s)) 0 (head_of s) later
      ∙ slots_read (in_use s) f.schedules_fit rest

  -- and so is the station
  pub laid_reads : size ≤ length (record_of s ++ rest) → held_in (record_of s ++ rest) ≡ Ok s
  unfolding held_in
  laid_reads h =
      let parts : record_of s ++ rest ≡ head_of s ++ (slots_of (in_use s) ++ rest) = append_assoc (head_of s) (slots_of (in_use s)) rest in
      let w : Shows (record_of s ++ rest) s = subst (λ (os : List ℕ). Shows os s) (sym parts) (head_shows s f (slots_of (in_use s) ++ rest)) in
      let same = shown_station v f w (ap (schedules_from s.count head_length) parts ∙ laid_schedules) in
      sym (past _ _ _ (not_refused (record_of s ++ rest) (shown_sound v f w h)) (ap Ok (sym same) ∙ done _))

-- ---- both ways at once

-- octets give a station exactly where they begin with its record
pub holds_exactly : (os : List ℕ) → Octets os → (s : Station) → (held_in os ≡ Ok s → Holds os s) × (Holds os s → held_in os ≡ Ok s)
unfolding held_in
holds_exactly os o s = (there, back)
  where
    there : judged (no_record os ⇒ Refusal.Impossible ∷ []) (station_at os) ≡ Ok s → Holds os s
    there e =
        let p = passed _ _ _ e in
        subst (Holds os) (kept (station_at os) p.1)
        (record {
          valid = held_valid os p.0;
          fits = held_fits os o p.0;
          roomy = (sound os p.0).roomy;
          begins = (drop (length (record_of (station_at os))) os, held_lies os o p.0);
        })

    back : Holds os s → judged (no_record os ⇒ Refusal.Impossible ∷ []) (station_at os) ≡ Ok s
    back h =
        let same = h.begins.1 in
        ap held_in same ∙ laid_reads s h.valid h.fits h.begins.0 (subst (λ (x : List ℕ). size ≤ length x) same h.roomy)
