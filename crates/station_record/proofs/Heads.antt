-- What stands in a record before its schedules: how many octets, that what is read is what stands there, and that what is laid is read.
-- Assumes nothing.
use Rattle.std.specs.Prelude.{Some, None, Option}
use mathlib.Core.Bool.{Bool, true, false, not, ◌||◌}
use mathlib.Core.List.{List, [], ◌∷◌, ◌++◌}
use mathlib.Core.Path.{◌≡◌, refl, sym, ap, ap₂, ◌∙◌, subst}
use Prim.Native.Nat.{ℕ, ◌+◌}
use borrow.Author.Tests.{ltb-true, ltb-false, lt-ltb, le-ltb, eqb-true, not-false}
use lib.Dec.{ltb, eqb}
use lib.ListN.{length, length-append}
use Rattle.answer.proofs.Booleans.{neither, or_go}
use Rattle.answer.specs.Checks.{pick}
use Rattle.beacon.proofs.HeldLengths.{power_length}
use Rattle.beacon.specs.Notices.{held_power}
use Rattle.channel.specs.Centres.{highest}
use Rattle.octets.proofs.JoinSplit.{join_split, split_number, all_from}
use Rattle.octets.specs.Numbers.{Octets, split, octet, octets_from, number}
use Rattle.pending.specs.declared.Switch.{Switch}
use Rattle.station.specs.Validity.{PendingFits}
use Rattle.station.specs.declared.Station.{Station}
use Rattle.station_record.proofs.Lengths.{settings_length, pending_length, state_length}
use Rattle.station_record.proofs.Sound.{Sound}
use Rattle.station_record.specs.Fits.{MomentFits, Fits}
use Rattle.station_record.specs.Held.{power_at, switch_at, pending_at, station_at, power_broken, switch_broken}
use Rattle.station_record.specs.Records.{version, head_length, settings_octets, held_pending, state_octets, head_of}
use Rattle.element.specs.declared.power_constraint.PowerConstraint.{PowerConstraint}

-- ---- how many

-- all heads have the same number of octets
pub head_length_lem : (s : Station) → length s.own ≡ 6 → length s.ap ≡ 6 → length (head_of s) ≡ head_length
head_length_lem s a b =
    length-append (settings_octets s.own s.ap s.interval s.clock s.channel) (state_octets s.power s.pending s.until s.count)
    ∙ ap₂ (λ (m n : ℕ). m + n) (settings_length s.own s.ap s.interval s.clock s.channel a b) (state_length s.power s.pending s.until s.count)

-- ---- a Power Constraint by its flag `f` and its octet `d`

module _ (f d : ℕ) where
  -- one that is not broken has these as its octets
  power_lies : (none : Bool) → eqb f 0 ≡ none → pick none (not (eqb d 0)) (not (eqb f 1)) ≡ false
      → held_power (pick none None (Some (record { decibels = d }))) ≡ f ∷ d ∷ []
  power_lies true e h = ap₂ (λ (x y : ℕ). x ∷ y ∷ []) (sym (eqb-true f 0 e)) (sym (eqb-true d 0 (not-false (eqb d 0) h)))
  power_lies false e h = ap (λ (x : ℕ). x ∷ d ∷ []) (sym (eqb-true f 1 (not-false (eqb f 1) h)))

-- ---- a pending switch by its flag

-- `switch_broken`, by the test of the flag
abbrev switch_by : Bool → Switch → ℕ → ℕ → Bool
switch_by none x flag clock =
    pick none (not (eqb x.at 0) || (not (eqb x.mode 0) || not (eqb x.channel 0)))
    (not (eqb flag 1) || (not (ltb clock x.at) || (ltb 1 x.mode || ltb highest x.channel)))

module _ (x : Switch) (flag clock : ℕ) where
  -- one that is not broken has these octets
  pending_lies : (none : Bool) → eqb flag 0 ≡ none → switch_by none x flag clock ≡ false
      → held_pending (pick none None (Some x)) ≡ (flag ∷ x.mode ∷ x.channel ∷ []) ++ split 8 x.at
  pending_lies true e h =
      let a = neither (not (eqb x.at 0)) _ h in
      let b = neither (not (eqb x.mode 0)) _ a.1 in
      let at_zero = eqb-true x.at 0 (not-false (eqb x.at 0) a.0) in
      let mode-zero = eqb-true x.mode 0 (not-false (eqb x.mode 0) b.0) in
      let channel-zero = eqb-true x.channel 0 (not-false (eqb x.channel 0) b.1) in
      sym (ap₂ (λ (t n : ℕ). (n ∷ x.mode ∷ x.channel ∷ []) ++ split 8 t) at_zero (eqb-true flag 0 e)
      ∙ ap₂ (λ (m c : ℕ). (0 ∷ m ∷ c ∷ []) ++ split 8 0) mode-zero channel-zero)
  pending_lies false e h =
      let a = neither (not (eqb flag 1)) _ h in
      ap (λ (n : ℕ). (n ∷ x.mode ∷ x.channel ∷ []) ++ split 8 x.at) (sym (eqb-true flag 1 (not-false (eqb flag 1) a.0)))

  -- one that is not broken may be pending at the clock
  pending_allowed : (none : Bool) → switch_by none x flag clock ≡ false → PendingFits clock (pick none None (Some x))
  pending_allowed true h = tt
  pending_allowed false h =
      let a = neither (not (eqb flag 1)) _ h in
      let b = neither (not (ltb clock x.at)) _ a.1 in
      let c = neither (ltb 1 x.mode) _ b.1 in
      (ltb-true clock x.at (not-false (ltb clock x.at) b.0), ltb-false 1 x.mode c.0, ltb-false highest x.channel c.1)

-- ---- from octets to fields and back

-- what is read as pending may be pending at the clock that is read
pub pending_at_allowed : (os : List ℕ) → Sound os → PendingFits (number 4 4 os) (pending_at os)
pending_at_allowed os s = pending_allowed (switch_at os) (octet 22 os) (number 4 4 os) (eqb (octet 22 os) 0) s.switch_sound

-- the settings that were read have the octets that stand there
settings_lie : (os : List ℕ) → Octets os → Sound os
    → settings_octets (octets_from 6 8 os) (octets_from 6 14 os) (number 2 2 os) (number 4 4 os) (octet 1 os) ≡ octets_from 20 0 os
settings_lie os o s =
    ap₂ (λ (a b : List ℕ). (version ∷ octet 1 os ∷ []) ++ a ++ b ++ octets_from 6 8 os ++ octets_from 6 14 os) (split_number 2 2 os o) (split_number 4 4 os o)
    ∙ ap (λ (v : ℕ). v ∷ octets_from 19 1 os) (sym s.known)

-- and so has the rest of the head
state_lies : (os : List ℕ) → Octets os → Sound os → state_octets (power_at os) (pending_at os) (number 8 33 os) (octet 41 os) ≡ octets_from 22 20 os
state_lies os o s =
    let count : List ℕ = octet 41 os ∷ [] in
    ap₂ (λ (a b : List ℕ). a ++ b ++ split 8 (number 8 33 os) ++ count)
    (power_lies (octet 20 os) (octet 21 os) (eqb (octet 20 os) 0) refl s.power_sound)
    (pending_lies (switch_at os) (octet 22 os) (number 4 4 os) (eqb (octet 22 os) 0) refl s.switch_sound)
    ∙ ap₂ (λ (a b : List ℕ). octets_from 5 20 os ++ a ++ b ++ count) (split_number 8 25 os o) (split_number 8 33 os o)

-- and so all of it
pub head_lies : (os : List ℕ) → Octets os → Sound os → head_of (station_at os) ≡ octets_from head_length 0 os
head_lies os o s = ap₂ (λ (a b : List ℕ). a ++ b) (settings_lie os o s) (state_lies os o s)

-- ---- from fields to octets and back

-- what octets show of a station
pub record Shows (os : List ℕ) (s : Station) : Type 0 where
  pub version_there : octet 0 os ≡ version
  pub channel_there : octet 1 os ≡ s.channel
  pub interval_there : number 2 2 os ≡ s.interval
  pub clock_there : number 4 4 os ≡ s.clock
  pub own_there : octets_from 6 8 os ≡ s.own
  pub ap_there : octets_from 6 14 os ≡ s.ap
  pub power_there : octets_from 2 20 os ≡ held_power s.power
  pub pending_there : octets_from 11 22 os ≡ held_pending s.pending
  pub until_there : number 8 33 os ≡ s.until
  pub count_there : octet 41 os ≡ s.count

-- the head of a record and what follows, with these octets for what is a list
abbrev head_by : Station → List ℕ → List ℕ → List ℕ → List ℕ → List ℕ → List ℕ
head_by s rest own ap power pending =
    ((version ∷ s.channel ∷ []) ++ split 2 s.interval ++ split 4 s.clock ++ own ++ ap)
    ++ (power ++ pending ++ split 8 s.until ++ (s.count ∷ []))
    ++ rest

module _ (s : Station) (f : Fits s) (rest : List ℕ) where
  -- each of the four lists has its octets one by one
  own_all : octets_from 6 0 s.own ≡ s.own
  own_all = all_from 6 s.own f.own_six

  ap_all : octets_from 6 0 s.ap ≡ s.ap
  ap_all = all_from 6 s.ap f.ap_six

  power_all : octets_from 2 0 (held_power s.power) ≡ held_power s.power
  power_all = all_from 2 (held_power s.power) (power_length s.power)

  pending_all : octets_from 11 0 (held_pending s.pending) ≡ held_pending s.pending
  pending_all = all_from 11 (held_pending s.pending) (pending_length s.pending)

  -- the head with its octets one by one
  abbrev spread : List ℕ
  spread = head_by s rest (octets_from 6 0 s.own) (octets_from 6 0 s.ap) (octets_from 2 0 (held_power s.power)) (octets_from 11 0 (held_pending s.pending))

  -- so each field stands at its place
  spread_shows : Shows spread s
  spread_shows =
      record {
        version_there = refl;
        channel_there = refl;
        interval_there = join_split 2 s.interval f.interval_fits;
        clock_there = join_split 4 s.clock f.clock_fits;
        own_there = own_all;
        ap_there = ap_all;
        power_there = power_all;
        pending_there = pending_all;
        until_there = join_split 8 s.until f.until_fits;
        count_there = refl;
      }

  -- a record that was laid shows its station
  pub head_shows : Shows (head_of s ++ rest) s
  head_shows =
      subst (λ (os : List ℕ). Shows os s)
      (ap₂ (λ (a b : List ℕ). head_by s rest a b (octets_from 2 0 (held_power s.power)) (octets_from 11 0 (held_pending s.pending))) own_all ap_all
      ∙ ap₂ (λ (a b : List ℕ). head_by s rest s.own s.ap a b) power_all pending_all)
      spread_shows

-- a Power Constraint by its octets
abbrev power_in : List ℕ → Option PowerConstraint
power_in l = pick (eqb (octet 0 l) 0) None (Some (record { decibels = octet 1 l }))

abbrev power_broken_in : List ℕ → Bool
power_broken_in l = pick (eqb (octet 0 l) 0) (not (eqb (octet 1 l) 0)) (not (eqb (octet 0 l) 1))

-- a constraint that was laid is read again
power_back : (p : Option PowerConstraint) → power_in (held_power p) ≡ p
power_back None = refl
power_back (Some p) = refl

-- and is not broken
power_unbroken : (p : Option PowerConstraint) → power_broken_in (held_power p) ≡ false
power_unbroken None = refl
power_unbroken (Some p) = refl

-- a pending switch by its octets
abbrev switch_in : List ℕ → Switch
switch_in l = record { at = number 8 3 l; mode = octet 1 l; channel = octet 2 l }

abbrev pending_in : List ℕ → Option Switch
pending_in l = pick (eqb (octet 0 l) 0) None (Some (switch_in l))

-- a switch that was laid is read again
moment_back : (x : Switch) → MomentFits (Some x) → switch_in (held_pending (Some x)) ≡ x
moment_back x f = ap (λ (t : ℕ). let y : Switch = record { at = t; mode = x.mode; channel = x.channel } in y) (join_split 8 x.at f)

-- and so is none
pending_back : (p : Option Switch) → MomentFits p → pending_in (held_pending p) ≡ p
pending_back None f = refl
pending_back (Some x) f = ap Some (moment_back x f)

-- what may be pending is not broken
pending_unbroken : (p : Option Switch) (clock : ℕ) → MomentFits p → PendingFits clock p
    → switch_broken (switch_in (held_pending p)) (octet 0 (held_pending p)) clock ≡ false
pending_unbroken None clock f a = refl
pending_unbroken (Some x) clock f a =
    ap (λ (y : Switch). switch_broken y 1 clock) (moment_back x f)
    ∙ or_go (not (ltb clock x.at)) (ap not (lt-ltb clock x.at a.0))
    ∙ or_go (ltb 1 x.mode) (le-ltb 1 x.mode a.1)
    ∙ le-ltb highest x.channel a.2

-- ---- what octets say that show a station

module _ {os : List ℕ} {s : Station} (w : Shows os s) where
  -- its Power Constraint, if any
  pub power_told_lem : power_at os ≡ s.power
  power_told_lem = ap power_in w.power_there ∙ power_back s.power

  -- and that it is not broken
  pub power_fine : power_broken os ≡ false
  power_fine = ap power_broken_in w.power_there ∙ power_unbroken s.power

  -- its pending switch, if any
  pub pending_told : MomentFits s.pending → pending_at os ≡ s.pending
  pending_told f = ap pending_in w.pending_there ∙ pending_back s.pending f

  -- and that it is not broken
  pub switch_fine : MomentFits s.pending → PendingFits s.clock s.pending
      → switch_broken (switch_at os) (octet 22 os) (number 4 4 os) ≡ false
  switch_fine f a =
      ap₂ (λ (l : List ℕ) (t : ℕ). switch_broken (switch_in l) (octet 0 l) t) w.pending_there w.clock_there
      ∙ pending_unbroken s.pending s.clock f a
