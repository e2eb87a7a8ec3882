-- What an advance of the station makes of a station of an IBSS: the TBTTs that pass are those among the units that the clock goes on by. Assumes nothing.
use Rattle.std.specs.Prelude.{Ok, Err, Some, None, Option}
use mathlib.Core.Bool.{Bool, true, false}
use mathlib.Core.List.{[]}
use mathlib.Core.Path.{◌≡◌, refl, sym, ap, ◌∙◌, subst}
use Prim.Native.Nat.{ℕ, ◌+◌, ◌-◌, ◌/◌, ◌≤◌}
use native.Mathlib.Omega.{arith}
use lib.Dec.{ltb}
use Rattle.answer.proofs.Judged.{passed, kept, followed}
use Rattle.answer.specs.Checks.{Outcome, pick, and_then}
use Rattle.owner.proofs.CountingUnits.{tbtts_between}
use Rattle.owner.proofs.TbttByTbtt.{none_past}
use Rattle.owner.specs.Owners.{past_tbtts}
use Rattle.owner.specs.Tbtts.{tbtts_in}
use Rattle.owner.specs.declared.Owner.{Owner}
use Rattle.station.specs.Clock as Clock
use Rattle.station.specs.Clock.{reached, clock_advance, advanced_to, advance_means}
use Rattle.station.specs.declared.Station.{Station}
use Rattle.station.specs.declared.clock.Advanced.{Advanced}
use Rattle.station.specs.declared.clock.Stepped as ClockStepped
use Rattle.member.specs.Members.{member_of, stepped, owner_past, member_advances, advance_of}
use Rattle.member.specs.declared.Member.{Member}
use Rattle.member.specs.declared.clock.Stepped.{Stepped}
use Rattle.pending.specs.declared.Switch.{Switch}

-- ---- where the clock stands after an advance

module _ (s : Station) (n : ℕ) where
  is_station : {x y : Station} → ◌≡◌ {A = Outcome Station} (Ok x) (Ok y) → x ≡ y
  is_station e = cc

  -- whether or not a switch is met on the way
  clock_reached : (p : Option Switch) → (advanced_to s (reached (s.clock + n) p)).clock ≡ s.clock + n
  clock_reached None = refl
  clock_reached (Some q) = by (ltb (s.clock + n) q.at)
    where
      by : (early : Bool) → (advanced_to s (pick early (Advanced.Goes (s.clock + n)) (Advanced.Switches (s.clock + n) q.channel))).clock ≡ s.clock + n
      by true = refl
      by false = refl

  clock_advanced : (next : Station) → advance_means s n ≡ Ok next → next.clock ≡ s.clock + n
  unfolding advance_means clock_advance
  clock_advanced next e =
      let w = followed (clock_advance s.clock s.pending n) _ next e in
      let goes : reached (s.clock + n) s.pending ≡ w.0 = kept _ (passed _ [] _ w.1).1 in
      ap (λ (x : Station). x.clock) (sym (is_station w.2)) ∙ ap (λ (a : Advanced). (advanced_to s a).clock) (sym goes) ∙ clock_reached s.pending

-- ---- an advance of the station, and what it makes of the owner

module _ (m : Member) (n : ℕ) (pos : 1 ≤ m.station.interval) where
  abbrev s : Station
  s = m.station

  abbrev b : ℕ
  b = m.station.interval

  no_less : (o : Outcome Station) → advance_means s n ≡ o → s.clock ≤ (Clock.stepped s o).station.clock
  no_less (Err r) e = omega arith
  no_less (Ok next) e = omega (arith, clock_advanced s n next e)

  pub clock_on : (x : ClockStepped.Stepped) → x ≡ Clock.advance_of s n → s.clock ≤ x.station.clock
  clock_on x e = subst (λ (y : ClockStepped.Stepped). s.clock ≤ y.station.clock) (sym e) (no_less (advance_means s n) refl)

  abbrev stepped_by : ClockStepped.Stepped → Stepped
  stepped_by x = record { answer = x.answer; member = member_of x.station (past_tbtts (x.station.clock / b - s.clock / b) m.owner) }

  by_outcome : (o : Outcome Station) → advance_means s n ≡ o
      → stepped_by (Clock.stepped s o) ≡ stepped m (and_then o (λ next. Ok (member_of next (owner_past m n))))
  by_outcome (Err r) e =
      ap (λ (o : Option Owner). record { answer = Err r; member = member_of s o })
      (ap (λ (k : ℕ). past_tbtts k m.owner) (let z : s.clock / b - s.clock / b ≡ 0 = omega arith in z) ∙ none_past m.owner)
  by_outcome (Ok next) e =
      ap (λ (k : ℕ). record { answer = Ok tt; member = member_of next (past_tbtts k m.owner) })
      (tbtts_between b pos s.clock next.clock (omega (arith, clock_advanced s n next e))
      ∙ ap (tbtts_in b s.clock) (let z : next.clock - s.clock ≡ n = omega (arith, clock_advanced s n next e) in z))

  advanced_as : stepped_by (Clock.advance_of s n) ≡ advance_of m n
  unfolding member_advances
  advanced_as = by_outcome (advance_means s n) refl

  -- by how many TBTTs pass, and what that makes of the owner
  pub advanced_by_lem : (x : ClockStepped.Stepped) (k : ℕ) (o : Option Owner) → x ≡ Clock.advance_of s n → k ≡ x.station.clock / b - s.clock / b → o ≡ past_tbtts k m.owner
      → record { answer = x.answer; member = member_of x.station o } ≡ advance_of m n
  advanced_by_lem x k o e count past =
      ap (λ (y : Option Owner). record { answer = x.answer; member = member_of x.station y }) (past ∙ ap (λ (i : ℕ). past_tbtts i m.owner) count)
      ∙ ap stepped_by e ∙ advanced_as
