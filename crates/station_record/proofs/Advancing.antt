-- What an advance of a record comes to, by what its clock and its pending switch decide. Assumes nothing.
use Rattle.std.specs.Prelude.{Ok, Err}
use mathlib.Core.Bool.{true, false}
use mathlib.Core.List.{List}
use mathlib.Core.Path.{◌≡◌, sym, ap, ◌∙◌}
use Prim.Native.Nat.{ℕ, ◌≤◌}
use native.Mathlib.Omega.{arith}
use lib.ListN.{length}
use Rattle.answer.specs.Checks.{Outcome, and_then}
use Rattle.answer.specs.declared.Refusal.{Refusal}
use Rattle.octets.proofs.Storing.{over_length}
use Rattle.octets.specs.Numbers.{number, split}
use Rattle.octets.specs.Writing.{over}
use Rattle.station.specs.Clock.{clock_advance, advanced_to, switched, advance_means}
use Rattle.station.specs.Stations.{with_clock}
use Rattle.station.specs.declared.Station.{Station}
use Rattle.station.specs.declared.clock.Advanced.{Advanced}
use Rattle.station_record.proofs.Holding.{held_none, held_some}
use Rattle.station_record.proofs.Sound.{sound}
use Rattle.station_record.specs.Calls.{advanced_in}
use Rattle.station_record.specs.Held.{pending_at, station_at, no_record}
use Rattle.station_record.specs.Records.{size}

module _ (n : ℕ) (os : List ℕ) where
  pub not_held : no_record os ≡ true → advanced_in n os ≡ Err Refusal.Impossible
  not_held e = ap (λ (o : Outcome Station). and_then o (λ s. advance_means s n)) (held_none os e)

  module _ (held : no_record os ≡ false) where
    by_clock : {o : Outcome Advanced} → o ≡ clock_advance (number 4 4 os) (pending_at os) n → advanced_in n os ≡ and_then o (λ a. Ok (advanced_to (station_at os) a))
    unfolding advance_means
    by_clock e =
        ap (λ (o : Outcome Station). and_then o (λ s. advance_means s n)) (held_some os held)
        ∙ ap (λ (o : Outcome Advanced). and_then o (λ a. Ok (advanced_to (station_at os) a))) (sym e)

    pub refused : {o : Outcome Advanced} {r : Refusal} → o ≡ clock_advance (number 4 4 os) (pending_at os) n → o ≡ Err r → advanced_in n os ≡ Err r
    refused e f = by_clock (sym f ∙ e)

    pub goes : {m : ℕ} → Ok (Advanced.Goes m) ≡ clock_advance (number 4 4 os) (pending_at os) n → advanced_in n os ≡ Ok (with_clock (station_at os) m)
    goes e = by_clock e

    pub switches : {m channel : ℕ} → Ok (Advanced.Switches m channel) ≡ clock_advance (number 4 4 os) (pending_at os) n
        → advanced_in n os ≡ Ok (switched (with_clock (station_at os) m) channel)
    switches e = by_clock e

-- there is room for a record, also when the clock tells another moment
module _ (os : List ℕ) (held : no_record os ≡ false) where
  pub roomy : size ≤ length os
  roomy = (sound os held).roomy

  pub roomy_told : (m : ℕ) {now : List ℕ} → now ≡ over os 4 (split 4 m) → size ≤ length now
  roomy_told m e = omega (arith, roomy, ap length e, over_length os 4 (split 4 m) (omega (arith, roomy)))

pub ruleset steps = (not_held, refused, goes, switches, roomy, roomy_told)
