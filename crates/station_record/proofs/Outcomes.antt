-- How a start into octets comes out, by what the start means and by the room. Assumes nothing.
use Rattle.std.specs.Prelude.{Ok, Err}
use mathlib.Core.List.{List, [], ◌∷◌}
use mathlib.Core.Path.{◌≡◌, sym, ap, ◌∙◌}
use Prim.Native.Nat.{ℕ, ◌<◌, ◌≤◌}
use borrow.Author.Tests.{lt-ltb, le-ltb}
use lib.Dec.{ltb}
use lib.ListN.{length}
use Rattle.answer.proofs.Judged.{past, stop, done}
use Rattle.answer.specs.Checks.{Outcome, ◌⇒◌, judged, and_then}
use Rattle.answer.specs.declared.Refusal.{Refusal}
use Rattle.station.specs.Starting.{start_means}
use Rattle.station.specs.declared.Station.{Station}
use Rattle.station_record.specs.Calls.{started_in}
use Rattle.station_record.specs.Records.{size}

module _ (own ap' : List ℕ) (b channel : ℕ) (os : List ℕ) where
  pub start_refused : (r : Refusal) → start_means own ap' b channel ≡ Err r → started_in own ap' b channel os ≡ Err r
  unfolding started_in
  start_refused r e = ap (λ (o : Outcome Station). and_then o (λ s. judged (ltb (length os) size ⇒ Refusal.BufferShort ∷ []) s)) e

  pub no_room : (s : Station) → start_means own ap' b channel ≡ Ok s → length os < size → started_in own ap' b channel os ≡ Err Refusal.BufferShort
  unfolding started_in
  no_room s e short = ap (λ (o : Outcome Station). and_then o (λ x. judged (ltb (length os) size ⇒ Refusal.BufferShort ∷ []) x)) e ∙ sym (stop _ _ _ (lt-ltb (length os) size short))

  pub has_room : (s : Station) → start_means own ap' b channel ≡ Ok s → size ≤ length os → started_in own ap' b channel os ≡ Ok s
  unfolding started_in
  has_room s e room =
      ap (λ (o : Outcome Station). and_then o (λ x. judged (ltb (length os) size ⇒ Refusal.BufferShort ∷ []) x)) e
      ∙ sym (past _ _ _ (le-ltb (length os) size room) (done _))
