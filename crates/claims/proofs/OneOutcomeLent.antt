-- The calls on a station that is lent (02, Eight): whatever the promise allows of the answer and of the record at exit is what the call by value gives. Assumes nothing.
use mathlib.Core.Path.{◌≡◌, sym, ◌∙◌}
use seplogic.Ra.Ura.{Ura}
use base.Logic.{SProp, ent, via, id⊢, fst∗}
use prog.Memory.{Memory}
use prog.Routine.{Routine}
use types.Logic.{Logic}
use contract.Lifetimes.{Lfts}
use contract.Monad.{Fun, fact, fact_mono}
use denote.Triple.Clauses.{AtExit}
use denote.Triple.Entry.{Args, Res}
use Rattle.lent.specs.contracts.advance as LentAdvance
use Rattle.lent.specs.contracts.ask as LentAsk
use Rattle.station.specs.Asking.{permission_of}
use Rattle.station.specs.Clock.{advance_of}
use Rattle.station.specs.Validity.{Valid}
use Rattle.station.specs.declared.Station.{Station}
use Rattle.station.specs.declared.asking.Permission.{Permission}
use Rattle.claims.specs.StationRuns.{Advances, Asks}
use Rattle.claims.proofs.StationMeans.{advances_means, asks_means}
use Rattle.answer.specs.Checks.{Answer}

module _ {M : Type 1} {𝓤 : Ura M} (𝓛 : Logic 𝓤) (at_mem : Memory → SProp 𝓤) (run : Routine → Fun 𝓤) (κs : Lfts 1) where
  pub lent_advance : (a : Args (LentAdvance.ended).signature κs) (r : Res (LentAdvance.ended).signature κs) (e : AtExit LentAdvance.ended κs)
      → ent 𝓤 ((LentAdvance.clauses 𝓛 at_mem run κs a).ensures tt r e)
      (fact 𝓤 ((r ≡ (advance_of a.0.now a.1.0).answer) × (e.0.now ≡ (advance_of a.0.now a.1.0).station)))
  lent_advance a r e =
      fst∗ 𝓤 (fact 𝓤 ((r ≡ (advance_of a.0.now a.1.0).answer) × (e.0.now ≡ (advance_of a.0.now a.1.0).station))) (fact 𝓤 (Valid e.0.now))

  pub lent_ask : (a : Args (LentAsk.ended).signature κs) (r : Res (LentAsk.ended).signature κs) (e : AtExit LentAsk.ended κs)
      → ent 𝓤 ((LentAsk.clauses 𝓛 at_mem run κs a).ensures tt r e) (fact 𝓤 ((r ≡ permission_of a.0.now a.1.0) × (e.0.now ≡ a.0.now)))
  lent_ask a r e = id⊢ 𝓤 _

  -- "both give the same station and answer": beside any call by value on the same record
  pub advance_either_way : (a : Args (LentAdvance.ended).signature κs) (r : Res (LentAdvance.ended).signature κs) (e : AtExit LentAdvance.ended κs) (answer : Answer) (next : Station)
      → Advances a.0.now a.1.0 answer next → ent 𝓤 ((LentAdvance.clauses 𝓛 at_mem run κs a).ensures tt r e) (fact 𝓤 ((r ≡ answer) × (e.0.now ≡ next)))
  advance_either_way a r e answer next step =
      let m = advances_means step in
      via 𝓤 _ (lent_advance a r e) (fact_mono 𝓤 _ _ (λ w. (w.0 ∙ sym m.0, w.1 ∙ sym m.1)))

  pub ask_either_way : (a : Args (LentAsk.ended).signature κs) (r : Res (LentAsk.ended).signature κs) (e : AtExit LentAsk.ended κs) (p : Permission)
      → Asks a.0.now a.1.0 p → ent 𝓤 ((LentAsk.clauses 𝓛 at_mem run κs a).ensures tt r e) (fact 𝓤 ((r ≡ p) × (e.0.now ≡ a.0.now)))
  ask_either_way a r e p question = via 𝓤 _ (lent_ask a r e) (fact_mono 𝓤 _ _ (λ w. (w.0 ∙ sym (asks_means question), w.1)))
