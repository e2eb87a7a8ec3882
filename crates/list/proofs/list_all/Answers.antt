-- Turn after turn the lister is one that some file leaves.
use Rattle.std.proofs.Common.{◌%◌, ℕ, ap, ◌∙◌}
use Rattle.std.specs.Prelude.{Ok}
use Rattle.std.proofs.Common.{subst}
use Rattle.list.specs.Program.{TurnFits}
use Rattle.block.specs.Blocks.{block_size}
use Rattle.list.proofs.Pieces.{none_listed, last_turn, one_turn}
use Rattle.list.proofs.list_all.Goals as goal

pub turns-init : goal.turns-init
turns-init g c = record {
  reached = none_listed c.fresh-lister.ensures.value;
  fits = c.fresh-lister.ensures.fits;
  whole = c.requires;
}

pub returns-in-Last : goal.returns-in-Last
returns-in-Last g c = last_turn c.turns.invariant.reached c.in_ok-next.ensures.turned (ap Ok c.in-Last.is)

pub turns-preserved : goal.turns-preserved
turns-preserved g c =
    let i = c.turns.invariant in
    let whole = ap (λ (n : ℕ). n % block_size) c.turn.ensures.len ∙ i.whole in
    record {
      reached = one_turn i.reached c.in_ok-next.ensures.turned (ap Ok c.in-More.is) whole;
      fits = subst TurnFits (ap Ok c.in-More.is) c.in_ok-next.ensures.fits;
      whole = whole;
    }
