-- `Apart::changed` meets its contract: its Quiet elements have replaced the schedules, or it has none to replace them.
use Rattle.std.proofs.Common.{Bool, ap, sym, take, ◌∙◌}
use Rattle.station.specs.CodeTerms.Changing.{replaced_if, changed}
use Rattle.station.specs.Taking.{constrained, announced_if}
use Rattle.station.specs.declared.Station.{Station}
use Rattle.apart.specs.Apart.{whole_of}
use Rattle.apart.proofs.Apart.changed.Goals as goal

pub returns-then-change-clause-station : goal.returns-then-change-clause-station
unfolding changed
returns-then-change-clause-station c =
    let h = c.args.hearing in
    let s = whole_of c.args.self c.args.columns.now in
    c.told.ensures _
    ∙ ap (λ (next : Station). announced_if (constrained next h.change.power) h.change.switch)
    (c.replaced-replaced.ensures.station ∙ sym (ap (λ (t : Bool). replaced_if t s (take h.count h.quiets)) c.if-change.true))

pub returns-clause-station : goal.returns-clause-station
unfolding changed
returns-clause-station c =
    let h = c.args.hearing in
    let s = whole_of c.args.self c.args.columns.now in
    c.told-2.ensures _
    ∙ sym (ap (λ (t : Bool). announced_if (constrained (replaced_if t s (take h.count h.quiets)) h.change.power) h.change.switch) c.if-change.false)
