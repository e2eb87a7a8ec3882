-- `Apart::told` meets its contract.
use Rattle.std.proofs.Common.{ap, ap₂, ℕ, ◌∙◌}
use Rattle.station.specs.Rests.{rest_announced}
use Rattle.station.specs.declared.changing.Rest.{Rest}
use Rattle.apart.specs.Apart.{whole_of}
use Rattle.apart.proofs.Parts.{with_parts, told_whole}
use Rattle.apart.proofs.Apart.told.Goals as goal

pub returns : goal.returns
returns c =
    let a = c.args in
    let rest = c.announced.ensures ∙ ap (λ (y : Rest). rest_announced y a.switch) c.constrained.ensures in
    λ columns. ap₂ (λ (r : Rest) (m : ℕ). whole_of (with_parts a.self r m) columns) rest c.left_after.ensures
    ∙ told_whole a.self columns a.power a.switch
