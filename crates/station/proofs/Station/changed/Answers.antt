-- `Station::changed` meets its contract: it goes the one way of every frame.
-- Assumes nothing.
use Rattle.std.proofs.Common.{Bool, ap, length, rules, ◌∙◌, ◌≡◌}
use Rattle.beacon.specs.Beacons.{quiet_limit}
use Rattle.station.specs.CodeTerms.Changing.{changed, extent_of, with_rest}
use Rattle.station.specs.Rests.{rest_constrained, rest_announced}
use Rattle.station.specs.declared.changing.Rest.{Rest}
use Rattle.station.proofs.OneWay.{extent_fits, put_together, one_way}
use Rattle.station.proofs.Station.changed.Goals as goal

pub replace-next-requires : goal.replace-next-requires
replace-next-requires c =
    let a = c.args in
    let v = c.requires in
    let fits = extent_fits c.is_at_once.result a.change.replaces a.self.count c.at_most_all.result v.few c.at_most_all.ensures.0 in
    (v.interval_positive, rw c.extent_of-extent.ensures fits.0, rw c.extent_of-extent.ensures fits.1)

pub returns : goal.returns
returns c =
    let a = c.args in
    let eight : length a.quiets ≡ quiet_limit = search (rules, c.well_formed.1.1.0) in
    let rest = c.announced-rest.ensures
    ∙ ap (λ (y : Rest). rest_announced y a.change.switch)
    (c.constrained.ensures ∙ ap (λ (y : Rest). rest_constrained y a.change.power) c.rest.ensures) in
    c.with.ensures
    ∙ ap (λ (y : Rest). with_rest a.self y c.replace-next.result.schedules c.extent_of-extent.result.used) rest
    ∙ put_together a.self a.quiets a.change
    (c.extent_of-extent.ensures ∙ ap (λ (n : Bool). extent_of n a.change.replaces a.self.count c.at_most_all.result) c.is_at_once.ensures)
    c.replace-next.ensures.schedules_value c.replace-next.ensures.until_value
    ∙ one_way a.self c.requires a.quiets c.at_most_all.result c.at_most_all.ensures.0 eight a.change
    ∙ ap (changed a.self a.change) (c.at_most_all.ensures.1 a.quiets eight)
