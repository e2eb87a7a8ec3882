-- `total` meets its contract: eight times below 2 ^ 32 fit together, and `sum_of` adds as `sum` does.
use Rattle.std.proofs.Common.{arith, length, refl, rules, tests, ◌∙◌, sym, ◌≡◌}
use Rattle.std.proofs.lemmas.Iterator.{YieldsList-from_slice, YieldsList-from_map}
use Rattle.std.proofs.lemmas.Iterator.Adapters.{fits_from_length, at_most_from_yields_List}
use Rattle.std.proofs.lemmas.Iterator.Consumers.{sum_by_from_yields_List}
use Rattle.std.proofs.lemmas.List.Recursion.{is_sum_by}
use Rattle.octets.specs.Sums.{sum_of}
use Rattle.fraction.proofs.total.Goals as goal

pub sum-requires-clause-fits : goal.sum-requires-clause-fits
sum-requires-clause-fits c =
    let eight : length c.args.times ≡ 8 = search rules in
    fits_from_length _ _ 8 _ (at_most_from_yields_List (YieldsList-from_slice c.args.times cc) (omega (arith, eight)))
    c.map.ensures.closure (omega arith) (λ x r q k. search (rules, tests))

pub returns : goal.returns
returns c =
    sum_by_from_yields_List (λ x. x) c.args.times c.map.result c.sum.result c.sum.ensures.ran (YieldsList-from_map _ (λ x. x) (YieldsList-from_slice c.args.times cc) c.map.ensures.closure (λ x r q k. search (rules, tests)))
    ∙ sym (is_sum_by sum_of (λ x. x) refl (λ _ _. refl) c.args.times)
