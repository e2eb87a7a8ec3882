-- The closure is called at times within the duration alone, and answers `fraction_of` at each.
use Rattle.std.proofs.Common.{arith, ap, length, rules, tests}
use Rattle.std.specs.Array.{list_steps}
use Rattle.std.proofs.lemmas.Grind.{common_steps}
use Rattle.std.proofs.lemmas.Iterator.Consumers.{YieldsList-from_shown}
use Rattle.std.proofs.lemmas.Iterator.Adapters.{serves_from_places}
use Rattle.fraction.specs.Fractions.{fraction_of}
use Rattle.fraction.proofs.Mapped.{map_of}
use Rattle.fraction.proofs.shares.Goals as goal

pub map-requires : goal.map-requires
map-requires c = (
  omega arith,
  (
    omega arith,
    (
      omega arith,
      serves_from_places (YieldsList-from_shown list_steps (λ x. x) (λ s. s) (λ s t e. ap length e) (λ s x t e. e) c.args.times)
          (λ x q r. search (rules, tests)) (λ x k lt e κs p n z r f u. grind (arith, common_steps)),
    ),
  ),
)

pub returns : goal.returns
returns c =
    map_of _ (fraction_of c.args.duration) c.args.times c.map.result _ (λ x r q k. search (rules, tests)) 8 (search rules) c.map.ensures.items
