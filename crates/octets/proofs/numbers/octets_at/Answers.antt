-- What stands at the place is whole, or padded with zeros.
use Rattle.octets.proofs.Padding.{nothing_there, whole, padded}
use Rattle.octets.proofs.numbers.octets_at.Goals as goal
use native.Mathlib.Omega.{arith}

pub returns-then-octets-at : goal.returns-then-octets-at
returns-then-octets-at g c = nothing_there _ _ _ c.if-octets-at.true

pub returns-in-Some : goal.returns-in-Some
returns-in-Some g c =
    let first = c.in-Some.ensures.cases in
    whole _ _ (omega (arith, c.if-octets-at.false)) _ first.enough first.same

pub returns-in-None : goal.returns-in-None
returns-in-None g c =
    padded _ _ (omega (arith, c.if-octets-at.false)) _ c.in-None.ensures.cases c.copy_from_slice.ensures.after
