-- `measurement_request::octet_count` meets its contract: the ID, the length and the contents.
use Rattle.std.proofs.Common.{ap, arith, sym, ℕ, ◌+◌, ◌∙◌}
use Rattle.measurement_element.proofs.RequestLayout.{counted, within}
use Rattle.measurement_element.proofs.measurement_request.octet_count.Goals as goal

pub returns : goal.returns
returns c =
    let r = c.args.request in
    (ap (λ (n : ℕ). 2 + n) c.size_of.ensures ∙ sym (counted r.matter r.token r.kind), omega (arith, c.size_of.ensures, within r.matter))
