-- `measurement_report::octet_count` meets its contract: the ID, the length and the contents.
use Rattle.std.proofs.Common.{ap, arith, length, rules, sym, ℕ, ◌+◌, ◌∙◌, ◌≡◌}
use Rattle.measurement_element.proofs.ReportLayout.{counted, within}
use Rattle.measurement_element.proofs.measurement_report.octet_count.Goals as goal

pub returns : goal.returns
returns c =
    let r = c.args.report in
    let eight : length r.densities ≡ 8 = search rules in
    (ap (λ (n : ℕ). 2 + n) c.size_of.ensures ∙ sym (counted r.token r.kind r.densities eight r.matter), omega (arith, c.size_of.ensures, (within r.matter).1))
