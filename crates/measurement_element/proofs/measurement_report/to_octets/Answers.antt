-- `measurement_report::to_octets` meets its contract: the octets lie in front.
use Rattle.std.proofs.Common.{length, refl, rules, ◌≡◌}
use Rattle.measurement_element.proofs.ReportLayout.{laid_out, built_of}
use Rattle.measurement_element.proofs.measurement_report.to_octets.Goals as goal

pub returns : goal.returns
returns c =
    let r = c.args.report in
    let eight : length r.densities ≡ 8 = search rules in (
      refl,
      rw (c.last_of.ensures, c.to_octets-s.ensures, c.span_of.ensures, c.mode_of.ensures, c.size_of.ensures)
          (laid_out r.token r.kind r.densities eight r.matter),
      built_of r.token r.kind r.matter r.densities c.size_of.ensures
          c.mode_of.ensures c.span_of.ensures c.to_octets-s.ensures c.last_of.ensures,
    )
