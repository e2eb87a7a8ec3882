-- `of_report` meets its contract: three parts, one after the other.
use Rattle.std.proofs.Common.{[], ap, arith, length, refl, replicate, rules, ◌∙◌, ◌∷◌, ◌≡◌}
use Rattle.measurement_element.specs.Span.{span_octets}
use Rattle.boundary.specs.ElementFields.{report_fields}
use Rattle.boundary.specs.declared.element_fields.Said.{Said}
use Rattle.boundary.proofs.FieldByField.{first_field, next_field, all_fields}
use Rattle.boundary.proofs.element_fields.of_report.Goals as goal

pub returns : goal.returns
unfolding report_fields
returns c =
    let said = c.said_by-said.ensures in
    let q = c.args.report in
    let eight : length q.densities ≡ 8 = search rules in
    -- the octets in front of the span
    let front = λ (x : Said). q.token ∷ q.kind ∷ x.says ∷ x.value ∷ [] in
    let p1 = first_field 4 (replicate 23 0) (c.copy_from_slice.ensures.after ∙ ap front said) refl (omega arith) in
    let p2 = next_field p1 11 (c.copy_from_slice-2.ensures.after ∙ c.to_octets.ensures ∙ ap (λ (x : Said). span_octets x.span) said) refl (omega arith) in
    let p3 = next_field p2 8 c.copy_from_slice-3.ensures.after eight (omega arith) in
    all_fields p3 refl
