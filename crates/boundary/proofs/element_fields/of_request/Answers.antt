-- `of_request` meets its contract: two parts, one after the other.
use Rattle.std.proofs.Common.{[], ap, arith, refl, replicate, ◌∙◌, ◌∷◌}
use Rattle.measurement_element.specs.Span.{span_octets}
use Rattle.boundary.specs.ElementFields.{request_fields}
use Rattle.boundary.specs.declared.element_fields.Asked.{Asked}
use Rattle.boundary.proofs.FieldByField.{first_field, next_field, all_fields}
use Rattle.boundary.proofs.element_fields.of_request.Goals as goal

pub returns : goal.returns
unfolding request_fields
returns c =
    let asked = c.asked_by-asked.ensures in
    let q = c.args.request in
    -- the octets in front of the span
    let front = λ (x : Asked). q.token ∷ q.kind ∷ x.asks ∷ x.request ∷ x.report ∷ [] in
    let p1 = first_field 5 (replicate 16 0) (c.copy_from_slice.ensures.after ∙ ap front asked) refl (omega arith) in
    let p2 = next_field p1 11 (c.copy_from_slice-2.ensures.after ∙ c.to_octets.ensures ∙ ap (λ (x : Asked). span_octets x.span) asked) refl (omega arith) in
    all_fields p2 refl
