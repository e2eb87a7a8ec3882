-- `of_received` meets its contract: eight parts, one after the other.
use Rattle.std.proofs.Common.{[], ap, ap₂, arith, refl, replicate, ℕ, ◌∙◌, ◌∷◌}
use Rattle.beacon.proofs.HeldLengths.{power_length}
use Rattle.beacon.specs.Notices.{held_power}
use Rattle.octets.specs.Numbers.{split}
use Rattle.boundary.specs.FrameFields.{fields_of, held_report, held_switch, field_octets}
use Rattle.boundary.specs.declared.frame_fields.Fields.{Fields}
use Rattle.boundary.proofs.FieldByField.{first_field, next_field, all_fields}
use Rattle.boundary.proofs.FieldLengths.{report_length, switch_length}
use Rattle.boundary.proofs.frame_fields.of_received.Goals as goal

pub returns : goal.returns
unfolding field_octets
returns c =
    let same = c.of_frame-common.ensures in
    let n = (fields_of c.args.received.frame).notice in
    let front = ap₂ (λ (f : Fields) (o : ℕ). f.kind ∷ o ∷ f.token ∷ []) same c.flag.ensures in
    let p1 = first_field 3 (replicate 38 0) (c.copy_from_slice.ensures.after ∙ front) refl (omega arith) in
    let p2 = next_field p1 8 (c.copy_from_slice-2.ensures.after ∙ c.octets64.ensures ∙ ap (λ (f : Fields). split 8 f.elements) same) refl (omega arith) in
    let p3 = next_field p2 8 (c.copy_from_slice-3.ensures.after ∙ c.octets64-2.ensures) refl (omega arith) in
    let p4 = next_field p3 8 (c.copy_from_slice-4.ensures.after ∙ c.octets64-3.ensures ∙ ap (λ (f : Fields). split 8 f.notice.timestamp) same) refl (omega arith) in
    let p5 = next_field p4 2 (c.copy_from_slice-5.ensures.after ∙ c.octets16.ensures ∙ ap (λ (f : Fields). split 2 f.notice.capability) same) refl (omega arith) in
    let p6 = next_field p5 2 (c.copy_from_slice-6.ensures.after ∙ c.held_power.ensures ∙ ap (λ (f : Fields). held_power f.notice.power) same) (power_length n.power) (omega arith) in
    let p7 = next_field p6 3 (c.copy_from_slice-7.ensures.after ∙ c.held_report.ensures ∙ ap (λ (f : Fields). held_report f.notice.report) same) (report_length n.report) (omega arith) in
    let p8 = next_field p7 4 (c.copy_from_slice-8.ensures.after ∙ c.held_switch.ensures ∙ ap (λ (f : Fields). held_switch f.notice.switch) same) (switch_length n.switch) (omega arith) in
    all_fields p8 refl
