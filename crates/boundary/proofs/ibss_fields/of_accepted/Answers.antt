-- `of_accepted` meets its contract: three parts, one after the other.
use Rattle.std.proofs.Common.{List, ap, arith, drop, length, refl, replicate, rules, sym, ℕ, ◌++◌, ◌∙◌, ◌≡◌}
use borrow.Rule.Slice.PartMut.{put_mid}
use Rattle.boundary.proofs.FieldByField.{first_field, next_field, all_fields}
use Rattle.boundary.proofs.ibss_fields.of_accepted.Goals as goal

-- the array with its first two parts
still_sixty : (front sender : List ℕ) → length front ≡ 38 → length sender ≡ 6 → length (put_mid 38 6 (front ++ drop 38 (replicate 60 0)) sender) ≡ 60
still_sixty front sender e six = (next_field (first_field 38 (replicate 60 0) refl e (omega arith)) 6 refl six (omega arith)).total

pub slice_bounds-fields-end-3 : goal.slice_bounds-fields-end-3
slice_bounds-fields-end-3 c =
    let front : length c.copy_from_slice.new.self ≡ 38 = search rules in
    let six : length c.copy_from_slice-2.new.self ≡ 6 = search rules in
    omega (arith, still_sixty c.copy_from_slice.new.self c.copy_from_slice-2.new.self front six)

pub returns : goal.returns
returns c =
    let six : length c.args.sender ≡ 6 = search rules in
    let long : length c.of_received.result ≡ 38 = search rules in
    let sixteen : length c.held_dfs.result ≡ 16 = search rules in
    let p1 = first_field 38 (replicate 60 0) (c.copy_from_slice.ensures.after ∙ c.of_received.ensures) (sym (ap length c.of_received.ensures) ∙ long) (omega arith) in
    let p2 = next_field p1 6 c.copy_from_slice-2.ensures.after six (omega arith) in
    let p3 = next_field p2 16 (c.copy_from_slice-3.ensures.after ∙ c.held_dfs.ensures) (sym (ap length c.held_dfs.ensures) ∙ sixteen) (omega arith) in
    all_fields p3 refl
