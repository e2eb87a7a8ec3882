-- `list` meets its contract: the first pass sees whether the list fits, and the second stores it.
use Rattle.std.proofs.Common.{Err, List, rules, subst, sym, true, ℕ, ◌≡◌}
use Rattle.answer.specs.Checks.{Outcome}
use Rattle.octets.specs.Writing.{Written}
use Rattle.capture.specs.Lists.{list_of}
use Rattle.boundary.proofs.Passes.{seen_short, seen_to_fit}
use Rattle.boundary.proofs.whole.list.Goals as goal

pub returns-in_err-pass : goal.returns-in_err-pass
returns-in_err-pass c =
    let a = c.args in
    let up : c.from_residual.result ≡ Err c.in_err-pass.field-0.0 = search rules in
    subst (λ (o : Outcome ℕ). Written true (list_of a.file.now) 0 a.out.now o c.pass.new.out) (sym up) (seen_short (list_of a.file.now) c.in_err-pass.ensures)

pub pass-requires-2 : goal.pass-requires-2
pass-requires-2 c = λ _. (seen_to_fit (list_of c.args.file.now) c.in_ok-pass.ensures).1

pub returns : goal.returns
returns c =
    let a = c.args in
    let w = c.pass-2.ensures in
    let stored : Written true (list_of a.file.now) 0 c.pass.new.out c.pass-2.result c.pass-2.new.out = record { answers = w.answers; leaves = w.leaves } in
    subst (λ (os : List ℕ). Written true (list_of a.file.now) 0 os c.pass-2.result c.pass-2.new.out) (seen_to_fit (list_of a.file.now) c.in_ok-pass.ensures).0 stored
