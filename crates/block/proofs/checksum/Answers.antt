-- The fold adds modulo 65,536.
use Rattle.std.proofs.Common.{arith, rules, tests, ◌+◌, ◌%◌, ◌∙◌}
use Rattle.std.proofs.lemmas.Iterator.{YieldsList-from_slice}
use Rattle.std.proofs.lemmas.Iterator.Consumers.{fold_from_yields_List}
use Rattle.block.proofs.Judging.{folded}
use Rattle.block.proofs.checksum.Goals as goal

pub returns : goal.returns
returns c =
    fold_from_yields_List _ (λ n x. (n + x) % 65536) 1 c.fold.result c.fold.ensures.ran (YieldsList-from_slice c.args.octets.now cc) (λ n x r q k. search (rules, tests))
    ∙ folded c.args.octets.now 1 (omega arith)
