-- `copy` meets its contract: one octet more at each turn, and at last all of them.
use Rattle.std.proofs.Common.{List, ap, add-one, arith, drop, length, length-set, refl, take, ◌++◌, ◌+◌, ◌<◌, ◌∙◌, ◌≡◌}
use lib.Seq.{paste, paste-zero, paste-suc, take-length}
use Rattle.octets.proofs.writing.copy.Goals as goal

pub loop-i-init : goal.loop-i-init
loop-i-init c = (paste-zero c.args.buffer.now c.args.at c.args.octets.now, refl)

pub loop-i-preserved : goal.loop-i-preserved
loop-i-preserved c =
    let l = c.loop-i in
    let a = c.args in
    let place : a.at + l.i < length a.buffer.now = c.requires l.i (omega arith) in (
      simp (l.invariant.0, add-one) (paste-suc a.buffer.now a.at a.octets.now l.i 0 place (omega arith)),
      simp length-set l.invariant.1,
    )

pub returns : goal.returns
returns c =
    let l = c.loop-i in
    let a = c.args in
    let all : l.i ≡ length a.octets.now = omega arith in
    l.invariant.0
    ∙ ap (paste a.buffer.now a.at a.octets.now) all
    ∙ ap (λ (xs : List _). take a.at a.buffer.now ++ xs ++ drop (a.at + length a.octets.now) a.buffer.now) (take-length a.octets.now)
