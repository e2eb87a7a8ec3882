-- `put` meets its contract: one octet more at each turn, and at last all of them.
use Rattle.std.proofs.Common.{List, ap, add-one, arith, drop, length, length-set, refl, take, ◌++◌, ◌+◌, ◌<◌, ◌∙◌, ◌≡◌}
use lib.Seq.{paste, paste-zero, paste-suc, take-length}
use Rattle.pen.proofs.putting.put.Goals as goal

pub loop-i-init : goal.loop-i-init
loop-i-init c = (paste-zero c.args.out.now c.args.at c.args.octets.now, refl)

pub loop-i-preserved : goal.loop-i-preserved
loop-i-preserved c =
    let l = c.loop-i in
    let a = c.args in
    let place : a.at + l.i < length a.out.now = omega arith in (
      simp (l.invariant.0, add-one) (paste-suc a.out.now a.at a.octets.now l.i 0 place (omega arith)),
      simp length-set l.invariant.1,
    )

pub returns : goal.returns
returns c =
    let l = c.loop-i in
    let a = c.args in
    let all : l.i ≡ length a.octets.now = omega arith in
    record {
      ends = refl;
      stands =
          l.invariant.0
          ∙ ap (paste a.out.now a.at a.octets.now) all
          ∙ ap (λ (xs : List _). take a.at a.out.now ++ xs ++ drop (a.at + length a.octets.now) a.out.now) (take-length a.octets.now);
    }
