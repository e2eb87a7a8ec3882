-- A space, the letters, and a space.
use Rattle.std.proofs.Common.{[], arith, length-append, ◌∷◌}
use Rattle.pen.specs.Lines.{spelled}
use Rattle.pen.proofs.Following.{put_as, put_after}
use Rattle.pen.proofs.WholeLines.{letters}
use Rattle.pen.proofs.putting.put_word.Goals as goal

pub put-worded-requires : goal.put-worded-requires
put-worded-requires c = rw c.letters.ensures (omega (arith, letters c.args.word))

pub put-requires : goal.put-requires
put-requires c = omega (arith, rw c.letters.ensures at c.put-worded.ensures.ends, letters c.args.word)

pub returns : goal.returns
returns c =
    let word = c.args.word in
    let long = length-append (spelled word) (32 ∷ []) in
    put_after (32 ∷ []) (omega (arith, long, letters word))
    (put_after (spelled word) (omega (arith, letters word)) c.put.ensures (put_as c.letters.ensures c.put-worded.ensures))
    c.put-spaced.ensures
