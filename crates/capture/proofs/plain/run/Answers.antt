-- `run` meets its contract: the lines so far are those of the plain records before the place.
-- Assumes nothing.
use Rattle.std.proofs.Common.{Bool, arith, subst, sym}
use Rattle.capture.specs.CodeTerms.Plain.{RanFrom}
use Rattle.capture.specs.Listers.{line_limit}
use Rattle.capture.proofs.Plainly.{may_put_lem, ran_none, ran_room, ran_advance, ran_question}
use Rattle.capture.proofs.plain.run.Goals as goal

-- none, where no station is followed
pub returns-then-not-active : goal.returns-then-not-active
returns-then-not-active c = ran_none _ _ _ _ _ _ _ _ _ c.requires.spells c.requires.in_bounds

pub loop-ran-init : goal.loop-ran-init
loop-ran-init c = ran_none _ _ _ _ _ _ _ _ _ c.requires.spells c.requires.in_bounds

-- ---- another record, or none

pub returns-in-Other : goal.returns-in-Other
returns-in-Other c =
    let a = c.args in
    let x = c.loop-ran in
    subst
    (λ (b : Bool).
    RanFrom a.used.now a.from.at b a.from.clock a.pending a.clear a.from.pen a.out.now x.ran x.digits x.out)
    (sym c.if-not-active.false) x.invariant

-- ---- an advance

pub put_accepted-pen-requires : goal.put_accepted-pen-requires
put_accepted-pen-requires c =
    let i = c.loop-ran.invariant in
    let n = c.in-Goes.ensures.1 in
    may_put_lem i.spells (ran_room c.requires.room i _ line_limit n.past n.within c.requires.numbered)

pub loop-ran-smaller-in-Goes : goal.loop-ran-smaller-in-Goes
loop-ran-smaller-in-Goes c = let n = c.in-Goes.ensures.1 in omega (arith, n.past, n.within)

pub loop-ran-preserved-in-Goes : goal.loop-ran-preserved-in-Goes
loop-ran-preserved-in-Goes c =
    let g = c.in-Goes.ensures in
    let put = c.put_accepted-pen in
    ran_advance c.requires.room c.loop-ran.invariant g.0 _ put.result _ _ _ g.2 g.1
    put.ensures.penned

-- ---- a question

pub put_accepted-pen-requires-in-Granted : goal.put_accepted-pen-requires-in-Granted
put_accepted-pen-requires-in-Granted c =
    let i = c.loop-ran.invariant in
    let n = c.in-Granted.ensures.1 in
    may_put_lem i.spells (ran_room c.requires.room i _ line_limit n.past n.within c.requires.numbered)

pub loop-ran-smaller : goal.loop-ran-smaller
loop-ran-smaller c = let n = c.in-Granted.ensures.1 in omega (arith, n.past, n.within)

pub loop-ran-preserved : goal.loop-ran-preserved
loop-ran-preserved c =
    let g = c.in-Granted.ensures in
    let put = c.put_accepted-pen-in-Granted in
    ran_question c.requires.room c.loop-ran.invariant g.0 _ put.result _ _ g.1 g.2 g.3
    put.ensures.penned
