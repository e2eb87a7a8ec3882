-- `spell` meets its contract.
-- Assumes nothing.
use Rattle.std.proofs.Common.{List, [], ap, arith, drop, length-set, set, sym, take, ℕ, ◌%◌, ◌+◌, ◌-◌, ◌∙◌, ◌∷◌, ◌≡◌, ◌≤◌}
use lib.Seq.{slice_empty}
use Rattle.pen.specs.Numerals.{numeral_end, Spells}
use Rattle.pen.proofs.InNumeral.{digit_before}
use Rattle.pen.proofs.Lengths.{number_short}
use Rattle.pen.proofs.OnlyDigits.{Around, nothing_changed, one_changed, one_wider, only_digits}
use Rattle.pen.proofs.Spelling.{unspelled, begins, goes_on, ends}
use Rattle.pen.proofs.numeral.spell.Invariants.{Inv}
use Rattle.pen.proofs.numeral.spell.Goals as goal

-- there is room for one digit more
free : {number : ℕ} {digits₀ digits : List ℕ} {from rest : ℕ} → Inv number digits₀ digits from rest → (1 ≤ from) × (from ≤ numeral_end)
free i = omega (arith, i.short, i.place, unspelled _ _ _ i.spelled)

-- and then it stands in front
one_more : {number : ℕ} {digits₀ digits : List ℕ} {from rest : ℕ} (i : Inv number digits₀ digits from rest) (digit : ℕ)
    → drop (from - 1) (take numeral_end (set digits (from - 1) digit)) ≡ digit ∷ i.done
one_more {digits} {from} i digit = digit_before digits from digit i.room (free i).0 (free i).1 ∙ ap (λ (xs : List ℕ). digit ∷ xs) i.stands

-- and nothing else is changed
no_more : {number : ℕ} {digits₀ digits : List ℕ} {from rest : ℕ} (i : Inv number digits₀ digits from rest) (digit : ℕ)
    → Around digits₀ (set digits (from - 1) digit) (from - 1)
no_more {from} i digit = one_changed (one_wider i.around) (from - 1) digit (omega arith) (omega (arith, free i))

pub loop-rest-init : goal.loop-rest-init
loop-rest-init c =
    record {
      short = number_short c.args.number c.ranges.number.fits;
      room = c.requires;
      done = [];
      spelled = begins _;
      place = omega arith;
      stands = slice_empty numeral_end c.args.digits.now;
      around = nothing_changed _ _;
    }

pub overflow_sub-from : goal.overflow_sub-from
overflow_sub-from c = (free c.loop-rest.invariant).0

pub bounds-digits-from : goal.bounds-digits-from
bounds-digits-from c = omega (arith, c.loop-rest.invariant.room, free c.loop-rest.invariant)

pub loop-rest-smaller : goal.loop-rest-smaller
loop-rest-smaller c = omega (arith, free c.loop-rest.invariant)

pub loop-rest-preserved : goal.loop-rest-preserved
loop-rest-preserved c =
    let l = c.loop-rest in
    let i = l.invariant in
    record {
      short = i.short;
      room = simp length-set i.room;
      done = (48 + l.rest % 10) ∷ i.done;
      spelled = goes_on _ l.rest i.done (omega (arith, c.loop-rest-test.true)) i.spelled;
      place = omega (arith, i.place, free i);
      stands = one_more i (48 + l.rest % 10);
      around = no_more i (48 + l.rest % 10);
    }

pub overflow_sub-from-2 : goal.overflow_sub-from-2
overflow_sub-from-2 c = (free c.loop-rest.invariant).0

pub bounds-digits-from-2 : goal.bounds-digits-from-2
bounds-digits-from-2 c = omega (arith, c.loop-rest.invariant.room, free c.loop-rest.invariant)

pub returns : goal.returns
returns c =
    let l = c.loop-rest in
    let i = l.invariant in
    let spells : Spells c.args.number (set l.digits (l.from - 1) (48 + l.rest)) (l.from - 1) =
    record {
      room = simp length-set i.room;
      says = one_more i (48 + l.rest) ∙ sym (ends _ l.rest i.done (omega (arith, c.loop-rest-test.false)) i.spelled);
    } in
    record {
      spells = spells;
      value = only_digits spells (no_more i (48 + l.rest));
    }
