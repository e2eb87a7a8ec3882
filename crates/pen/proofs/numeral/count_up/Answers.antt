-- A digit that is no nine ends it, and where all of them were nines there is one digit more.
use Rattle.std.proofs.Common.{List, arith, length, length-set, get_or, set, ℕ, ◌+◌, ◌-◌, ◌<◌, ◌≡◌, ◌≤◌}
use Rattle.octets.specs.Writing.{over}
use Rattle.pen.specs.Decimals.{decimal}
use Rattle.pen.specs.Numerals.{numeral_end, numeral_limit, Spells}
use Rattle.pen.proofs.CountingUp.{counting_begins, digit_low, counted, carried, all_nines, grown}
use Rattle.pen.proofs.InNumeral.{placed_digits}
use Rattle.pen.proofs.OnlyDigits.{Around, nothing_changed, one_changed, one_wider, only_digits}
use Rattle.pen.proofs.Spelling.{few_digits}
use Rattle.pen.proofs.numeral.count_up.Goals as goal
use Rattle.pen.proofs.numeral.count_up.Goals.{After-loop-at, In-loop-at}

-- the number that the digits say leaves a place free
free : (digits : List ℕ) (from : ℕ) → (n : ℕ) × Spells n digits from × (n < numeral_limit) → (1 ≤ from) × (from < numeral_end)
free digits from (n, p, few) = omega (arith, placed_digits p, few_digits 19 n (omega arith) (omega arith))

-- what is promised of the room, whatever number the digits said
exactly : {digits₀ digits : List ℕ} {from r : ℕ} → Around digits₀ digits r → ((n : ℕ) → Spells n digits₀ from → Spells (n + 1) digits r)
    → (n : ℕ) → Spells n digits₀ from → (r ≡ numeral_end - length (decimal (n + 1))) × (digits ≡ over digits₀ (numeral_end - length (decimal (n + 1))) (decimal (n + 1)))
exactly a spells n p = only_digits (spells n p) a

pub loop-at-init : goal.loop-at-init
loop-at-init c =
    record {
      room = c.requires.1.room;
      low = omega (arith, placed_digits c.requires.1);
      counting = λ n p h. counting_begins p;
      passed = λ n p e. absurd (omega (arith, placed_digits p));
      around = nothing_changed _ _;
    }

pub overflow_add-digits : goal.overflow_add-digits
overflow_add-digits c =
    let i = c.loop-at.invariant in
    omega (arith, digit_low (i.counting c.requires.0 c.requires.1 c.loop-at-test.true) i.room (omega arith))

-- ---- a digit that is no nine

ends : (c : In-loop-at) → (get_or c.loop-at.digits (c.loop-at.at - 1) 0 ≡ 57 → ⊥) → (n : ℕ) → Spells n c.args.digits.now c.args.from
    → Spells (n + 1) (set c.loop-at.digits (c.loop-at.at - 1) (get_or c.loop-at.digits (c.loop-at.at - 1) 0 + 1)) c.args.from
ends c low n p = let i = c.loop-at.invariant in counted (i.counting n p c.loop-at-test.true) i.room (omega arith) low

pub returns-then-digits-at-ne57-clause-by_index : goal.returns-then-digits-at-ne57-clause-by_index
returns-then-digits-at-ne57-clause-by_index c = ends (goal.at.returns-then-digits-at-ne57-clause-by_index c).In-loop-at c.if-digits-at-ne57.true

pub returns-then-digits-at-ne57-clause-by_index_2 : goal.returns-then-digits-at-ne57-clause-by_index_2
returns-then-digits-at-ne57-clause-by_index_2 c =
    exactly (one_changed c.loop-at.invariant.around (c.loop-at.at - 1) _ (omega arith) (omega arith))
    (ends (goal.at.returns-then-digits-at-ne57-clause-by_index_2 c).In-loop-at c.if-digits-at-ne57.true)

pub loop-at-preserved : goal.loop-at-preserved
loop-at-preserved c =
    let i = c.loop-at.invariant in
    let nine = c.if-digits-at-ne57.false in
    record {
      room = simp length-set i.room;
      low = omega arith;
      counting = λ n p h. carried (i.counting n p c.loop-at-test.true) i.room (omega arith) nine (λ e. omega arith);
      passed = λ n p e. all_nines (i.counting n p c.loop-at-test.true) i.room (omega arith) nine e;
      around = one_changed i.around (c.loop-at.at - 1) 48 (omega arith) (omega arith);
    }

-- ---- all of them were nines

grows : (c : After-loop-at) → (n : ℕ) → Spells n c.args.digits.now c.args.from → Spells (n + 1) (set c.loop-at.digits (c.args.from - 1) 49) (c.args.from - 1)
grows c n p =
    let i = c.loop-at.invariant in
    let bounds = free _ _ c.requires in
    grown (i.passed n p (omega (arith, i.low))) i.room bounds.0 (omega arith)

pub overflow_sub-digits : goal.overflow_sub-digits
overflow_sub-digits c = (free _ _ c.requires).0

pub bounds-digits-from : goal.bounds-digits-from
bounds-digits-from c = omega (arith, c.loop-at.invariant.room, free _ _ c.requires)

pub overflow_sub-result : goal.overflow_sub-result
overflow_sub-result c = (free _ _ c.requires).0

pub returns-clause-by_index : goal.returns-clause-by_index
returns-clause-by_index c = grows c

pub returns-clause-by_index_2 : goal.returns-clause-by_index_2
returns-clause-by_index_2 c =
    let bounds = free _ _ c.requires in
    exactly (one_changed (one_wider c.loop-at.invariant.around) (c.args.from - 1) 49 (omega arith) (omega (arith, bounds))) (grows c)
