-- Each promise of a line that is put leaves one outcome: the pen, every octet of the digits' room and every octet of the buffer. Assumes nothing.
use mathlib.Core.List.{List}
use mathlib.Core.Path.{◌≡◌, ap, ◌∙◌, subst}
use Prim.Native.Nat.{ℕ}
use native.Mathlib.Omega.{arith}
use borrow.Fn.Kinds.{ParamKind, ResultKind, Dens, Out, res_t, ended_of}
use contract.Lifetimes.{Lfts}
use denote.Triple.Clauses.{AtExit}
use Rattle.answer.specs.Outcomes.{OneOutcome}
use Rattle.pen.proofs.InNumeral.{placed_digits}
use Rattle.pen.proofs.begin as Begin
use Rattle.pen.proofs.put_accepted as PutAccepted
use Rattle.pen.proofs.put_told as PutTold
use Rattle.pen.proofs.words.Word.letters as WordLetters
use Rattle.pen.specs.Numerals.{Spells}
use Rattle.pen.specs.Penning.{Penned}
use Rattle.pen.specs.declared.Pen.{Pen}
use Rattle.claims.proofs.Same.{once}

-- a number's digits begin at one place
one_place : {n from other : ℕ} {digits room : List ℕ} → Spells n digits from → Spells n room other → from ≡ other
one_place p q = omega (arith, placed_digits p, placed_digits q)

same_pen : {a b : Pen} → a.lines ≡ b.lines → a.from ≡ b.from → a.count ≡ b.count → a ≡ b
same_pen {a} {b} l f c =
    ap (λ (n : ℕ). record { lines = n; from = a.from; count = a.count }) l
    ∙ ap (λ (n : ℕ). record { lines = b.lines; from = n; count = a.count }) f
    ∙ ap (λ (n : ℕ). record { lines = b.lines; from = b.from; count = n }) c

penned_once : {line : List ℕ} {pen : Pen} {out : List ℕ} {x y : Pen} {d e exit other : List ℕ} → Penned line pen out x d exit → Penned line pen out y e other → (x ≡ y) × (exit ≡ other)
penned_once {x} {y} {d} {e} p q = (
  same_pen (once p.numbered q.numbered)
      (one_place (subst (λ (n : ℕ). Spells n d x.from) p.numbered p.spells) (subst (λ (n : ℕ). Spells n e y.from) q.numbered q.spells))
      (once p.many q.many),
  once p.leaves q.leaves,
)

-- the letters of a word are lent: they are the same
pub word_letters : (κs : Lfts 1) (a : Dens κs WordLetters.Kinds.ps) (e f : AtExit (ended_of 1 WordLetters.Kinds.ps WordLetters.Kinds.r) κs) (x y : (res_t WordLetters.Kinds.r κs).Denot)
    → WordLetters.Reads.Post κs a x e → WordLetters.Reads.Post κs a y f → x.now ≡ y.now
word_letters κs a e f x y p q = once p q

pub pen_begin : OneOutcome 1 Begin.Kinds.ps Begin.Kinds.r Begin.Reads.Post (λ κs e. e.1.0.now)
pen_begin κs a e f x y p q = (same_pen (once p.0 q.0) (one_place p.2 q.2) (once p.1 q.1), once p.3 q.3)

-- ---- of two lent buffers both are fixed

module _ (n : ℕ) (ps : List (ParamKind n)) (r : ResultKind n) (Promise : Out n ps r) where
  abbrev OneInBoth : ((κs : Lfts n) → AtExit (ended_of n ps r) κs → List ℕ) → ((κs : Lfts n) → AtExit (ended_of n ps r) κs → List ℕ) → Type 0
  OneInBoth first second =
      (κs : Lfts n) (a : Dens κs ps) (e f : AtExit (ended_of n ps r) κs) (x y : (res_t r κs).Denot)
      → Promise κs a x e → Promise κs a y f → ((x ≡ y) × (second κs e ≡ second κs f)) × (first κs e ≡ first κs f)

pub pen_put_accepted : OneInBoth 2 PutAccepted.Kinds.ps PutAccepted.Kinds.r PutAccepted.Reads.Post (λ κs e. e.1.0.now) (λ κs e. e.1.1.1.0.now)
pen_put_accepted κs a e f x y p q = (penned_once p.0 q.0, once p.1 q.1)

pub pen_put_told : OneInBoth 2 PutTold.Kinds.ps PutTold.Kinds.r PutTold.Reads.Post (λ κs e. e.1.0.now) (λ κs e. e.1.1.1.1.1.0.now)
pen_put_told κs a e f x y p q = (penned_once p.0 q.0, once p.1 q.1)
