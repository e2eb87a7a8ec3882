-- What holds of every value that an outcome accepts. Assumes nothing.
use Rattle.std.specs.Prelude.{Ok, Err, Result}
use mathlib.Core.Path.{◌≡◌, refl, subst}
use mathlib.Core.Bool.{Bool, true, false}
use mathlib.Core.List.{List, [], ◌∷◌}
use Rattle.answer.specs.Checks.{Check, pick, checked, and_then}
use Rattle.answer.proofs.Judged.{never, passed, stands}

-- whatever is accepted has the property
abbrev pub Yields : {R A : Type 0} → (A → Type 0) → Result A R → Type 0
Yields {R} {A} P o = (a : A) → o ≡ Ok a → P a

module _ {R A : Type 0} (P : A → Type 0) where
  pub of_refusal : (r : R) → Yields P (Err r)
  of_refusal r a e = absurd (never e)

  pub of_value : {a : A} → P a → Yields {R = R} P (Ok a)
  of_value {a} p b e = subst P (let same : a ≡ b = cc in same) p

  pub either_way_lem : (t : Bool) (o p : Result A R) → Yields P o → Yields P p → Yields P (pick t o p)
  either_way_lem true o p h k = h
  either_way_lem false o p h k = k

  -- after a check that did not fail
  pub after_check : (c : Check R) (cs : List (Check R)) (o : Result A R) → (c.fails ≡ false → Yields P (checked cs o)) → Yields P (checked (c ∷ cs) o)
  after_check c cs o h a e = let p = passed c cs o e in h p.0 a p.1

  pub after_all : (o : Result A R) → Yields P o → Yields P (checked [] o)
  after_all o h a e = h a (stands o e)

  -- after another outcome that was accepted
  pub after_value : {B : Type 0} (o : Result B R) (f : B → Result A R) → ((b : B) → o ≡ Ok b → Yields P (f b)) → Yields P (and_then o f)
  after_value (Err r) f h = of_refusal r
  after_value (Ok b) f h = h b refl
