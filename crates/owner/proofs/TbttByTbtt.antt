-- Many TBTTs at once are as many one by one. Assumes nothing.
use mathlib.Core.Bool.{Bool, true, false}
use mathlib.Core.Path.{◌≡◌, refl, sym, ap, ap₂, ◌∙◌}
use Prim.Native.Nat.{ℕ, zero, suc, ◌+◌, ◌-◌, ◌<◌, ◌≤◌}
use native.Mathlib.Omega.{arith}
use borrow.Author.Tests.{le-leb, lt-leb, leb-true}
use lib.Dec.{leb}
use Rattle.std.specs.Prelude.{Option, Some, None}
use Rattle.answer.specs.Checks.{pick}
use Rattle.owner.specs.Owners.{missing, missed, past_tbtts, OwnerFits}
use Rattle.owner.specs.declared.Owner.{Owner}

-- none passes
pub none_past : (o : Option Owner) → past_tbtts 0 o ≡ o
unfolding past_tbtts
none_past o = refl

-- an owner that is not known stays so
pub past_unknown : (n : ℕ) → past_tbtts n None ≡ None
unfolding past_tbtts
past_unknown zero = refl
past_unknown (suc n) = past_unknown n

-- what is left of an owner, once there are so many
abbrev left : Owner → ℕ → Option Owner
left o n = pick (leb o.recovery n) None (Some (missing o n))

-- a TBTT without a beacon
one : (o : Owner) (m : ℕ) → past_tbtts 1 (Some (missing o m)) ≡ left o (m + 1)
unfolding past_tbtts
one o m = refl

-- and more of them: given up, or with one miss more
more : (n : ℕ) (o : Owner) (m : ℕ) → past_tbtts n (Some (missing o (m + 1))) ≡ left o (m + 1 + n)
    → past_tbtts (suc n) (Some (missing o m)) ≡ left o (m + suc n)
unfolding past_tbtts
more n o m rest = by (leb o.recovery (m + 1)) refl
  where
    sum : m + 1 + n ≡ m + suc n
    sum = omega arith

    by : (b : Bool) → leb o.recovery (m + 1) ≡ b → past_tbtts n (pick b None (Some (missing o (m + 1)))) ≡ left o (m + suc n)
    by true e =
        let h = leb-true o.recovery (m + 1) e in
        past_unknown n ∙ ap (λ (b : Bool). pick b None (Some (missing o (m + suc n)))) (sym (le-leb o.recovery (m + suc n) (omega (arith, h))))
    by false e = rest ∙ ap (left o) sum

rises : (n : ℕ) (o : Owner) (m : ℕ) → past_tbtts (suc n) (Some (missing o m)) ≡ left o (m + suc n)
rises zero o m = one o m
rises (suc n) o m = more (suc n) o m (rises n o (m + 1))

-- ---- an owner that is known

module _ (o : Owner) (fits : OwnerFits o) where
  -- a beacon from it spares the next TBTT
  heard_past : (n : ℕ) → o.heard ≡ true → past_tbtts (suc n) (Some o) ≡ past_tbtts n (Some (missing o o.misses))
  unfolding past_tbtts
  heard_past n h = ap (λ (b : Bool). past_tbtts n (pick b (Some (missing o o.misses)) (missed o))) h

  as_missing : o.heard ≡ false → o ≡ missing o o.misses
  as_missing h = ap (λ (b : Bool). record { address = o.address; recovery = o.recovery; misses = o.misses; heard = b }) h

  -- with no miss it is not given up
  stays : o.heard ≡ true → past_tbtts 0 (Some (missing o o.misses)) ≡ left o (o.misses + (1 - 1))
  unfolding past_tbtts
  stays h =
      sym
      (ap₂ (λ (b : Bool) (j : ℕ). pick b None (Some (missing o j))) (lt-leb o.recovery (o.misses + (1 - 1)) (omega (arith, fits.fresh h, fits.interval)))
      (let e : o.misses + (1 - 1) ≡ o.misses = omega arith in e))

  past_known : (n : ℕ) → past_tbtts (suc n) (Some o) ≡ left o (o.misses + (suc n - pick o.heard 1 0))
  past_known n = by o.heard refl n
    where
      by : (b : Bool) → o.heard ≡ b → (k : ℕ) → past_tbtts (suc k) (Some o) ≡ left o (o.misses + (suc k - pick b 1 0))
      by false h k =
          ap (λ (p : Owner). past_tbtts (suc k) (Some p)) (as_missing h)
          ∙ rises k o o.misses
          ∙ ap (λ (j : ℕ). left o (o.misses + j)) (let e : suc k ≡ suc k - 0 = omega arith in e)
      by true h zero = heard_past 0 h ∙ stays h
      by true h (suc k) =
          heard_past (suc k) h
          ∙ rises k o o.misses
          ∙ ap (λ (j : ℕ). left o (o.misses + j)) (let e : suc k ≡ suc (suc k) - 1 = omega arith in e)

  -- so many, of which the first is no miss where the owner was heard
  module _ (n : ℕ) (some : 1 ≤ n) where
    past_some : past_tbtts n (Some o) ≡ left o (o.misses + (n - pick o.heard 1 0))
    past_some = by n some
      where
        by : (k : ℕ) → 1 ≤ k → past_tbtts k (Some o) ≡ left o (o.misses + (k - pick o.heard 1 0))
        by zero h = absurd (omega arith)
        by (suc k) h = past_known k

    pub past_given_up : o.recovery ≤ o.misses + (n - pick o.heard 1 0) → past_tbtts n (Some o) ≡ None
    past_given_up h = past_some ∙ ap (λ (b : Bool). pick b None (Some (missing o (o.misses + (n - pick o.heard 1 0))))) (le-leb o.recovery (o.misses + (n - pick o.heard 1 0)) h)

    pub past_kept : o.misses + (n - pick o.heard 1 0) < o.recovery → past_tbtts n (Some o) ≡ Some (missing o (o.misses + (n - pick o.heard 1 0)))
    past_kept h = past_some ∙ ap (λ (b : Bool). pick b None (Some (missing o (o.misses + (n - pick o.heard 1 0))))) (lt-leb o.recovery (o.misses + (n - pick o.heard 1 0)) h)

-- the ways out of `past`
pub ruleset ways = (none_past, past_unknown, past_given_up, past_kept)
