-- Each schedule is set by a Quiet element that a reader allowed, and each element sets one. Assumes nothing.
use mathlib.Core.List.{List, [], ◌∷◌, Memᴰ}
use mathlib.Core.Logic.{inl, inr, ⊎_elim}
use mathlib.Core.Path.{◌≡◌, refl, sym, ap, subst}
use Prim.Native.Nat.{ℕ, ◌≤◌}
use native.Mathlib.Omega.{arith}
use borrow.Author.Tests.{eqb-false}
use lib.Dec.{eqb}
use Rattle.answer.proofs.Booleans.{neither}
use Rattle.beacon.specs.Allowed.{QuietsAllowed}
use Rattle.beacon.specs.Beacons.{Told}
use Rattle.element.specs.declared.quiet.Quiet.{Quiet}
use Rattle.frame.specs.Allowed.{KindAllowed}
use Rattle.frame.specs.Frames.{Kind, beacon, probe_response, action}
use Rattle.schedule.specs.declared.Schedule.{Schedule}
use Rattle.claims.specs.Histories.{Call, History, Listener, Says, Tells, Latest}
use Rattle.claims.specs.Standing.{Counts, Sets, SetsEach}
use Rattle.claims.proofs.Following.{Sound}

-- ---- what counts is allowed

module _ (l : Listener) where
  said_allowed : (k : Kind) (said : Told) → KindAllowed l.interval k → Says k said → QuietsAllowed l.interval said.quiets
  said_allowed (beacon t) said a e = subst (λ (x : Told). QuietsAllowed l.interval x.quiets) e a.quiets_allowed
  said_allowed (probe_response t) said a e = subst (λ (x : Told). QuietsAllowed l.interval x.quiets) e a.quiets_allowed
  said_allowed (action body) said a e = absurd e

  told_allowed : Sound l → (c : Call) (h : History) (said : Told) → Tells l c h said → QuietsAllowed l.interval said.quiets
  told_allowed sound c h said (k, x, says) = said_allowed k said (sound.allowed c h k x) says

  pub counts_allowed : Sound l → (h : History) (said : Told) (t : ℕ) → Counts l h said t → QuietsAllowed l.interval said.quiets
  unfolding Latest
  counts_allowed sound [] said t x = absurd x
  counts_allowed sound (c ∷ h) said t (inl x) = told_allowed sound c h said x.0
  counts_allowed sound (c ∷ h) said t (inr x) = counts_allowed sound h said t x.1

  pub counted_once : (qs : List Quiet) (q : Quiet) → QuietsAllowed l.interval qs → Memᴰ q qs → 1 ≤ q.count
  counted_once [] q a m = absurd (mathlib.Core.List.Memᴰ.not-nil m)
  counted_once (p ∷ qs) q a m =
      ⊎_elim
      (λ (e : q ≡ p). omega (arith, ap (λ (z : Quiet). z.count) e, eqb-false p.count 0 (neither (eqb p.count 0) _ a.0).0))
      (λ (m' : Memᴰ q qs). counted_once qs q a.1 m')
      (mathlib.Core.List.Memᴰ.cases_cons m)

  -- ---- each schedule is set by an element, and each element sets one

  pub set_by_some : (t : ℕ) (qs : List Quiet) (xs : List Schedule) (x : Schedule) → SetsEach l t qs xs → Memᴰ x xs → (q : Quiet) × Memᴰ q qs × Sets l t q x
  set_by_some t [] [] x e m = absurd (mathlib.Core.List.Memᴰ.not-nil m)
  set_by_some t [] (y ∷ xs) x e m = absurd e
  set_by_some t (q ∷ qs) [] x e m = absurd e
  set_by_some t (q ∷ qs) (y ∷ xs) x e m =
      ⊎_elim
      (λ (z : x ≡ y). (q, mathlib.Core.List.Memᴰ.head refl, subst (Sets l t q) (sym z) e.0))
      (λ (m' : Memᴰ x xs). let w = set_by_some t qs xs x e.1 m' in (w.0, mathlib.Core.List.Memᴰ.tail w.1, w.2))
      (mathlib.Core.List.Memᴰ.cases_cons m)

  pub sets_some : (t : ℕ) (qs : List Quiet) (xs : List Schedule) (q : Quiet) → SetsEach l t qs xs → Memᴰ q qs → (x : Schedule) × Memᴰ x xs × Sets l t q x
  sets_some t [] xs q e m = absurd (mathlib.Core.List.Memᴰ.not-nil m)
  sets_some t (p ∷ qs) [] q e m = absurd e
  sets_some t (p ∷ qs) (y ∷ xs) q e m =
      ⊎_elim
      (λ (z : q ≡ p). (y, mathlib.Core.List.Memᴰ.head refl, subst (λ (r : Quiet). Sets l t r y) (sym z) e.0))
      (λ (m' : Memᴰ q qs). let w = sets_some t qs xs q e.1 m' in (w.0, mathlib.Core.List.Memᴰ.tail w.1, w.2))
      (mathlib.Core.List.Memᴰ.cases_cons m)
