-- What is known of contents from what they were judged to be. Assumes nothing.
use Rattle.std.specs.Prelude.{Ok, Err}
use mathlib.Core.Path.{◌≡◌, refl, sym, ap}
use mathlib.Core.Bool.{◌&&◌}
use mathlib.Core.List.{List}
use Prim.Native.Nat.{ℕ}
use Rattle.answer.proofs.Judged.{never}
use Rattle.answer.specs.Checks.{Outcome, and_then}
use Rattle.answer.specs.declared.Refusal.{Refusal}
use Rattle.measurement_body.specs.CodeTerms.Judging.{judged_as, judgement}
use Rattle.measurement_body.specs.Lists.{Sort}
use Rattle.measurement_body.specs.declared.judging.Judged.{Judged}

-- they hold a record with this token; `plain` says whether they are plain
pub record Holds {A : Type 0} (s : Sort A) (c : List ℕ) (j : Judged) : Type 0 where
  pub one : A
  pub says : s.means c ≡ Ok one
  pub tokened : j.token ≡ s.token one
  pub plainly : j.plain ≡ (s.clear c && s.interpreted one)

module _ {A : Type 0} (s : Sort A) (c : List ℕ) where
  pub unread : {r : Refusal} → Err r ≡ judgement s c → s.means c ≡ Err r
  unread {r} e = by (s.means c) e
    where
      by : (o : Outcome A) → Err r ≡ and_then o (λ a. Ok (judged_as s (s.clear c) a)) → o ≡ Err r
      by (Err q) h = cc
      by (Ok a) h = absurd (never h)

  pub holds : {j : Judged} → Ok j ≡ judgement s c → Holds s c j
  holds {j} e = by (s.means c) refl e
    where
      by : (o : Outcome A) → s.means c ≡ o → Ok j ≡ and_then o (λ a. Ok (judged_as s (s.clear c) a)) → Holds s c j
      by (Err q) m h = absurd (never (sym h))
      by (Ok a) m h = let same : j ≡ judged_as s (s.clear c) a = cc in record { one = a; says = m; tokened = ap (λ (x : Judged). x.token) same; plainly = ap (λ (x : Judged). x.plain) same }
