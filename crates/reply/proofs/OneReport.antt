-- A body of one Measurement Report, built in a buffer of its own. Assumes nothing.
use Rattle.std.specs.Prelude.{Ok, Err}
use mathlib.Core.Bool.{Bool, true, false, ◌&&◌}
use mathlib.Core.List.{List, [], ◌∷◌, append-nil}
use mathlib.Core.Path.{◌≡◌, refl, sym, ap, ◌∙◌}
use Prim.Native.Nat.{ℕ, ◌+◌, ◌≤◌}
use native.Mathlib.Omega.{arith}
use borrow.Author.Tests.{le-leb}
use lib.Dec.{leb}
use lib.ListN.{length, take}
use Rattle.answer.proofs.Judged.{never}
use Rattle.answer.specs.Checks.{Outcome}
use Rattle.answer.specs.declared.Refusal.{Refusal}
use Rattle.measurement_element.proofs.ReportLayout.{within, counted}
use Rattle.measurement_element.specs.MeasurementReport.{report_may, report_octets}
use Rattle.measurement_element.specs.declared.measurement_report.Report.{Report}
use Rattle.measurement_body.specs.Bodies.{longest_body, body_octets, may_append, appended}
use Rattle.measurement_body.specs.Lists.{all_octets}
use Rattle.measurement_body.specs.Reports.{report_sort}
use Rattle.octets.specs.Writing.{wrote, left, Written}
use Rattle.octets.proofs.Overwriting.{written_as}
use Rattle.octets.proofs.Storing.{not_answer, room_answer, front_left, filled_front}

-- how many octets such a body has at most: the fixed fields, and one element 39
abbrev pub longest_reply_body : ℕ
longest_reply_body = 27

and-true : (b : Bool) → (b && true) ≡ b
and-true true = refl
and-true false = refl

pub refused_as : {may : Bool} {os : List ℕ} {at : ℕ} {buffer exit : List ℕ} {q r : Refusal} → r ≡ q
    → Written may os at buffer (Err q) exit → Written may os at buffer (Err r) exit
refused_as e w = record { answers = ap Err e ∙ w.answers; leaves = w.leaves }

-- ---- the first element of a body

module _ (token : ℕ) (x : Report) where
  -- the body as it is meant
  abbrev pub body : List ℕ
  body = body_octets report_sort token (x ∷ [])

  first_octets : appended report_sort token x [] ≡ body
  unfolding appended all_octets
  first_octets = ap (λ (xs : List ℕ). 0 ∷ 1 ∷ token ∷ xs) (sym (append-nil (report_octets x)))

  pub short_body : length x.densities ≡ 8 → length body ≤ longest_reply_body
  unfolding all_octets
  short_body eight =
      omega
      (arith, ap (λ (xs : List ℕ). length xs) (append-nil (report_octets x)), counted x.token x.kind x.densities eight x.matter, (within x.matter).1)

  -- a body of one report is short enough
  first_short : length x.densities ≡ 8 → leb (0 + length (appended report_sort token x [])) longest_body ≡ true
  first_short eight = le-leb (0 + length (appended report_sort token x [])) longest_body (omega (arith, ap length first_octets, short_body eight))

  first_may : length x.densities ≡ 8 → may_append report_sort token x [] ≡ report_may x
  unfolding may_append
  first_may eight = simp (first_short eight) (and-true (report_may x))

  module _ (eight : length x.densities ≡ 8) (buffer exit : List ℕ) (answer : Outcome ℕ) (size : length buffer ≡ longest_reply_body)
      (w : Written (may_append report_sort token x []) (appended report_sort token x []) 0 buffer answer exit) where
    as_meant : Written (report_may x) body 0 buffer answer exit
    as_meant = written_as (first_may eight) first_octets w

    enough : report_may x ≡ true → wrote (report_may x) body 0 buffer ≡ Ok (length body)
    enough f = ap (λ (m : Bool). wrote m body 0 buffer) f ∙ room_answer body 0 buffer (omega (arith, size, short_body eight))

    -- a refusal says that the report may not be written
    pub unwritten : (r : Refusal) → answer ≡ Err r → (report_may x ≡ false) × (r ≡ Refusal.Impossible)
    unwritten r e = by_may (report_may x) refl
      where
        by_may : (m : Bool) → report_may x ≡ m → (report_may x ≡ false) × (r ≡ Refusal.Impossible)
        by_may true f = absurd (never (sym e ∙ as_meant.answers ∙ enough f))
        by_may false f =
            let same : Err r ≡ Err Refusal.Impossible = sym e ∙ as_meant.answers ∙ not_answer body 0 buffer f in
            (f, cc)

    -- else the first octets of the buffer are the body
    pub built : (n : ℕ) → answer ≡ Ok n → (report_may x ≡ true) × (n ≡ length body) × (take n exit ≡ body)
    built n e = by_may (report_may x) refl
      where
        by_may : (m : Bool) → report_may x ≡ m → (report_may x ≡ true) × (n ≡ length body) × (take n exit ≡ body)
        by_may false f = absurd (never (sym (not_answer body 0 buffer f) ∙ sym as_meant.answers ∙ e))
        by_may true f =
            let same : Ok n ≡ Ok (length body) = sym e ∙ as_meant.answers ∙ enough f in
            let count : n ≡ length body = cc in
            let leaves = as_meant.leaves ∙ ap (λ (m : Bool). left m body 0 buffer) f ∙ front_left body buffer (omega (arith, size, short_body eight)) in
            (f, count, filled_front body buffer exit leaves n count)
