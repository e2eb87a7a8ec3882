-- An action body is accepted exactly where its fixed fields and what stands after them are. Assumes nothing.
use Rattle.std.specs.Prelude.{Ok, Err}
use mathlib.Core.Path.{◌≡◌, refl, ap, subst, ◌∙◌}
use mathlib.Core.Bool.{Bool, true, false, not}
use mathlib.Core.List.{List, [], ◌∷◌, ◌++◌}
use Prim.Native.Nat.{ℕ, zero, suc, ◌≤◌}
use native.Mathlib.Omega.{arith}
use borrow.Author.Tests.{le-ltb, ne_eqb, ltb-false, eqb-true, eqb-false, not-true, not-false}
use lib.Dec.{ltb, eqb}
use lib.ListN.{length, drop}
use Rattle.action.specs.Openings.{fixed_fields, switch_fixed_fields, opens_with, forbids_token}
use Rattle.action.specs.declared.Opening.{Opening}
use Rattle.single_body.specs.Singles.{single}
use Rattle.answer.specs.Checks.{pick, ◌⇒◌, checked, judged, and_then}
use Rattle.answer.specs.Faults.{fault_at, fault_nowhere, Placed}
use Rattle.answer.specs.declared.Refusal.{Refusal}
use Rattle.answer.proofs.Booleans.{clash}
use Rattle.answer.proofs.Judged.{never, passed, stands, kept, followed}
use Rattle.element.specs.ChannelSwitch.{switch_means}
use Rattle.element.specs.TpcReport.{tpc_report_means}
use Rattle.element.specs.TpcRequest.{tpc_request_means}
use Rattle.measurement_body.specs.Lists.{measurements_in}
use Rattle.measurement_body.specs.Reports.{report_sort}
use Rattle.measurement_body.specs.Requests.{request_sort}
use Rattle.octets.specs.Numbers.{octet}
use Rattle.walk.specs.Handed.{handed_in}
use Rattle.frame.specs.Actions.{Body, requests, reports, tpc_request, tpc_report, switch, after_opening, action_means}

-- the fixed fields of a body
abbrev pub lead : Body → List ℕ
lead (requests token rs) = 0 ∷ 0 ∷ token ∷ []
lead (reports token rs) = 0 ∷ 1 ∷ token ∷ []
lead (tpc_request token) = 0 ∷ 2 ∷ token ∷ []
lead (tpc_report token t) = 0 ∷ 3 ∷ token ∷ []
lead (switch s) = 0 ∷ 4 ∷ []

-- a body's token may stand, and a run holds its records
abbrev pub Holds : Body → List ℕ → Type 0
Holds (requests token rs) run = (not (eqb token 0) ≡ true) × (measurements_in request_sort run ≡ Ok rs)
Holds (reports token rs) run = measurements_in report_sort run ≡ Ok rs
Holds (tpc_request token) run = (not (eqb token 0) ≡ true) × (single fixed_fields 34 tpc_request_means (handed_in run) ≡ Ok tt)
Holds (tpc_report token t) run = single fixed_fields 35 tpc_report_means (handed_in run) ≡ Ok t
Holds (switch s) run = single switch_fixed_fields 37 switch_means (handed_in run) ≡ Ok s

module _ (run : List ℕ) where
  pub opens : (action token : ℕ) → action ≤ 3 → forbids_token action token ≡ false → opens_with (0 ∷ action ∷ token ∷ run) ≡ Ok (Opening.Token action token)
  unfolding opens_with checked
  opens action token h k =
      let n = length (0 ∷ action ∷ token ∷ run) in
      simp (le-ltb n 1 (omega arith), le-ltb n 2 (omega arith), le-ltb 4 action (omega arith), ne_eqb action 4 (λ e. omega arith), le-ltb n 3 (omega arith), k)

  pub opens_switch : opens_with (0 ∷ 4 ∷ run) ≡ Ok Opening.Switch
  unfolding opens_with checked
  opens_switch =
      let n = length (0 ∷ 4 ∷ run) in
      simp (le-ltb n 1 (omega arith), le-ltb n 2 (omega arith))

  pub by_lead : (c : List ℕ) (o : Opening) → opens_with c ≡ Ok o → action_means c ≡ after_opening c o
  unfolding action_means
  by_lead c o e = ap (λ (x : Placed Opening). and_then x (after_opening c)) e

  pub reads : (body : Body) → Holds body run → action_means (lead body ++ run) ≡ Ok body
  reads (requests token rs) h = by_lead _ _ (opens 0 token (omega arith) (not-true (eqb token 0) h.0)) ∙ simp h.1
  reads (reports token rs) h = by_lead _ _ (opens 1 token (omega arith) refl) ∙ simp h
  reads (tpc_request token) h = by_lead _ _ (opens 2 token (omega arith) (not-true (eqb token 0) h.0)) ∙ simp h.1
  reads (tpc_report token t) h = by_lead _ _ (opens 3 token (omega arith) refl) ∙ simp h
  reads (switch s) h = by_lead _ _ opens_switch ∙ simp h

-- ---- and back

pub record Parts (c : List ℕ) (body : Body) : Type 0 where
  pub run : List ℕ
  pub front : c ≡ lead body ++ run
  pub holds : Holds body run

-- what an opening says of the octets
abbrev pub Begins : List ℕ → Opening → Type 0
Begins c Opening.Switch = c ≡ 0 ∷ 4 ∷ drop switch_fixed_fields c
Begins c (Opening.Token action token) = (c ≡ 0 ∷ action ∷ token ∷ drop fixed_fields c) × (action ≤ 3) × (forbids_token action token ≡ false)

module _ (y : ℕ) where
  -- after category 0 and an action up to 4
  by_action : (r : List ℕ) (o : Opening) (t : Bool) → eqb y 4 ≡ t → y ≤ 4
      → pick t (Ok Opening.Switch) (judged (ltb (length (0 ∷ y ∷ r)) fixed_fields ⇒ fault_nowhere Refusal.TooShort ∷ forbids_token y (octet 2 (0 ∷ y ∷ r)) ⇒ fault_at 2 Refusal.ForbiddenValue ∷ []) (Opening.Token y (octet 2 (0 ∷ y ∷ r)))) ≡ Ok o
      → Begins (0 ∷ y ∷ r) o
  by_action r o true u h e =
      let k : Opening.Switch ≡ o = cc in
      subst (Begins (0 ∷ y ∷ r)) k (ap (λ (n : ℕ). 0 ∷ n ∷ r) (eqb-true y 4 u))
  by_action [] o false u h e = clash (passed _ _ _ e).0
  by_action (token ∷ r) o false u h e =
      let p = passed _ _ _ e in
      let q = passed _ _ _ p.1 in
      let k : Opening.Token y token ≡ o = kept _ q.1 in
      subst (Begins (0 ∷ y ∷ token ∷ r)) k (refl, omega (arith, eqb-false y 4 u), q.0)

pub begins : (c : List ℕ) (o : Opening) → opens_with c ≡ Ok o → Begins c o
unfolding opens_with
begins [] o e = clash (passed _ _ _ e).0
begins (x ∷ []) o e = clash (passed _ _ _ (passed _ _ _ (passed _ _ _ e).1).1).0
begins (x ∷ y ∷ r) o e =
    let p = passed _ _ _ (passed _ _ _ e).1 in
    let q = passed _ _ _ (passed _ _ _ p.1).1 in
    let zeroed : 0 ≡ x = cc (eqb-true x 0 (not-false (eqb x 0) p.0)) in
    subst (λ (n : ℕ). Begins (n ∷ y ∷ r) o) zeroed (by_action y r o (eqb y 4) refl (ltb-false 4 y q.0) (stands _ q.1))

module _ (c : List ℕ) (body : Body) where
  made : {A : Type 0} (make : A → Body) (o : Placed A) → ((a : A) → o ≡ Ok a → Parts c (make a))
      → and_then o (λ a. Ok (make a)) ≡ Ok body → Parts c body
  made make (Err r) k e = absurd (never e)
  made make (Ok a) k e = let g : make a ≡ body = cc in subst (Parts c) g (k a refl)

  by_opening : (o : Opening) → Begins c o → after_opening c o ≡ Ok body → Parts c body
  by_opening Opening.Switch b e = made switch _ (λ s h. record { run = drop switch_fixed_fields c; front = b; holds = h }) e
  by_opening (Opening.Token zero token) b e =
      made (requests token) _ (λ rs h. record { run = drop fixed_fields c; front = b.0; holds = (ap not b.2, h) }) e
  by_opening (Opening.Token (suc zero) token) b e = made (reports token) _ (λ rs h. record { run = drop fixed_fields c; front = b.0; holds = h }) e
  by_opening (Opening.Token (suc (suc zero)) token) b e =
      made (λ u. tpc_request token) _ (λ u h. record { run = drop fixed_fields c; front = b.0; holds = (ap not b.2, h) }) e
  by_opening (Opening.Token (suc (suc (suc zero))) token) b e = made (tpc_report token) _ (λ t h. record { run = drop fixed_fields c; front = b.0; holds = h }) e
  by_opening (Opening.Token (suc (suc (suc (suc n)))) token) b e = absurd (omega arith)

  pub parts : action_means c ≡ Ok body → Parts c body
  unfolding action_means
  parts e = let p = followed (opens_with c) (after_opening c) body e in by_opening p.0 (begins c p.0 p.1) p.2
