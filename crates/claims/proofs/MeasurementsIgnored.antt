-- Measurement bodies that differ in reserved bits alone are read the same (01, "Octets": "Reserved bits are ignored when read"). Assumes nothing.
use Rattle.std.specs.Prelude.{Ok, Err, Result}
use mathlib.Core.Bool.{Bool, true, false, not}
use mathlib.Core.List.{List, [], ◌∷◌, ◌++◌}
use mathlib.Core.Path.{◌≡◌, refl, sym, ap, subst, ◌∙◌}
use Prim.Native.Nat.{ℕ, zero, suc, ◌+◌, ◌≤◌}
use native.Mathlib.Omega.{arith}
use borrow.Author.Tests.{eqb-true, le-ltb, ne_eqb}
use lib.Dec.{eqb}
use lib.ListN.{length, length-append}
use Rattle.action.specs.Openings.{token_field, fixed_fields, forbids_token, opens_with}
use Rattle.answer.proofs.Booleans.{clash}
use Rattle.answer.proofs.Judged.{kept}
use Rattle.answer.proofs.Judged as Judged
use Rattle.answer.specs.Checks.{Outcome, pick, ◌⇒◌, checked, judged, and_then}
use Rattle.answer.specs.Faults.{fault_at, Placed, placed_at}
use Rattle.answer.specs.declared.Refusal.{Refusal}
use Rattle.frame.specs.Actions.{after_opening, action_means, requests, reports}
use Rattle.measurement_body.specs.Kinds.{sort_of}
use Rattle.measurement_body.specs.Lists.{Sort, repeats, next_in, listed, measurements_in}
use Rattle.measurement_body.specs.declared.kinds.Kind.{Kind}
use Rattle.walk.specs.Elements.{Elements, elements_in, past_element}
use Rattle.walk.specs.Handed.{Handed, more, passed, vendor_id, passing, handing}
use Rattle.walk.specs.Required.{Standing, required}
use Rattle.claims.specs.Filters.{Item, laid, walked_as}
use Rattle.claims.specs.Reserved.{AlikeBut, reserved_in, ItemsAlike, RunsAlike, MeasurementsAlike}
use Rattle.claims.proofs.ContentsIgnored.{request_ignored, report_ignored}
use Rattle.claims.proofs.RunItems.{walk_front}
use Rattle.action.specs.declared.Opening.{Opening}

-- ---- elements one after the other

-- what follows a value, where that is what counts
pub then_alike : {R A B : Type 0} (o : Result A R) (f g : A → Result B R) → ((a : A) → o ≡ Ok a → f a ≡ g a) → and_then o f ≡ and_then o g
then_alike (Err r) f g h = refl
then_alike (Ok a) f g h = h a refl

module _ {A : Type 0} (s : Sort A) where
  -- the element in front, by whether it is of the ID, and what its contents mean
  abbrev pub next_by : Bool → Outcome A → List A → Outcome A
  next_by own o before = pick own (and_then o (λ a. judged (repeats s a before ⇒ Refusal.Repeated ∷ []) a)) (Err Refusal.OtherElement)

  pub next_is : (id : ℕ) (c : List ℕ) (hs : Handed) (before : List A) → next_in s (more id c hs) before ≡ next_by (eqb id s.id) (s.means c) before
  unfolding next_in required checked
  next_is id c hs before = by (eqb id s.id)
    where
      by : (own : Bool)
          → and_then {A = Standing} (checked (not own ⇒ Refusal.OtherElement ∷ []) (Ok (record { contents = c; rest = hs })))
          (λ e. and_then (s.means e.contents) (λ a. judged (repeats s a before ⇒ Refusal.Repeated ∷ []) a))
          ≡ next_by own (s.means c) before
      by true = refl
      by false = refl

module _ {A : Type 0} (s : Sort A) (reads : (c d : List ℕ) → AlikeBut (reserved_in s.id c) c d → s.means c ≡ s.means d) where
  next_alike : (x y : Item) (hs gs : Handed) (before : List A) → x.id ≡ y.id
      → AlikeBut (reserved_in x.id x.contents) x.contents y.contents
      → next_in s (more x.id x.contents hs) before ≡ next_in s (more y.id y.contents gs) before
  next_alike x y hs gs before same a =
      next_is s x.id x.contents hs before ∙ by (eqb x.id s.id) refl
      ∙ ap (λ (n : ℕ). next_by s (eqb n s.id) (s.means y.contents) before) same
      ∙ sym (next_is s y.id y.contents gs before)
    where
      by : (own : Bool) → eqb x.id s.id ≡ own → next_by s own (s.means x.contents) before ≡ next_by s own (s.means y.contents) before
      by true e =
          ap (λ (o : Outcome A). next_by s true o before)
          (reads x.contents y.contents (subst (λ (n : ℕ). AlikeBut (reserved_in n x.contents) x.contents y.contents) (eqb-true x.id s.id e) a))
      by false e = refl

  -- an element that is handed out, and what follows it read the same
  more_alike : (n : ℕ) (x y : Item) (hs gs : Handed) (before : List A) → x.id ≡ y.id
      → AlikeBut (reserved_in x.id x.contents) x.contents y.contents
      → ((later : List A) → listed s (past_element n y.contents) hs later ≡ listed s (past_element n y.contents) gs later)
      → listed s n (more x.id x.contents hs) before ≡ listed s n (more y.id y.contents gs) before
  unfolding listed
  more_alike n x y hs gs before same a rest =
      ap (λ (o : Outcome A). and_then (placed_at n o) (λ v. listed s (past_element n x.contents) hs (before ++ (v ∷ [])))) (next_alike x y hs gs before same a)
      ∙ ap (λ (k : ℕ). and_then (placed_at n (next_in s (more y.id y.contents gs) before)) (λ v. listed s (n + 2 + k) hs (before ++ (v ∷ [])))) a.as_long
      ∙ then_alike (placed_at n (next_in s (more y.id y.contents gs) before)) _ _ (λ v e. rest (before ++ (v ∷ [])))

  listed_alike : (n : ℕ) (xs ys : List Item) (es : Elements) → ItemsAlike xs ys → (before : List A)
      → listed s n (passing (walked_as xs es)) before ≡ listed s n (passing (walked_as ys es)) before
  unfolding listed passing walked_as
  listed_alike n [] [] es a before = refl
  listed_alike n [] (y ∷ ys) es a before = absurd a
  listed_alike n (x ∷ xs) [] es a before = absurd a
  listed_alike n (x ∷ xs) (y ∷ ys) es a before =
      by (eqb x.id vendor_id) (eqb y.id vendor_id) (ap (λ (k : ℕ). eqb k vendor_id) a.0) (listed_alike (past_element n y.contents) xs ys es a.2)
    where
      by : (t u : Bool) → t ≡ u
          → ((b : List A) → listed s (past_element n y.contents) (passing (walked_as xs es)) b ≡ listed s (past_element n y.contents) (passing (walked_as ys es)) b)
          → listed s n (pick t (passed x.contents (passing (walked_as xs es))) (more x.id x.contents (passing (walked_as xs es)))) before
          ≡ listed s n (pick u (passed y.contents (passing (walked_as ys es))) (more y.id y.contents (passing (walked_as ys es)))) before
      by true true e rest = ap (λ (k : ℕ). listed s (n + 2 + k) (passing (walked_as xs es)) before) a.1.as_long ∙ rest before
      by true false e rest = clash e
      by false true e rest = clash (sym e)
      by false false e rest = more_alike n x y (passing (walked_as xs es)) (passing (walked_as ys es)) before a.0 a.1 rest

  first_alike : (n : ℕ) (xs ys : List Item) (es : Elements) → ItemsAlike xs ys → listed s n (handing (walked_as xs es)) [] ≡ listed s n (handing (walked_as ys es)) []
  unfolding handing walked_as
  first_alike n [] [] es a = refl
  first_alike n [] (y ∷ ys) es a = absurd a
  first_alike n (x ∷ xs) [] es a = absurd a
  first_alike n (x ∷ xs) (y ∷ ys) es a =
      more_alike n x y (passing (walked_as xs es)) (passing (walked_as ys es)) [] a.0 a.1 (listed_alike (past_element n y.contents) xs ys es a.2)

  runs_alike : (run other : List ℕ) → RunsAlike run other → measurements_in s run ≡ measurements_in s other
  unfolding measurements_in
  runs_alike run other r =
      ap (λ (es : Elements). listed s fixed_fields (handing es) []) (ap elements_in r.octets ∙ walk_front r.items r.rest)
      ∙ first_alike fixed_fields r.items r.others (elements_in r.rest) r.alike
      ∙ ap (λ (es : Elements). listed s fixed_fields (handing es) []) (sym (ap elements_in r.other_octets ∙ walk_front r.others r.rest))

-- ---- both kinds

contents_ignored : (k : Kind) (c d : List ℕ) → AlikeBut (reserved_in (sort_of k).id c) c d → (sort_of k).means c ≡ (sort_of k).means d
contents_ignored Kind.Requests c d a = request_ignored c d a
contents_ignored Kind.Reports c d a = report_ignored c d a

pub measurements_ignored : (k : Kind) (run other : List ℕ) → RunsAlike run other → measurements_in (sort_of k) run ≡ measurements_in (sort_of k) other
measurements_ignored k = runs_alike (sort_of k) (contents_ignored k)

-- ---- bodies

laid_as_long : (xs ys : List Item) → ItemsAlike xs ys → length (laid xs) ≡ length (laid ys)
unfolding laid
laid_as_long [] [] a = refl
laid_as_long [] (y ∷ ys) a = absurd a
laid_as_long (x ∷ xs) [] a = absurd a
laid_as_long (x ∷ xs) (y ∷ ys) a =
    let n = laid_as_long xs ys a.2 in
    omega (arith, a.1.as_long, length-append x.contents (laid xs), length-append y.contents (laid ys))

pub runs_as_long : (run other : List ℕ) → RunsAlike run other → length run ≡ length other
runs_as_long run other r =
    ap length r.octets ∙ length-append (laid r.items) r.rest
    ∙ ap (λ (n : ℕ). n + length r.rest) (laid_as_long r.items r.others r.alike)
    ∙ sym (ap length r.other_octets ∙ length-append (laid r.others) r.rest)

-- how a measurement body opens
abbrev opening : ℕ → ℕ → Placed Opening
opening action token = judged (forbids_token action token ⇒ fault_at token_field Refusal.ForbiddenValue ∷ []) (Opening.Token action token)

opened : (action token : ℕ) (run : List ℕ) → action ≤ 1 → opens_with (0 ∷ action ∷ token ∷ run) ≡ opening action token
unfolding opens_with checked
opened action token run h =
    let n = length (0 ∷ action ∷ token ∷ run) in
    simp (le-ltb n 1 (omega arith), le-ltb n 2 (omega arith), le-ltb 4 action (omega arith), ne_eqb action 4 (omega arith), le-ltb n 3 (omega arith))

after_alike : (action token : ℕ) (run other : List ℕ) → action ≤ 1 → RunsAlike run other
    → after_opening (0 ∷ action ∷ token ∷ run) (Opening.Token action token) ≡ after_opening (0 ∷ action ∷ token ∷ other) (Opening.Token action token)
after_alike zero token run other h r = ap (λ o. and_then o (λ l. Ok (requests token l))) (measurements_ignored Kind.Requests run other r)
after_alike (suc zero) token run other h r = ap (λ o. and_then o (λ l. Ok (reports token l))) (measurements_ignored Kind.Reports run other r)
after_alike (suc (suc n)) token run other h r = absurd (omega arith)

module _ (body other : List ℕ) (m : MeasurementsAlike body other) where
  abbrev with_run : List ℕ → List ℕ
  with_run run = 0 ∷ m.action ∷ m.token ∷ run

  opens : (os run : List ℕ) → os ≡ with_run run
      → and_then (opens_with os) (after_opening os) ≡ and_then (opening m.action m.token) (after_opening (with_run run))
  opens os run e =
      ap (λ (x : List ℕ). and_then (opens_with x) (after_opening x)) e
      ∙ ap (λ (o : Placed Opening). and_then o (after_opening (with_run run))) (opened m.action m.token run m.measures)

  after : (o : Opening) → opening m.action m.token ≡ Ok o → after_opening (with_run m.run) o ≡ after_opening (with_run m.other_run) o
  after o e =
      subst (λ (x : Opening). after_opening (with_run m.run) x ≡ after_opening (with_run m.other_run) x) (kept _ (Judged.passed _ _ _ e).1)
      (after_alike m.action m.token m.run m.other_run m.measures m.alike)

  pub action_ignored : action_means body ≡ action_means other
  unfolding action_means
  action_ignored =
      opens body m.run m.octets ∙ then_alike (opening m.action m.token) _ _ after ∙ sym (opens other m.other_run m.other_octets)
