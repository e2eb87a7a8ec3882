-- An action body with vendors' elements reads as the same body with them taken out: every field, the number of elements and each by its index; a refusal is the same,
-- and its place counts the octets that were passed over (02, Four). Assumes nothing.
use Rattle.std.specs.Prelude.{Ok, Err}
use mathlib.Core.Bool.{Bool, true, false, not}
use mathlib.Core.List.{List, [], ◌∷◌, ◌++◌, append_cancel_left}
use mathlib.Core.Logic.{◌↔◌}
use mathlib.Core.Path.{◌≡◌, refl, sym, ap, subst, ◌∙◌}
use Prim.Native.Nat.{ℕ, ◌+◌, ◌-◌}
use native.Mathlib.Omega.{arith}
use borrow.Author.Tests.{lt-ltb, le-ltb}
use lib.Dec.{ltb, eqb}
use lib.ListN.{length}
use Rattle.action.specs.Openings.{fixed_fields, switch_fixed_fields}
use Rattle.answer.proofs.Judged.{never}
use Rattle.answer.specs.Checks.{Outcome, pick, checked, and_then}
use Rattle.answer.specs.Faults.{fault_at, Placed, placed_at}
use Rattle.answer.specs.declared.Refusal.{Refusal}
use Rattle.element.specs.ChannelSwitch.{switch_means}
use Rattle.element.specs.TpcReport.{tpc_report_means}
use Rattle.element.specs.TpcRequest.{tpc_request_means}
use Rattle.frame.proofs.ActionParts.{lead, Holds, reads, parts}
use Rattle.frame.specs.Actions.{Body, requests, reports, tpc_request, tpc_report, switch, action_means}
use Rattle.measurement_body.specs.Lists.{Sort, next_in, listed, measurements_in}
use Rattle.measurement_body.specs.Reports.{report_sort}
use Rattle.measurement_body.specs.Requests.{request_sort}
use Rattle.single_body.specs.Singles.{single}
use Rattle.walk.specs.Elements.{Elements, elements_in, past_element}
use Rattle.walk.specs.Elements as Raw
use Rattle.walk.specs.Handed.{Handed, end, cut_header, cut_contents, more, passed, cut_passed, vendor_id, passing, handing, handed_in}
use Rattle.walk.specs.Required.{Standing, required, nothing_left}
use Rattle.claims.specs.Filters.{Item, not_of_id, walked_as}
use Rattle.claims.specs.TakenOut.{without_vendors, TakenOut, size_of, vendor_octets, skipped_octets, ReadAlike}
use Rattle.claims.proofs.MeasurementsIgnored.{next_is}
use Rattle.claims.proofs.RunItems.{walk_front}

-- ---- places

-- nothing is skipped
abbrev nothing : ℕ → ℕ
nothing d = 0

-- what is at fault at once
at_once_lem : (A : Type 0) (skipped : ℕ → ℕ) (n m : ℕ) (r : Refusal) → skipped 0 ≡ 0 → ReadAlike {A = A} skipped n m (Err (fault_at n r)) (Err (fault_at m r))
unfolding ReadAlike
at_once_lem A skipped n m r e =
    let here : (k : ℕ) → fault_at k r ≡ fault_at (k + 0) r = λ k. ap (λ (j : ℕ). fault_at j r) (let z : k ≡ k + 0 = omega arith in z) in
    (0, 0, r, here n, here m, omega (arith, e))

module _ {A : Type 0} (skipped : ℕ → ℕ) (n m : ℕ) where
  -- what is read
  read_same : (a : A) → ReadAlike skipped n m (Ok a) (Ok a)
  unfolding ReadAlike
  read_same a = refl

  -- what is read so many octets further in the one, and in the other
  further : (later : ℕ → ℕ) (i j n' m' : ℕ) (o p : Placed A) → ReadAlike later n' m' o p → n' ≡ n + i → m' ≡ m + j → ((d : ℕ) → skipped (i + d) + j ≡ i + later d)
      → ReadAlike skipped n m o p
  unfolding ReadAlike
  further later i j n' m' (Ok a) (Ok b) e ni mj h = e
  further later i j n' m' (Ok a) (Err y) e ni mj h = e
  further later i j n' m' (Err z) (Ok b) e ni mj h = e
  further later i j n' m' (Err z) (Err y) (d, k, r, e, f, g) ni mj h = (
    i + d,
    j + k,
    r,
    e ∙ ap (λ (q : ℕ). fault_at q r) (let w : n' + d ≡ n + (i + d) = omega arith in w),
    f ∙ ap (λ (q : ℕ). fault_at q r) (let w : m' + k ≡ m + (j + k) = omega arith in w),
    omega (arith, g, h d),
  )

module _ (x : Item) (xs : List Item) where
  short : ltb 0 (size_of x) ≡ true
  short = lt-ltb 0 (size_of x) (omega arith)

  beyond : (d : ℕ) → ltb (size_of x + d) (size_of x) ≡ false
  beyond d = le-ltb (size_of x + d) (size_of x) (omega arith)

  left : (d : ℕ) → size_of x + d - size_of x ≡ d
  left d = omega arith

  none_yet : vendor_octets (x ∷ xs) 0 ≡ 0
  unfolding vendor_octets
  none_yet = simp short

  vendors_past : (t : Bool) → eqb x.id vendor_id ≡ t → (d : ℕ) → vendor_octets (x ∷ xs) (size_of x + d) ≡ pick t (size_of x) 0 + vendor_octets xs d
  unfolding vendor_octets
  vendors_past t e d = simp (beyond d, e) (ap (λ (k : ℕ). pick t (size_of x) 0 + vendor_octets xs k) (left d))

  none_first : skipped_octets (x ∷ xs) 0 ≡ 0
  unfolding skipped_octets
  none_first = simp short

  skipped_past : (d : ℕ) → skipped_octets (x ∷ xs) (size_of x + d) ≡ vendor_octets xs d
  unfolding skipped_octets
  skipped_past d = simp (beyond d) (ap (vendor_octets xs) (left d))

-- ---- measurements

module _ {A : Type 0} (s : Sort A) where
  -- an element that is handed out is read the same, whatever follows it
  module _ (skipped later : ℕ → ℕ) (id : ℕ) (c : List ℕ) (hs gs : Handed) (n m : ℕ) (before : List A) (none : skipped 0 ≡ 0)
      (past : (d : ℕ) → skipped (2 + length c + d) + (2 + length c) ≡ 2 + length c + later d)
      (rest : (b : List A) → ReadAlike later (past_element n c) (past_element m c) (listed s (past_element n c) hs b) (listed s (past_element m c) gs b)) where
    by_next : (o : Outcome A)
        → ReadAlike skipped n m
        (and_then (placed_at n o) (λ a. listed s (past_element n c) hs (before ++ (a ∷ []))))
        (and_then (placed_at m o) (λ a. listed s (past_element m c) gs (before ++ (a ∷ []))))
    by_next (Err r) = at_once_lem _ skipped n m r none
    by_next (Ok a) = further skipped n m later (2 + length c) (2 + length c) _ _ _ _ (rest (before ++ (a ∷ []))) (omega arith) (omega arith) past

    more_alike : ReadAlike skipped n m (listed s n (more id c hs) before) (listed s m (more id c gs) before)
    unfolding listed
    more_alike =
        subst
        (λ (o : Outcome A). ReadAlike skipped n m
        (and_then (placed_at n (next_in s (more id c hs) before)) (λ a. listed s (past_element n c) hs (before ++ (a ∷ []))))
        (and_then (placed_at m o) (λ a. listed s (past_element m c) gs (before ++ (a ∷ [])))))
        (next_is s id c hs before ∙ sym (next_is s id c gs before))
        (by_next (next_in s (more id c hs) before))

  -- what is the last thing there is
  alone : (n m : ℕ) (make : A → List A) (o : Outcome A) → ReadAlike nothing n m (and_then (placed_at n o) (λ a. Ok (make a))) (and_then (placed_at m o) (λ a. Ok (make a)))
  alone n m make (Err r) = at_once_lem _ nothing n m r refl
  alone n m make (Ok a) = read_same nothing n m (make a)

  -- the same octets from two places on
  shifted : (hs : Handed) (n m : ℕ) (before : List A) → ReadAlike nothing n m (listed s n hs before) (listed s m hs before)
  unfolding listed
  shifted end n m before = by (eqb (length before) 0)
    where
      by : (t : Bool)
          → ReadAlike nothing n m
          (pick t (and_then (placed_at n (next_in s end before)) (λ a. Ok (a ∷ []))) (Ok before))
          (pick t (and_then (placed_at m (next_in s end before)) (λ a. Ok (a ∷ []))) (Ok before))
      by true = alone n m (λ a. a ∷ []) (next_in s end before)
      by false = read_same nothing n m before
  shifted cut_header n m before = alone n m (λ a. before ++ (a ∷ [])) (next_in s cut_header before)
  shifted (cut_contents id) n m before = alone n m (λ a. before ++ (a ∷ [])) (next_in s (cut_contents id) before)
  shifted (more id c hs) n m before =
      more_alike nothing nothing id c hs hs n m before refl (λ d. omega arith) (shifted hs (past_element n c) (past_element m c))
  shifted (passed c hs) n m before =
      further nothing n m nothing (2 + length c) (2 + length c) _ _ _ _ (shifted hs (past_element n c) (past_element m c) before) (omega arith) (omega arith) (λ d. omega arith)
  shifted cut_passed n m before = alone n m (λ a. before ++ (a ∷ [])) (next_in s cut_passed before)

  -- the elements after the first
  later_alike : (xs : List Item) (es : Elements) (n m : ℕ) (before : List A)
      → ReadAlike (vendor_octets xs) n m (listed s n (passing (walked_as xs es)) before) (listed s m (passing (walked_as (not_of_id vendor_id xs) es)) before)
  unfolding listed passing walked_as not_of_id
  later_alike [] es n m before = unfold vendor_octets in shifted (passing es) n m before
  later_alike (x ∷ xs) es n m before = by (eqb x.id vendor_id) refl (later_alike xs es (past_element n x.contents))
    where
      by : (t : Bool) → eqb x.id vendor_id ≡ t
          → ((k : ℕ) (b : List A)
          → ReadAlike (vendor_octets xs) (past_element n x.contents) k
          (listed s (past_element n x.contents) (passing (walked_as xs es)) b) (listed s k (passing (walked_as (not_of_id vendor_id xs) es)) b))
          → ReadAlike (vendor_octets (x ∷ xs)) n m
          (listed s n (pick t (passed x.contents (passing (walked_as xs es))) (more x.id x.contents (passing (walked_as xs es)))) before)
          (listed s m (passing (walked_as (pick t (not_of_id vendor_id xs) (x ∷ not_of_id vendor_id xs)) es)) before)
      by true v on =
          further (vendor_octets (x ∷ xs)) n m (vendor_octets xs) (size_of x) 0 _ _ _ _ (on m before) (omega arith) (omega arith) (λ d. omega (arith, vendors_past x xs true v d))
      by false v on =
          subst
          (λ (t : Bool). ReadAlike (vendor_octets (x ∷ xs)) n m
          (listed s n (more x.id x.contents (passing (walked_as xs es))) before)
          (listed s m (pick t (passed x.contents (passing (walked_as (not_of_id vendor_id xs) es))) (more x.id x.contents (passing (walked_as (not_of_id vendor_id xs) es)))) before))
          (sym v)
          (more_alike (vendor_octets (x ∷ xs)) (vendor_octets xs) x.id x.contents (passing (walked_as xs es)) (passing (walked_as (not_of_id vendor_id xs) es)) n m before
          (none_yet x xs) (λ d. omega (arith, vendors_past x xs false v d)) (on (past_element m x.contents)))

  first_alike : (xs : List Item) (es : Elements) (n : ℕ)
      → ReadAlike (skipped_octets xs) n n (listed s n (handing (walked_as xs es)) []) (listed s n (handing (walked_as (without_vendors xs) es)) [])
  unfolding handing walked_as
  first_alike [] es n = unfold skipped_octets in shifted (handing es) n n []
  first_alike (x ∷ xs) es n =
      more_alike (skipped_octets (x ∷ xs)) (vendor_octets xs) x.id x.contents (passing (walked_as xs es)) (passing (walked_as (not_of_id vendor_id xs) es)) n n []
      (none_first x xs) (λ d. omega (arith, skipped_past x xs d)) (later_alike xs es (past_element n x.contents) (past_element n x.contents))

  -- the measurements of a body
  pub measurements_taken_out : (run other : List ℕ) (t : TakenOut run other)
      → ReadAlike (skipped_octets t.items) fixed_fields fixed_fields (measurements_in s run) (measurements_in s other)
  unfolding measurements_in
  measurements_taken_out run other t =
      let is = ap elements_in t.octets ∙ walk_front t.items t.rest in
      let others = ap elements_in t.other_octets ∙ walk_front (without_vendors t.items) t.rest in
      subst
      (λ (es : Elements). ReadAlike (skipped_octets t.items) fixed_fields fixed_fields (listed s fixed_fields (handing es) []) (listed s fixed_fields (handed_in other) []))
      (sym is)
      (subst
      (λ (es : Elements). ReadAlike (skipped_octets t.items) fixed_fields fixed_fields (listed s fixed_fields (handing (walked_as t.items (elements_in t.rest))) []) (listed s fixed_fields (handing es) []))
      (sym others)
      (first_alike t.items (elements_in t.rest) fixed_fields))

-- ---- one element

module _ {A : Type 0} (id : ℕ) (means : List ℕ → Outcome A) where
  left_shifted : (hs : Handed) (n m : ℕ) (a : A) → ReadAlike nothing n m (nothing_left n hs a) (nothing_left m hs a)
  unfolding nothing_left
  left_shifted end n m a = read_same nothing n m a
  left_shifted cut_header n m a = at_once_lem _ nothing n m Refusal.LeftOver refl
  left_shifted (cut_contents i) n m a = at_once_lem _ nothing n m Refusal.LeftOver refl
  left_shifted (more i c hs) n m a = at_once_lem _ nothing n m Refusal.LeftOver refl
  left_shifted (passed c hs) n m a =
      further nothing n m nothing (2 + length c) (2 + length c) _ _ _ _ (left_shifted hs (past_element n c) (past_element m c) a) (omega arith) (omega arith) (λ d. omega arith)
  left_shifted cut_passed n m a = at_once_lem _ nothing n m Refusal.ElementCut refl

  left_alike : (xs : List Item) (es : Elements) (n m : ℕ) (a : A)
      → ReadAlike (vendor_octets xs) n m (nothing_left n (passing (walked_as xs es)) a) (nothing_left m (passing (walked_as (not_of_id vendor_id xs) es)) a)
  unfolding nothing_left passing walked_as not_of_id
  left_alike [] es n m a = unfold vendor_octets in left_shifted (passing es) n m a
  left_alike (x ∷ xs) es n m a = by (eqb x.id vendor_id) refl (left_alike xs es (past_element n x.contents) m a)
    where
      by : (t : Bool) → eqb x.id vendor_id ≡ t
          → ReadAlike (vendor_octets xs) (past_element n x.contents) m
          (nothing_left (past_element n x.contents) (passing (walked_as xs es)) a) (nothing_left m (passing (walked_as (not_of_id vendor_id xs) es)) a)
          → ReadAlike (vendor_octets (x ∷ xs)) n m
          (nothing_left n (pick t (passed x.contents (passing (walked_as xs es))) (more x.id x.contents (passing (walked_as xs es)))) a)
          (nothing_left m (passing (walked_as (pick t (not_of_id vendor_id xs) (x ∷ not_of_id vendor_id xs)) es)) a)
      by true v on =
          further (vendor_octets (x ∷ xs)) n m (vendor_octets xs) (size_of x) 0 _ _ _ _ on (omega arith) (omega arith) (λ d. omega (arith, vendors_past x xs true v d))
      by false v on =
          subst
          (λ (t : Bool). ReadAlike (vendor_octets (x ∷ xs)) n m
          (Err (fault_at n Refusal.LeftOver))
          (nothing_left m (pick t (passed x.contents (passing (walked_as (not_of_id vendor_id xs) es))) (more x.id x.contents (passing (walked_as (not_of_id vendor_id xs) es)))) a))
          (sym v)
          (at_once_lem _ (vendor_octets (x ∷ xs)) n m Refusal.LeftOver (none_yet x xs))

  module _ (n : ℕ) where
    -- the element in front, whatever follows it
    single_by : (skipped later : ℕ → ℕ) (i : ℕ) (c : List ℕ) (hs gs : Handed) → skipped 0 ≡ 0 → ((d : ℕ) → skipped (2 + length c + d) + (2 + length c) ≡ 2 + length c + later d)
        → ((a : A) → ReadAlike later (past_element n c) (past_element n c) (nothing_left (past_element n c) hs a) (nothing_left (past_element n c) gs a))
        → ReadAlike skipped n n (single n id means (more i c hs)) (single n id means (more i c gs))
    unfolding single required checked
    single_by skipped later i c hs gs none past rest = by (eqb i id)
      where
        read : (o : Outcome A)
            → ReadAlike skipped n n
            (and_then (placed_at n o) (nothing_left (past_element n c) hs)) (and_then (placed_at n o) (nothing_left (past_element n c) gs))
        read (Err r) = at_once_lem _ skipped n n r none
        read (Ok a) = further skipped n n later (2 + length c) (2 + length c) _ _ _ _ (rest a) (omega arith) (omega arith) past

        by : (t : Bool)
            → ReadAlike skipped n n
            (and_then {A = Standing} (placed_at n (pick (not t) (Err Refusal.OtherElement) (Ok (record { contents = c; rest = hs }))))
            (λ s. and_then (placed_at n (means s.contents)) (nothing_left (past_element n s.contents) s.rest)))
            (and_then {A = Standing} (placed_at n (pick (not t) (Err Refusal.OtherElement) (Ok (record { contents = c; rest = gs }))))
            (λ s. and_then (placed_at n (means s.contents)) (nothing_left (past_element n s.contents) s.rest)))
        by true = read (means c)
        by false = at_once_lem _ skipped n n Refusal.OtherElement none

    -- the same octets
    same_single : (es : Elements) → ReadAlike nothing n n (single n id means (handing es)) (single n id means (handing es))
    unfolding single required checked handing
    same_single Raw.end = at_once_lem _ nothing n n Refusal.ElementAbsent refl
    same_single (Raw.cut_header o) = at_once_lem _ nothing n n Refusal.ElementCut refl
    same_single (Raw.cut_contents i) = by (not (eqb i id))
      where
        by : (t : Bool)
            → ReadAlike nothing n n
            (and_then {A = Standing} (placed_at n (pick t (Err Refusal.OtherElement) (Err Refusal.ElementCut)))
            (λ s. and_then (placed_at n (means s.contents)) (nothing_left (past_element n s.contents) s.rest)))
            (and_then {A = Standing} (placed_at n (pick t (Err Refusal.OtherElement) (Err Refusal.ElementCut)))
            (λ s. and_then (placed_at n (means s.contents)) (nothing_left (past_element n s.contents) s.rest)))
        by true = at_once_lem _ nothing n n Refusal.OtherElement refl
        by false = at_once_lem _ nothing n n Refusal.ElementCut refl
    same_single (Raw.more i c es) =
        single_by nothing nothing i c (passing es) (passing es) refl (λ d. omega arith) (left_shifted (passing es) (past_element n c) (past_element n c))

    alike_single : (xs : List Item) (es : Elements)
        → ReadAlike (skipped_octets xs) n n (single n id means (handing (walked_as xs es))) (single n id means (handing (walked_as (without_vendors xs) es)))
    unfolding handing walked_as
    alike_single [] es = unfold skipped_octets in same_single es
    alike_single (x ∷ xs) es =
        single_by (skipped_octets (x ∷ xs)) (vendor_octets xs) x.id x.contents (passing (walked_as xs es)) (passing (walked_as (not_of_id vendor_id xs) es))
        (none_first x xs) (λ d. omega (arith, skipped_past x xs d)) (left_alike xs es (past_element n x.contents) (past_element n x.contents))

    -- the element of a body that has one
    pub single_taken_out : (run other : List ℕ) (t : TakenOut run other)
        → ReadAlike (skipped_octets t.items) n n (single n id means (handed_in run)) (single n id means (handed_in other))
    single_taken_out run other t =
        let is = ap elements_in t.octets ∙ walk_front t.items t.rest in
        let others = ap elements_in t.other_octets ∙ walk_front (without_vendors t.items) t.rest in
        subst
        (λ (es : Elements). ReadAlike (skipped_octets t.items) n n (single n id means (handing es)) (single n id means (handed_in other)))
        (sym is)
        (subst
        (λ (es : Elements). ReadAlike (skipped_octets t.items) n n (single n id means (handing (walked_as t.items (elements_in t.rest)))) (single n id means (handing es)))
        (sym others)
        (alike_single t.items (elements_in t.rest)))

-- what is left of an accepted body after its fixed fields holds its records
held : (b : Body) (run : List ℕ) → action_means (lead b ++ run) ≡ Ok b → Holds b run
held b run e = let p = parts (lead b ++ run) b e in subst (Holds b) (append_cancel_left (lead b) p.run run (sym p.front)) p.holds

with_token : {P A B : Type 0} → A ↔ B → (P × A) ↔ (P × B)
with_token f = (λ x. (x.0, f.0 x.1), λ x. (x.0, f.1 x.1))

-- ---- a whole body: it is accepted with them as what it is accepted as without them, and only so

same_value : {A : Type 0} (skipped : ℕ → ℕ) (n m : ℕ) (o p : Placed A) (a : A) → ReadAlike skipped n m o p → (o ≡ Ok a) ↔ (p ≡ Ok a)
unfolding ReadAlike
same_value skipped n m (Ok b) (Ok c) a e = (λ f. ap Ok (sym e) ∙ f, λ f. ap Ok e ∙ f)
same_value skipped n m (Ok b) (Err y) a e = absurd e
same_value skipped n m (Err x) (Ok c) a e = absurd e
same_value skipped n m (Err x) (Err y) a e = (λ f. absurd (never f), λ f. absurd (never f))

module _ (run other : List ℕ) (t : TakenOut run other) where
  holds_alike : (b : Body) → Holds b run ↔ Holds b other
  holds_alike (requests token rs) = with_token (same_value _ _ _ _ _ rs (measurements_taken_out request_sort run other t))
  holds_alike (reports token rs) = same_value _ _ _ _ _ rs (measurements_taken_out report_sort run other t)
  holds_alike (tpc_request token) = with_token (same_value _ _ _ _ _ tt (single_taken_out 34 tpc_request_means fixed_fields run other t))
  holds_alike (tpc_report token r) = same_value _ _ _ _ _ r (single_taken_out 35 tpc_report_means fixed_fields run other t)
  holds_alike (switch s) = same_value _ _ _ _ _ s (single_taken_out 37 switch_means switch_fixed_fields run other t)

  pub taken_out : (b : Body) → (action_means (lead b ++ run) ≡ Ok b) ↔ (action_means (lead b ++ other) ≡ Ok b)
  taken_out b = (λ e. reads other b ((holds_alike b).0 (held b run e)), λ e. reads run b ((holds_alike b).1 (held b other e)))
