-- The elements before the one at fault are accepted: of a beacon, of a list of measurements, and of a body of one element. Assumes nothing.
use Rattle.std.specs.Prelude.{Ok, Err, Result}
use mathlib.Core.Bool.{Bool, true, false}
use mathlib.Core.List.{List, [], ◌∷◌, ◌++◌}
use mathlib.Core.Path.{◌≡◌, refl, sym, ap, ◌∙◌}
use Prim.Native.Nat.{ℕ, ◌+◌, ◌<◌}
use native.Mathlib.Omega.{arith}
use borrow.Author.Tests.{ne_eqb}
use lib.Dec.{eqb}
use lib.ListN.{length, take, length-append}
use Rattle.action.specs.Openings.{fixed_fields}
use Rattle.answer.proofs.Judged.{never}
use Rattle.answer.proofs.Placing.{placed_value}
use Rattle.answer.specs.Checks.{Outcome, pick, and_then}
use Rattle.answer.specs.Faults.{fault_at, Placed, placed_at}
use Rattle.answer.specs.declared.Refusal.{Refusal}
use Rattle.beacon.specs.Beacons.{Told, takes, says}
use Rattle.measurement_body.specs.Lists.{Sort, next_in, listed, measurements_in}
use Rattle.octets.specs.Elements.{element}
use Rattle.single_body.specs.Singles.{single}
use Rattle.walk.proofs.Passing.{none_handed, none_passing, handed_raw}
use Rattle.walk.proofs.Requiring.{whole, there}
use Rattle.walk.proofs.RunLaws.{none, split}
use Rattle.walk.specs.Elements.{Elements, elements_in, past_element}
use Rattle.walk.specs.Elements as Raw
use Rattle.walk.specs.Handed.{Handed, end, cut_header, cut_contents, more, passed, cut_passed, vendor_id, passing, handing, passing_in, handed_in}
use Rattle.walk.specs.Required.{required, nothing_left}
use Rattle.claims.proofs.Cut.{element_kept, handed_kept, passing_kept}
use Rattle.claims.proofs.MeasurementsIgnored.{next_is}
use Rattle.claims.proofs.RefusedAt.{refused_by, made_refused, same_place, at_place}

-- something is accepted, whatever the value
abbrev pub Accepts : {R A : Type 0} → Result A R → Type 0
Accepts {R} {A} o = (a : A) × (o ≡ Ok a)

-- a place in a run that has n octets before it: so many of the run's own stand before the place, and of those something holds
pub record Reached (n p : ℕ) (P : ℕ → Type 0) : Type 0 where
  pub own : ℕ
  pub place : p ≡ n + own
  pub holds : P own

-- at the run's first octet
at_once_lem : {n p : ℕ} {P : ℕ → Type 0} → p ≡ n → P 0 → Reached n p P
at_once_lem e h = record { own = 0; place = omega (arith, e); holds = h }

-- ---- a beacon or a probe response

module _ (b : ℕ) where
  abbrev SaysFirst : ℕ → List ℕ → Told → ℕ → Type 0
  SaysFirst n run t k = Accepts (says (takes b) n (elements_in (take k run)) t)

  says_none : (n : ℕ) (run : List ℕ) (t : Told) → SaysFirst n run t 0
  unfolding says
  says_none n run t = (t, ap (λ (es : Elements). says (takes b) n es t) none)

  pub says_before : (es : Elements) (n : ℕ) (run : List ℕ) (t : Told) (p : ℕ) (r : Refusal) → elements_in run ≡ es → says (takes b) n es t ≡ Err (fault_at p r)
      → Reached n p (SaysFirst n run t)
  unfolding says
  says_before Raw.end n run t p r e g = absurd (never (sym g))
  says_before (Raw.cut_header o) n run t p r e g = at_once_lem (same_place n p Refusal.ElementCut r cc) (says_none n run t)
  says_before (Raw.cut_contents id) n run t p r e g = at_once_lem (same_place n p Refusal.ElementCut r cc) (says_none n run t)
  says_before (Raw.more id c es) n run t p r e g =
      refused_by (placed_at n (takes b id c t)) _ g
      (λ f. at_once_lem (at_place p r n (takes b id c t) f) (says_none n run t))
      (λ u took f.
      let y = split run id c es e in
      let later = says_before es (past_element n c) y.rest u p r y.after f in
      record {
        own = length (element id c) + later.own;
        place = omega (arith, later.place);
        holds = (
          later.holds.0,
          ap (λ (x : Elements). says (takes b) n x t) (element_kept run id c es e later.own)
              ∙ ap (λ (o : Placed Told). and_then o (says (takes b) (past_element n c) (elements_in (take later.own y.rest)))) took
              ∙ later.holds.1,
        );
      })

-- ---- measurements

module _ {A : Type 0} (s : Sort A) where
  -- after a measurement the first k octets of a run are accepted
  abbrev ListsLater : ℕ → List ℕ → List A → ℕ → Type 0
  ListsLater n run before k = Accepts (listed s n (passing_in (take k run)) before)

  -- as a whole run they are accepted where they are any
  abbrev ListsFirst : ℕ → List ℕ → ℕ → Type 0
  ListsFirst n run k = 0 < k → Accepts (listed s n (handed_in (take k run)) [])

  no_more : (n : ℕ) (run : List ℕ) (before : List A) → 0 < length before → ListsLater n run before 0
  unfolding listed
  no_more n run before some =
      let came : eqb (length before) 0 ≡ false = ne_eqb (length before) 0 (λ e. omega arith) in
      (before, ap (λ (hs : Handed). listed s n hs before) none_passing ∙ simp came)

  -- what has to come next is at fault
  next_at : (n p : ℕ) (r : Refusal) (hs : Handed) (before : List A) (make : A → List A)
      → and_then (placed_at n (next_in s hs before)) (λ a. Ok (make a)) ≡ Err (fault_at p r) → p ≡ n
  next_at n p r hs before make g = at_place p r n (next_in s hs before) (made_refused (placed_at n (next_in s hs before)) make g)

  -- an element that is handed out: it is at fault, or what follows it
  element_before : (P : ℕ → Type 0) (id : ℕ) (c : List ℕ) (hs : Handed) (n : ℕ) (rest : List ℕ) (before : List A) (p : ℕ) (r : Refusal) → P 0
      → ((k : ℕ) → Accepts (listed s n (more id c (passing_in (take k rest))) before) → P (length (element id c) + k))
      → ((b : List A) → 0 < length b → listed s (past_element n c) hs b ≡ Err (fault_at p r) → Reached (past_element n c) p (ListsLater (past_element n c) rest b))
      → listed s n (more id c hs) before ≡ Err (fault_at p r) → Reached n p P
  unfolding listed
  element_before P id c hs n rest before p r zero some later g =
      refused_by (placed_at n (next_in s (more id c hs) before)) _ g
      (λ f. at_once_lem (at_place p r n (next_in s (more id c hs) before) f) zero)
      (λ a came f.
      let x = later (before ++ (a ∷ [])) (omega (arith, length-append before (a ∷ []))) f in
      let first = passing_in (take x.own rest) in
      let comes : next_in s (more id c first) before ≡ Ok a =
      next_is s id c first before ∙ sym (next_is s id c hs before) ∙ placed_value n (next_in s (more id c hs) before) came in
      record {
        own = length (element id c) + x.own;
        place = omega (arith, x.place);
        holds =
            some x.own (
              x.holds.0,
              ap (λ (o : Outcome A). and_then (placed_at n o) (λ v. listed s (past_element n c) first (before ++ (v ∷ [])))) comes ∙ x.holds.1,
            );
      })

  later_before : (es : Elements) (n : ℕ) (run : List ℕ) (before : List A) (p : ℕ) (r : Refusal) → 0 < length before → elements_in run ≡ es
      → listed s n (passing es) before ≡ Err (fault_at p r) → Reached n p (ListsLater n run before)
  unfolding listed passing
  later_before Raw.end n run before p r some e g =
      let came : eqb (length before) 0 ≡ false = ne_eqb (length before) 0 (λ z. omega arith) in
      let is : Ok before ≡ Err (fault_at p r) = simp came at g in
      absurd (never (sym is))
  later_before (Raw.cut_header o) n run before p r some e g = by (eqb o vendor_id) g
    where
      by : (t : Bool) → listed s n (pick t cut_passed cut_header) before ≡ Err (fault_at p r) → Reached n p (ListsLater n run before)
      by true f = at_once_lem (next_at n p r cut_passed before (λ a. before ++ (a ∷ [])) f) (no_more n run before some)
      by false f = at_once_lem (next_at n p r cut_header before (λ a. before ++ (a ∷ [])) f) (no_more n run before some)
  later_before (Raw.cut_contents id) n run before p r some e g = by (eqb id vendor_id) g
    where
      by : (t : Bool) → listed s n (pick t cut_passed (cut_contents id)) before ≡ Err (fault_at p r) → Reached n p (ListsLater n run before)
      by true f = at_once_lem (next_at n p r cut_passed before (λ a. before ++ (a ∷ [])) f) (no_more n run before some)
      by false f = at_once_lem (next_at n p r (cut_contents id) before (λ a. before ++ (a ∷ [])) f) (no_more n run before some)
  later_before (Raw.more id c es) n run before p r some e g =
      let y = split run id c es e in
      by (eqb id vendor_id) refl g (λ b m h. later_before es (past_element n c) y.rest b p r m y.after h)
    where
      by : (t : Bool) → eqb id vendor_id ≡ t → listed s n (pick t (passed c (passing es)) (more id c (passing es))) before ≡ Err (fault_at p r)
          → ((b : List A) → 0 < length b → listed s (past_element n c) (passing es) b ≡ Err (fault_at p r)
          → Reached (past_element n c) p (ListsLater (past_element n c) (split run id c es e).rest b))
          → Reached n p (ListsLater n run before)
      by true v f on =
          let later = on before some f in
          record {
            own = length (element id c) + later.own;
            place = omega (arith, later.place);
            holds = (
              later.holds.0,
              ap (λ (hs : Handed). listed s n hs before) (passing_kept run id c es e later.own true v) ∙ later.holds.1,
            );
          }
      by false v f on =
          element_before (ListsLater n run before) id c (passing es) n (split run id c es e).rest before p r (no_more n run before some)
          (λ k x. (x.0, ap (λ (hs : Handed). listed s n hs before) (passing_kept run id c es e k false v) ∙ x.1))
          on f

  first_before : (es : Elements) (n : ℕ) (run : List ℕ) (p : ℕ) (r : Refusal) → elements_in run ≡ es → listed s n (handing es) [] ≡ Err (fault_at p r)
      → Reached n p (ListsFirst n run)
  unfolding listed handing
  first_before Raw.end n run p r e g = at_once_lem (next_at n p r end [] (λ a. a ∷ []) g) (λ h. absurd (omega arith))
  first_before (Raw.cut_header o) n run p r e g = at_once_lem (next_at n p r cut_header [] (λ a. a ∷ []) g) (λ h. absurd (omega arith))
  first_before (Raw.cut_contents id) n run p r e g = at_once_lem (next_at n p r (cut_contents id) [] (λ a. a ∷ []) g) (λ h. absurd (omega arith))
  first_before (Raw.more id c es) n run p r e g =
      let y = split run id c es e in
      element_before (ListsFirst n run) id c (passing es) n y.rest [] p r (λ h. absurd (omega arith))
      (λ k x h. (x.0, ap (λ (hs : Handed). listed s n hs []) (handed_kept run id c es e k) ∙ x.1))
      (λ b m h. later_before es (past_element n c) y.rest b p r m y.after h) g

  -- after a body's fixed fields
  pub measurements_before : (run : List ℕ) (p : ℕ) (r : Refusal) → measurements_in s run ≡ Err (fault_at p r)
      → Reached fixed_fields p (λ k. 0 < k → Accepts (measurements_in s (take k run)))
  unfolding measurements_in
  measurements_before run p r g = first_before (elements_in run) fixed_fields run p r refl g

  -- and one has to come
  pub none_measured : measurements_in s [] ≡ Err (fault_at fixed_fields Refusal.ElementAbsent)
  unfolding measurements_in listed next_in required
  none_measured = ap (λ (hs : Handed). listed s fixed_fields hs []) none_handed

-- ---- one element

module _ {A : Type 0} (n id : ℕ) (means : List ℕ → Outcome A) where
  -- it has to be there
  pub none_single : single n id means (handed_in []) ≡ Err (fault_at n Refusal.ElementAbsent)
  unfolding single required
  none_single = ap (single n id means) none_handed

  -- what is left after it is refused there, and what is passed over before that is not
  abbrev LeavesNone : ℕ → List ℕ → A → ℕ → Type 0
  LeavesNone m run a k = nothing_left m (passing_in (take k run)) a ≡ Ok a

  leaves_none : (m : ℕ) (run : List ℕ) (a : A) → LeavesNone m run a 0
  unfolding nothing_left
  leaves_none m run a = ap (λ (hs : Handed). nothing_left m hs a) none_passing

  left_before : (es : Elements) (m : ℕ) (run : List ℕ) (a : A) (p : ℕ) (r : Refusal) → elements_in run ≡ es → nothing_left m (passing es) a ≡ Err (fault_at p r)
      → Reached m p (LeavesNone m run a)
  unfolding nothing_left passing
  left_before Raw.end m run a p r e g = absurd (never (sym g))
  left_before (Raw.cut_header o) m run a p r e g = by (eqb o vendor_id) g
    where
      by : (t : Bool) → nothing_left m (pick t cut_passed cut_header) a ≡ Err (fault_at p r) → Reached m p (LeavesNone m run a)
      by true f = at_once_lem (same_place m p Refusal.ElementCut r cc) (leaves_none m run a)
      by false f = at_once_lem (same_place m p Refusal.LeftOver r cc) (leaves_none m run a)
  left_before (Raw.cut_contents i) m run a p r e g = by (eqb i vendor_id) g
    where
      by : (t : Bool) → nothing_left m (pick t cut_passed (cut_contents i)) a ≡ Err (fault_at p r) → Reached m p (LeavesNone m run a)
      by true f = at_once_lem (same_place m p Refusal.ElementCut r cc) (leaves_none m run a)
      by false f = at_once_lem (same_place m p Refusal.LeftOver r cc) (leaves_none m run a)
  left_before (Raw.more i c es) m run a p r e g =
      let y = split run i c es e in
      by (eqb i vendor_id) refl g (left_before es (past_element m c) y.rest a p r y.after)
    where
      by : (t : Bool) → eqb i vendor_id ≡ t → nothing_left m (pick t (passed c (passing es)) (more i c (passing es))) a ≡ Err (fault_at p r)
          → (nothing_left (past_element m c) (passing es) a ≡ Err (fault_at p r) → Reached (past_element m c) p (LeavesNone (past_element m c) (split run i c es e).rest a))
          → Reached m p (LeavesNone m run a)
      by true v f on =
          let later = on f in
          record {
            own = length (element i c) + later.own;
            place = omega (arith, later.place);
            holds = ap (λ (hs : Handed). nothing_left m hs a) (passing_kept run i c es e later.own true v) ∙ later.holds;
          }
      by false v f on = at_once_lem (same_place m p Refusal.LeftOver r cc) (leaves_none m run a)

  single_is : (c : List ℕ) (hs : Handed) (a : A) → means c ≡ Ok a → nothing_left (past_element n c) hs a ≡ Ok a → single n id means (more id c hs) ≡ Ok a
  unfolding single
  single_is c hs a m l = simp (there id c hs, m) l

  abbrev SingleFirst : List ℕ → ℕ → Type 0
  SingleFirst run k = 0 < k → Accepts (single n id means (handed_in (take k run)))

  not_one : (run : List ℕ) → SingleFirst run 0
  not_one run h = absurd (omega arith)

  pub single_before : (run : List ℕ) (p : ℕ) (r : Refusal) → single n id means (handed_in run) ≡ Err (fault_at p r) → Reached n p (SingleFirst run)
  unfolding single
  single_before run p r g =
      refused_by (placed_at n (required id (handed_in run))) _ g
      (λ f. at_once_lem (at_place p r n (required id (handed_in run)) f) (not_one run))
      (λ x stands f.
      let c = x.contents in
      let w = handed_raw (elements_in run) id c x.rest (whole id (handed_in run) x (placed_value n (required id (handed_in run)) stands)) in
      refused_by (placed_at n (means c)) _ f
      (λ m. at_once_lem (at_place p r n (means c) m) (not_one run))
      (λ a read m.
      let y = split run id c w.0 w.1 in
      let l = left_before w.0 (past_element n c) y.rest a p r y.after (ap (λ (hs : Handed). nothing_left (past_element n c) hs a) w.2 ∙ m) in
      record {
        own = length (element id c) + l.own;
        place = omega (arith, l.place);
        holds =
            λ h. (
              a,
              ap (single n id means) (handed_kept run id c w.0 w.1 l.own)
                  ∙ single_is c (passing_in (take l.own y.rest)) a (placed_value n (means c) read) l.holds,
            );
      }))
