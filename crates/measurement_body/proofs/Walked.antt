-- One walk of a body: listing the rest from a place on, after what was read so far, is listing the whole. Assumes nothing.
use Rattle.std.specs.Prelude.{Option, Some, None, Ok, Err}
use mathlib.Core.Path.{◌≡◌, refl, sym, ap, subst, ◌∙◌}
use mathlib.Core.Bool.{Bool, true, false, ◌&&◌, ◌||◌}
use mathlib.Core.List.{List, [], ◌∷◌, ◌++◌}
use Prim.Native.Nat.{ℕ, ◌+◌, ◌-◌, ◌<◌, ◌≤◌}
use native.Mathlib.Omega.{arith}
use borrow.Author.Tests.{ne_eqb, eqb-true, ltb-true}
use lib.Dec.{ltb, eqb}
use lib.ListN.{length, take, drop, get_or, set, replicate, length-append, length-drop}
use Rattle.action.specs.Openings.{fixed_fields}
use Rattle.answer.proofs.Booleans.{or_go}
use Rattle.answer.specs.Checks.{Outcome, pick}
use Rattle.answer.specs.Faults as Faults
use Rattle.answer.specs.Faults.{fault_at}
use Rattle.answer.specs.declared.Fault.{Fault}
use Rattle.answer.specs.declared.Refusal.{Refusal}
use Rattle.walk.proofs.Passing.{onward_at, stands_at, no_further_back}
use Rattle.walk.proofs.Requiring.{Lies, whole, long, past}
use Rattle.walk.proofs.RunLaws.{empty}
use Rattle.walk.proofs.Walking.{at_end}
use Rattle.walk.specs.CodeTerms.Required.{between, required_told}
use Rattle.walk.specs.CodeTerms.Next.{next_after}
use Rattle.walk.specs.Elements.{elements_in}
use Rattle.walk.specs.Elements as Raw
use Rattle.walk.specs.Handed.{Handed, end, passing_in, handing, handed_in}
use Rattle.walk.specs.declared.Contents.{Contents}
use Rattle.walk.specs.Required.{required}
use Rattle.measurement_body.specs.CodeTerms.Judging.{judgement}
use Rattle.measurement_body.specs.Lists.{Sort, used, repeats, listed, measurements_in, all_clear, all_interpreted}
use Rattle.measurement_body.specs.Surveys.{place_in, surveyed_as, surveyed}
use Rattle.measurement_body.specs.declared.judging.Judged.{Judged}
use Rattle.measurement_body.proofs.Conjunctions.{and-true, and_assoc, and_swap, and_last}
use Rattle.measurement_body.proofs.Judgements.{Holds, unread}
use Rattle.measurement_body.proofs.Listing.{stops, misread, repeated, onward, clear_in_front, listed_onward, listed_cut, clear_onward}
use Rattle.measurement_body.proofs.Marking.{Marked, none, one_more}
use Rattle.measurement_body.proofs.Placing.{Placed, unmet, final, placed_on, placed_onward}

interpreted_snoc : {A : Type 0} (s : Sort A) (l : List A) (a : A) → all_interpreted s (l ++ (a ∷ [])) ≡ (all_interpreted s l && s.interpreted a)
unfolding all_interpreted
interpreted_snoc s [] a = and-true (s.interpreted a)
interpreted_snoc s (x ∷ l) a =
    ap (λ (b : Bool). s.interpreted x && b) (interpreted_snoc s l a) ∙ and_assoc (s.interpreted x) (all_interpreted s l) (s.interpreted a)

-- where the walk stands: the records in front of `at` are those before, and their tokens are marked
pub record Walked {A : Type 0} (s : Sort A) (body : List ℕ) (index : ℕ) (marks : List Bool) (count at : ℕ) (place : Option Contents) (plain : Bool) : Type 0 where
  pub before : List A
  pub same : listed s at (handed_in (drop at body)) before ≡ measurements_in s (drop fixed_fields body)
  pub marked : Marked s marks before
  pub counted : count ≡ length before
  pub few : count ≤ at
  pub placed : Placed (place_in index body) (handed_in (drop at body)) index count at place
  pub clear : Bool
  pub cleared : all_clear s (handed_in (drop fixed_fields body)) ≡ (clear && all_clear s (handed_in (drop at body)))
  pub plainly : plain ≡ (clear && all_interpreted s before)

pub start : {A : Type 0} (s : Sort A) (body : List ℕ) (index : ℕ) → Walked s body index (replicate 256 false) 0 fixed_fields None true
unfolding measurements_in all_interpreted
start s body index =
    record {
      before = [];
      same = refl;
      marked = none s;
      counted = refl;
      few = omega arith;
      placed = unmet (handed_in (drop fixed_fields body)) index fixed_fields;
      clear = true;
      cleared = refl;
      plainly = refl;
    }

-- a refusal, as it is handed out
pub refused_as : {A : Type 0} (s : Sort A) (index token : ℕ) (body : List ℕ) {x : Fault} → measurements_in s (drop fixed_fields body) ≡ Err x → Err x ≡ surveyed s index token body
refused_as s index token body e = ap (surveyed_as s index token body) (sym e)

-- what a refusal of the element at a place comes to, and else this
abbrev pub or_fault : {B C : Type 0} → ℕ → Outcome B → Faults.Placed C → Faults.Placed C
or_fault n (Err r) v = Err (fault_at n r)
or_fault n (Ok b) v = v

module _ {A : Type 0} {s : Sort A} {body : List ℕ} {index : ℕ} {marks : List Bool} {count at : ℕ} {place : Option Contents} {plain : Bool}
    (w : Walked s body index marks count at place plain) where
  as_whole : {o : Faults.Placed (List A)} → listed s at (handed_in (drop at body)) w.before ≡ o → measurements_in s (drop fixed_fields body) ≡ o
  as_whole e = sym w.same ∙ e

  -- ---- an element that has to be there

  -- one element has to come, and others where octets are left
  absent : (eqb count 0 || ltb at (length body)) ≡ true → (id : ℕ) → id ≡ s.id → {r : Refusal} → required id (handed_in (drop at body)) ≡ Err r
      → measurements_in s (drop fixed_fields body) ≡ Err (fault_at at r)
  absent goes id own e =
      as_whole
      (stops s at (elements_in (drop at body)) w.before (λ h. none_before (over h))
      (ap (λ (n : ℕ). required n (handed_in (drop at body))) (sym own) ∙ e))
    where
      over : elements_in (drop at body) ≡ Raw.end → length body ≤ at
      over h = omega (arith, length-drop at body, ap length (empty (drop at body) h))

      none_before : length body ≤ at → length w.before ≡ 0
      none_before h = by (eqb count 0) refl
        where
          by : (t : Bool) → eqb count 0 ≡ t → length w.before ≡ 0
          by true z = sym w.counted ∙ eqb-true count 0 z
          by false z =
              let some : ltb at (length body) ≡ true = sym (or_go (eqb count 0) z) ∙ goes in
              absurd (omega (arith, ltb-true at (length body) some))

  pub absent_told : (eqb count 0 || ltb at (length body)) ≡ true → (id : ℕ) → id ≡ s.id → (token : ℕ) (o : Outcome Contents) → required_told body o ≡ required id (handed_in (drop at body))
      → or_fault at o (surveyed s index token body) ≡ surveyed s index token body
  absent_told goes id own token (Err r) e = refused_as s index token body (absent goes id own (sym e))
  absent_told goes id own token (Ok d) e = refl

  -- ---- one that is there

  module _ {d : Contents} (l : Lies body at s.id d) where
    abbrev contents : List ℕ
    contents = take (d.end - d.start) (drop d.start body)

    unfit : {r : Refusal} → s.means contents ≡ Err r → measurements_in s (drop fixed_fields body) ≡ Err (fault_at at r)
    unfit m = as_whole (misread s at (handed_in (drop at body)) (between body d) l.stands w.before m)

    pub unfit_told : (token : ℕ) (o : Outcome Judged) → o ≡ judgement s contents → or_fault at o (surveyed s index token body) ≡ surveyed s index token body
    unfit_told token (Err r) e = refused_as s index token body (unfit (unread s contents e))
    unfit_told token (Ok j) e = refl

    module _ {j : Judged} (h : Holds s contents j) (small : j.token < 256) where
      -- whether it repeats one before it, by its mark
      marked_by : {t : Bool} → (s.once && get_or marks j.token false) ≡ t → repeats s h.one w.before ≡ t
      marked_by e =
          ap (λ (k : ℕ). s.once && used s k w.before) (sym h.tokened)
          ∙ ap (λ (b : Bool). s.once && b) (sym (w.marked.at j.token small))
          ∙ e

      pub again : (s.once && get_or marks j.token false) ≡ true → measurements_in s (drop fixed_fields body) ≡ Err (fault_at at Refusal.Repeated)
      again e = as_whole (repeated s at (handed_in (drop at body)) (between body d) l.stands w.before h.says (marked_by e))

      -- after it, past what is passed over
      abbrev rest : Handed
      rest = passing_in (drop d.end body)

      listed_after : (s.once && get_or marks j.token false) ≡ false → listed s d.end rest (w.before ++ (h.one ∷ [])) ≡ measurements_in s (drop fixed_fields body)
      listed_after e =
          ap (λ (n : ℕ). listed s n rest (w.before ++ (h.one ∷ []))) (sym (past l))
          ∙ sym (onward s at (handed_in (drop at body)) (between body d) l.stands w.before h.says (marked_by e)) ∙ w.same

      pub cut_after : (s.once && get_or marks j.token false) ≡ false → {x : Fault} → next_after d.end rest ≡ Err x → measurements_in s (drop fixed_fields body) ≡ Err x
      cut_after e cut = sym (listed_after e) ∙ listed_cut s (w.before ++ (h.one ∷ [])) rest d.end cut

      -- the walk with this one too, before it is known whether octets are left
      pub further : (s.once && get_or marks j.token false) ≡ false → {next : ℕ} → next_after d.end rest ≡ Ok next
          → Walked s body index (set marks j.token true) (count + 1) next (pick (eqb count index) (Some d) place) (plain && j.plain && eqb next d.end)
      further e {next} on =
          let hs = handed_in (drop at body) in
          let here = between body d in
          let a = h.one in
          let c = s.clear contents in
          let own = eqb next d.end in
          let stands = onward_at body d.end on in
          record {
            before = w.before ++ (a ∷ []);
            same =
                ap (λ (x : Handed). listed s next x (w.before ++ (a ∷ []))) (sym stands)
                ∙ sym (listed_onward s (w.before ++ (a ∷ [])) rest d.end on) ∙ listed_after e;
            marked = one_more s w.marked a j.token h.tokened small;
            counted = simp length-append (omega (arith, w.counted));
            few = omega (arith, w.few, l.begins, l.ordered, no_further_back rest d.end (ap stands_at on));
            placed =
                subst (λ (x : Handed). Placed (place_in index body) x index (count + 1) next (pick (eqb count index) (Some d) place)) stands
                (placed_onward rest on
                (placed_on l.begins (omega (arith, long l, l.begins, l.ordered))
                (subst (λ (x : Handed). Placed (place_in index body) x index count at place) (whole s.id hs here l.stands) w.placed)));
            clear = w.clear && c && own;
            cleared =
                w.cleared ∙ ap (λ (b : Bool). w.clear && b) (clear_in_front s hs here l.stands)
                ∙ and_assoc w.clear c (all_clear s rest)
                ∙ ap (λ (b : Bool). w.clear && c && b) (clear_onward s rest d.end on ∙ ap (λ (x : Handed). own && all_clear s x) stands)
                ∙ and_assoc (w.clear && c) own (all_clear s (handed_in (drop next body)));
            plainly =
                ap (λ (b : Bool). b && j.plain && own) w.plainly
                ∙ ap (λ (b : Bool). w.clear && all_interpreted s w.before && b && own) h.plainly
                ∙ ap (λ (b : Bool). b && own) (and_swap w.clear (all_interpreted s w.before) c (s.interpreted a))
                ∙ ap (λ (b : Bool). w.clear && c && b && own) (sym (interpreted_snoc s w.before a))
                ∙ and_last (w.clear && c) (all_interpreted s (w.before ++ (a ∷ []))) own;
          }

  -- ---- the end of the run

  module _ (some : 0 < count) (over : length body ≤ at) where
    none_left : handed_in (drop at body) ≡ end
    unfolding handing
    none_left = ap handing (at_end body at over)

    all_read : measurements_in s (drop fixed_fields body) ≡ Ok w.before
    unfolding listed
    all_read =
        as_whole
        (ap (λ (hs : Handed). listed s at hs w.before) none_left
        ∙ simp (ne_eqb (length w.before) 0 (λ e. omega (arith, w.counted))))

    all_clear_lem : all_clear s (handed_in (drop fixed_fields body)) ≡ w.clear
    unfolding all_clear
    all_clear_lem = w.cleared ∙ ap (λ (hs : Handed). w.clear && all_clear s hs) none_left ∙ and-true w.clear

    found : place ≡ place_in index body
    found = final (subst (λ (x : Handed). Placed (place_in index body) x index count at place) none_left w.placed)

    pub read : (token : ℕ) → token < 256 → Ok (record { count = count; place = place; hit = get_or marks token false; plain = plain }) ≡ surveyed s index token body
    read token small = rw (all_read, all_clear_lem, w.counted, w.plainly, found, w.marked.at token small)
