-- Demand 2 for a list of elements, from that for one element: a list that may be written reads back the same, and an accepted run
-- with nothing uninterpreted and no reserved bit set is what would be written of its records. Assumes nothing.
use Rattle.std.specs.Prelude.{Ok}
use mathlib.Core.Path.{◌≡◌, refl, sym, ap, subst, ◌∙◌}
use mathlib.Core.Bool.{true, false, not, ◌&&◌}
use mathlib.Core.List.{List, [], ◌∷◌, ◌++◌, append-nil}
use mathlib.Core.Logic.{inl, inr}
use Prim.Native.Nat.{ℕ, suc, ◌<◌}
use native.Mathlib.Omega.{arith}
use borrow.Author.Tests.{lt-ltb, ltb-true, eqb-false, ne_eqb, not-true}
use lib.Dec.{ltb, eqb}
use lib.ListN.{length, length-append}
use lib.Seq.{append_snoc}
use Rattle.answer.proofs.Booleans.{clash, both}
use Rattle.octets.specs.Elements.{element, RoundTrip}
use Rattle.action.specs.Openings.{fixed_fields}
use Rattle.octets.specs.Numbers.{Octets}
use Rattle.walk.specs.Elements.{past_element}
use Rattle.walk.specs.Handed.{Handed, end, cut_header, cut_contents, more, passed, cut_passed, vendor_id, passing_in, handed_in}
use Rattle.measurement_body.specs.Lists.{AllFit, Sort, repeats, listed, measurements_in, all_clear, all_interpreted, all_octets, may_all, may_list}
use Rattle.walk.proofs.Requiring as Requiring
use Rattle.measurement_body.proofs.Listing.{onward, lists, ended, not_cut_header, not_cut_contents, not_cut_passed}
use Rattle.walk.proofs.Passing.{front_handed, front_own, none_handed, none_passing, Walks, walks_more, walks_passed, walks_end}
use Rattle.walk.proofs.RunLaws.{octets_front, octets_after}

-- what is asked of one element: demand 2, where its octets lie, that it is none of a vendor, and that what may be written is interpreted and clear
pub record Trip {A : Type 0} (s : Sort A) (Fits : A → Type 0) : Type 0 where
  pub contents : A → List ℕ
  pub trip : RoundTrip s.means contents s.may Fits s.interpreted s.clear
  pub laid : (a : A) → s.octets a ≡ element s.id (contents a)
  pub own : eqb s.id vendor_id ≡ false
  pub known : (a : A) → s.may a ≡ true → s.interpreted a ≡ true
  pub clean : (a : A) → s.may a ≡ true → s.clear (contents a) ≡ true

module _ {A : Type 0} (s : Sort A) (Fits : A → Type 0) (t : Trip s Fits) where
  -- what a list that may be written says of its first record
  pub first : (before : List A) (a : A) (xs : List A) → may_all s before (a ∷ xs) ≡ true
      → (s.may a ≡ true) × (repeats s a before ≡ false) × (may_all s (before ++ (a ∷ [])) xs ≡ true)
  unfolding may_all
  first before a xs m =
      let p = both (s.may a) (not (repeats s a before) && may_all s (before ++ (a ∷ [])) xs) m in
      let q = both (not (repeats s a before)) (may_all s (before ++ (a ∷ [])) xs) p.1 in
      (p.0, not-true (repeats s a before) q.0, q.1)

  pub may_first : (before : List A) (a : A) (xs : List A) → s.may a ≡ true → repeats s a before ≡ false → may_all s (before ++ (a ∷ [])) xs ≡ true
      → may_all s before (a ∷ xs) ≡ true
  unfolding may_all
  may_first before a xs m r h = simp (m, r) h

  -- the elements of what is written
  written : (a : A) (xs : List A) → passing_in (all_octets s (a ∷ xs)) ≡ more s.id (t.contents a) (passing_in (all_octets s xs))
  unfolding all_octets
  written a xs =
      ap (λ (os : List ℕ). passing_in (os ++ all_octets s xs)) (t.laid a) ∙ front_own s.id (t.contents a) (all_octets s xs) t.own

  -- nothing of it is passed over
  all_handed : (xs : List A) → handed_in (all_octets s xs) ≡ passing_in (all_octets s xs)
  unfolding all_octets
  all_handed [] = none_handed ∙ sym none_passing
  all_handed (a ∷ xs) =
      ap (λ (os : List ℕ). handed_in (os ++ all_octets s xs)) (t.laid a) ∙ front_handed s.id (t.contents a) (all_octets s xs) ∙ sym (written a xs)

  -- ---- there

  read_on : (n : ℕ) (a : A) (c : List ℕ) (hs : Handed) (before : List A) → s.means c ≡ Ok a → repeats s a before ≡ false
      → listed s n (more s.id c hs) before ≡ listed s (past_element n c) hs (before ++ (a ∷ []))
  read_on n a c hs before m r = onward s n (more s.id c hs) (record { contents = c; rest = hs }) (Requiring.there s.id c hs) before m r

  there : (n : ℕ) (xs before : List A) → AllFit Fits xs → may_all s before xs ≡ true → 0 < length (before ++ xs)
      → listed s n (passing_in (all_octets s xs)) before ≡ Ok (before ++ xs)
  unfolding all_octets listed
  there n [] before f m h =
      let some : eqb (length before) 0 ≡ false = ne_eqb (length before) 0 (λ z. omega (arith, length-append before [])) in
      simp (none_passing, some) (ap Ok (sym (append-nil before)))
  there n (a ∷ xs) before f m h =
      let p = first before a xs m in
      ap (λ (hs : Handed). listed s n hs before) (written a xs)
      ∙ read_on n a (t.contents a) (passing_in (all_octets s xs)) before (t.trip.there a f.0 p.0) p.1
      ∙ there (past_element n (t.contents a)) xs (before ++ (a ∷ [])) f.1 p.2 (subst (λ (l : List A). 0 < length l) (sym (append_snoc before a xs)) h)
      ∙ ap Ok (append_snoc before a xs)

  pub list_there : (xs : List A) → AllFit Fits xs → may_list s xs ≡ true → measurements_in s (all_octets s xs) ≡ Ok xs
  unfolding may_list measurements_in
  list_there xs f m =
      let p = both (ltb 0 (length xs)) (may_all s [] xs) m in
      ap (λ (hs : Handed). listed s fixed_fields hs []) (all_handed xs) ∙ there fixed_fields xs [] f p.1 (ltb-true 0 (length xs) p.0)

  -- and nothing in it is uninterpreted, and no reserved bit is set
  pub list_known : (xs before : List A) → may_all s before xs ≡ true → all_interpreted s xs ≡ true
  unfolding all_interpreted
  list_known [] before m = refl
  list_known (a ∷ xs) before m =
      let p = first before a xs m in
      simp (t.known a p.0) (list_known xs (before ++ (a ∷ [])) p.2)

  clean_by : (xs before : List A) → may_all s before xs ≡ true → all_clear s (passing_in (all_octets s xs)) ≡ true
  unfolding all_clear all_octets
  clean_by [] before m = simp none_passing
  clean_by (a ∷ xs) before m =
      let p = first before a xs m in
      simp (written a xs, t.clean a p.0) (clean_by xs (before ++ (a ∷ [])) p.2)

  pub list_clean : (xs before : List A) → may_all s before xs ≡ true → all_clear s (handed_in (all_octets s xs)) ≡ true
  list_clean xs before m = ap (all_clear s) (all_handed xs) ∙ clean_by xs before m

  -- ---- back

  -- the records of a run after those before it, which make up the list
  record Rest (run : List ℕ) (before l : List A) : Type 0 where
    tail : List A
    whole : l ≡ before ++ tail
    octets : all_octets s tail ≡ run
    may : may_all s before tail ≡ true
    some : ltb 0 (length l) ≡ true

  -- a record among others is interpreted, where all are
  known_one : (before : List A) (a : A) (l : List A) → all_interpreted s (before ++ (a ∷ []) ++ l) ≡ true → s.interpreted a ≡ true
  unfolding all_interpreted
  known_one [] a l i = (both (s.interpreted a) _ i).0
  known_one (x ∷ before) a l i = known_one before a l (both (s.interpreted x) _ i).1

  back : (n : ℕ) (hs : Handed) (run : List ℕ) (before l : List A) → Walks run hs → Octets run → all_interpreted s l ≡ true → all_clear s hs ≡ true
      → listed s n hs before ≡ Ok l → Rest run before l
  unfolding all_clear all_octets may_all
  back n end run before l e o i c h =
      let p = ended s n before l h in
      let k = p.1 in
      record {
        tail = [];
        whole = sym (append-nil before ∙ k);
        octets = sym (walks_end run e);
        may = refl;
        some = lt-ltb 0 (length l) (omega (arith, ap length k, eqb-false (length before) 0 p.0));
      }
  back n cut_header run before l e o i c h = absurd (not_cut_header s n before l h)
  back n (cut_contents id) run before l e o i c h = absurd (not_cut_contents s n id before l h)
  back n (more id x hs) run before l e o i c h =
      let g = lists s n id x hs before l h in
      let a = g.one in
      let y = walks_more run id x hs e in
      let clear = both (s.clear x) (all_clear s hs) c in
      let octets = subst Octets y.octets o in
      let inner = octets_front x y.rest (λ j. octets (suc (suc j))) in
      let outer = octets_after x y.rest (λ j. octets (suc (suc j))) in
      let z = back (past_element n x) hs y.rest (before ++ (a ∷ [])) l (inr y.after) outer i clear.1 g.on in
      let b = t.trip.back x a inner g.says (known_one before a z.tail (ap (all_interpreted s) (sym z.whole) ∙ i)) clear.0 in
      record {
        tail = a ∷ z.tail;
        whole = z.whole ∙ append_snoc before a z.tail;
        octets =
            ap (λ (os : List ℕ). os ++ all_octets s z.tail) (t.laid a ∙ ap (element s.id) b.1)
            ∙ ap (λ (os : List ℕ). element s.id x ++ os) z.octets
            ∙ ap (λ (k : ℕ). element k x ++ y.rest) (sym g.own) ∙ sym y.octets;
        may = may_first before a z.tail b.0 g.new z.may;
        some = z.some;
      }
  back n (passed x hs) run before l e o i c h = clash (sym c)
  back n cut_passed run before l e o i c h = absurd (not_cut_passed s n before l h)

  module _ (run : List ℕ) (xs : List A) (o : Octets run) (h : measurements_in s run ≡ Ok xs) (i : all_interpreted s xs ≡ true)
      (c : all_clear s (handed_in run) ≡ true) where
    rest : Rest run [] xs
    unfolding measurements_in
    rest = back fixed_fields (handed_in run) run [] xs (inl refl) o i c h

    pub list_back : (may_list s xs ≡ true) × (all_octets s xs ≡ run)
    unfolding may_list
    list_back = (simp rest.some (ap (may_all s []) rest.whole ∙ rest.may), ap (all_octets s) rest.whole ∙ rest.octets)

  -- ---- exact, and fits

  -- the records of a run stand after those before it, and fit
  record Ends (run : List ℕ) (before l : List A) : Type 0 where
    tail : List A
    whole : l ≡ before ++ tail
    fit : Octets run → AllFit Fits tail

  ends : (n : ℕ) (hs : Handed) (run : List ℕ) (before l : List A) → Walks run hs → listed s n hs before ≡ Ok l → Ends run before l
  unfolding listed
  ends n end run before l e h =
      record { tail = []; whole = sym (append-nil before ∙ (ended s n before l h).1); fit = λ o. tt }
  ends n cut_header run before l e h = absurd (not_cut_header s n before l h)
  ends n (cut_contents id) run before l e h = absurd (not_cut_contents s n id before l h)
  ends n (more id x hs) run before l e h =
      let g = lists s n id x hs before l h in
      let a = g.one in
      let y = walks_more run id x hs e in
      let z = ends (past_element n x) hs y.rest (before ++ (a ∷ [])) l (inr y.after) g.on in
      record {
        tail = a ∷ z.tail;
        whole = z.whole ∙ append_snoc before a z.tail;
        fit =
            λ o.
            let octets : Octets (element id x ++ y.rest) = subst Octets y.octets o in (
              t.trip.fits x a (octets_front x y.rest (λ j. octets (suc (suc j)))) g.says,
              z.fit (octets_after x y.rest (λ j. octets (suc (suc j)))),
            );
      }
  ends n (passed x hs) run before l e h =
      let y = walks_passed run x hs e in
      let z = ends (past_element n x) hs y.rest before l (inr y.after) h in
      record { tail = z.tail; whole = z.whole; fit = λ o. z.fit (octets_after (element vendor_id x) y.rest (subst Octets y.octets o)) }
  ends n cut_passed run before l e h = absurd (not_cut_passed s n before l h)

  pub list_fits : (run : List ℕ) (xs : List A) → Octets run → measurements_in s run ≡ Ok xs → AllFit Fits xs
  unfolding measurements_in
  list_fits run xs o h =
      let z = ends fixed_fields (handed_in run) run [] xs (inl refl) h in
      subst (AllFit Fits) (sym z.whole) (z.fit o)

  -- lists that are the same go on with the same record
  same : (before : List A) (a b : A) (xs ys : List A) → before ++ (a ∷ xs) ≡ before ++ (b ∷ ys) → a ≡ b
  same [] a b xs ys e = cc
  same (x ∷ before) a b xs ys e = same before a b xs ys (cc)

  -- the element in front says the record that the list goes on with
  leads : (n : ℕ) (x run : List ℕ) (before xs : List A) (a : A) → listed s n (more s.id x (passing_in run)) before ≡ Ok (before ++ (a ∷ xs))
      → (s.means x ≡ Ok a) × (repeats s a before ≡ false) × (listed s (past_element n x) (passing_in run) (before ++ (a ∷ [])) ≡ Ok (before ++ (a ∷ xs)))
  leads n x run before xs a h =
      let g = lists s n s.id x (passing_in run) before (before ++ (a ∷ xs)) h in
      let b = g.one in
      let z = ends (past_element n x) (passing_in run) run (before ++ (b ∷ [])) (before ++ (a ∷ xs)) (inr refl) g.on in
      let e : b ≡ a = sym (same before a b xs z.tail (z.whole ∙ append_snoc before b z.tail)) in (
        g.says ∙ ap Ok e,
        subst (λ (y : A). repeats s y before ≡ false) e g.new,
        subst (λ (y : A). listed s (past_element n x) (passing_in run) (before ++ (y ∷ [])) ≡ Ok (before ++ (a ∷ xs))) e g.on,
      )

  exact : (n : ℕ) (xs before : List A) → AllFit Fits xs → all_interpreted s xs ≡ true
      → listed s n (passing_in (all_octets s xs)) before ≡ Ok (before ++ xs) → may_all s before xs ≡ true
  unfolding may_all all_interpreted
  exact n [] before f i h = refl
  exact n (a ∷ xs) before f i h =
      let p = leads n (t.contents a) (all_octets s xs) before xs a (ap (λ (hs : Handed). listed s n hs before) (sym (written a xs)) ∙ h) in
      let k = both (s.interpreted a) (all_interpreted s xs) i in
      may_first before a xs (t.trip.exact a f.0 p.0 k.0) p.1
      (exact (past_element n (t.contents a)) xs (before ++ (a ∷ [])) f.1 k.1 (p.2 ∙ ap Ok (sym (append_snoc before a xs))))

  -- an accepted list has one record or more
  some : (n : ℕ) (xs : List A) → listed s n (passing_in (all_octets s xs)) [] ≡ Ok xs → ltb 0 (length xs) ≡ true
  unfolding all_octets
  some n [] h =
      let g : listed s n end [] ≡ Ok [] = ap (λ (hs : Handed). listed s n hs []) (sym none_passing) ∙ h in
      clash (ended s n [] [] g).0
  some n (a ∷ xs) h = lt-ltb 0 (length (a ∷ xs)) (omega arith)

  list_exact : (xs : List A) → AllFit Fits xs → measurements_in s (all_octets s xs) ≡ Ok xs → all_interpreted s xs ≡ true → may_list s xs ≡ true
  unfolding measurements_in may_list
  list_exact xs f h i =
      let later : listed s fixed_fields (passing_in (all_octets s xs)) [] ≡ Ok xs = ap (λ (hs : Handed). listed s fixed_fields hs []) (sym (all_handed xs)) ∙ h in
      simp (some fixed_fields xs later, exact fixed_fields xs [] f i later)

  -- demand 2 for a run
  pub list_trip : RoundTrip (measurements_in s) (all_octets s) (may_list s) (AllFit Fits) (all_interpreted s) (λ run. all_clear s (handed_in run))
  list_trip = record { there = list_there; back = list_back; exact = list_exact; fits = list_fits }
