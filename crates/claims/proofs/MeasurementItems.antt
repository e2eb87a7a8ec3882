-- Bodies of measurements over the plain list of their elements (01, "Octets": one or more 38, or one or more 39; each is given by its index from 0).
-- Assumes nothing.
use Rattle.std.specs.Prelude.{Ok}
use mathlib.Core.Bool.{Bool, true, false, ◌&&◌, ◌||◌}
use mathlib.Core.List.{List, [], ◌∷◌, ◌++◌}
use mathlib.Core.Logic.{◌↔◌}
use mathlib.Core.Path.{◌≡◌, refl, sym, ap, subst, ◌∙◌}
use Prim.Native.Nat.{ℕ, ◌+◌, ◌≤◌, ◌<◌}
use native.Mathlib.Omega.{arith}
use borrow.Author.Tests.{eq-eqb, ne_eqb, eqb-true, eqb-false}
use lib.Dec.{eqb}
use lib.ListN.{length, length-append}
use Rattle.action.specs.Openings.{fixed_fields}
use Rattle.answer.specs.Checks.{pick}
use Rattle.answer.proofs.Booleans.{clash, neither, and_go}
use Rattle.measurement_body.proofs.Listing.{onward, lists, ended, not_cut_header, not_cut_contents, not_cut_passed}
use Rattle.measurement_body.specs.Lists.{Sort, used, repeats, listed, measurements_in}
use Rattle.walk.proofs.Requiring.{there}
use Rattle.walk.specs.Elements.{Elements, elements_in, past_element}
use Rattle.walk.specs.Elements as Raw
use Rattle.walk.specs.Handed.{cut_header, cut_contents, more, passed, cut_passed, vendor_id, passing, handing}
use Rattle.claims.specs.FilteredFrames.{of_token, ListOf}
use Rattle.claims.specs.Filters.{Item, item, of_id, not_of_id, walked_as}
use Rattle.claims.proofs.ReadItems.{Grows, grows_none, grew_none, grows_all, grew_all, grows_first, grew_first}
use Rattle.claims.proofs.RunItems.{walk_whole}

-- ---- elements that are all of one ID

module _ (id : ℕ) where
  never_more : (xs : List Item) → length (of_id id xs) ≤ length xs
  unfolding of_id
  never_more [] = omega arith
  never_more (x ∷ xs) = by (eqb x.id id) (never_more xs)
    where
      by : (t : Bool) → length (of_id id xs) ≤ length xs → length (pick t (x ∷ of_id id xs) (of_id id xs)) ≤ length (x ∷ xs)
      by true h = omega arith
      by false h = omega arith

  pub all_of_id : (x : Item) (xs : List Item) → of_id id (x ∷ xs) ≡ x ∷ xs → (x.id ≡ id) × (of_id id xs ≡ xs)
  unfolding of_id
  all_of_id x xs h = by (eqb x.id id) refl h
    where
      by : (t : Bool) → eqb x.id id ≡ t → pick t (x ∷ of_id id xs) (of_id id xs) ≡ x ∷ xs → (x.id ≡ id) × (of_id id xs ≡ xs)
      by true e f = (eqb-true x.id id e, cc)
      by false e f = absurd (omega (arith, ap length f, never_more xs))

-- ---- elements of one ID, and vendors' elements among them

module _ (id : ℕ) (not-vendor : eqb id vendor_id ≡ false) where
  -- an element of the ID in front
  own_first : (x : Item) (xs : List Item) → x.id ≡ id → (of_id id (x ∷ xs) ≡ x ∷ of_id id xs) × (not_of_id vendor_id (x ∷ xs) ≡ x ∷ not_of_id vendor_id xs)
  unfolding of_id not_of_id
  own_first x xs e =
      let other : eqb x.id vendor_id ≡ false = ap (λ (n : ℕ). eqb n vendor_id) e ∙ not-vendor in
      (simp (eq-eqb x.id id e), simp other)

  -- one of a vendor
  vendor_first : (x : Item) (xs : List Item) → eqb x.id vendor_id ≡ true → (of_id id (x ∷ xs) ≡ of_id id xs) × (not_of_id vendor_id (x ∷ xs) ≡ not_of_id vendor_id xs)
  unfolding of_id not_of_id
  vendor_first x xs e =
      let other : eqb x.id id ≡ false = ne_eqb x.id id (λ same. clash (sym e ∙ ap (λ (n : ℕ). eqb n vendor_id) same ∙ not-vendor)) in
      (simp other, simp e)

  no_more_own : (xs : List Item) → length (of_id id xs) ≤ length (not_of_id vendor_id xs)
  unfolding of_id not_of_id
  no_more_own [] = omega arith
  no_more_own (x ∷ xs) = by (eqb x.id vendor_id) refl (no_more_own xs)
    where
      own : (t : Bool) → length (of_id id xs) ≤ length (not_of_id vendor_id xs) → length (pick t (x ∷ of_id id xs) (of_id id xs)) ≤ length (x ∷ not_of_id vendor_id xs)
      own true h = omega arith
      own false h = omega arith

      by : (t : Bool) → eqb x.id vendor_id ≡ t → length (of_id id xs) ≤ length (not_of_id vendor_id xs)
          → length (of_id id (x ∷ xs)) ≤ length (pick t (not_of_id vendor_id xs) (x ∷ not_of_id vendor_id xs))
      by true e h = omega (arith, ap length (vendor_first x xs e).0)
      by false e h = own (eqb x.id id) h

  -- where all others are of the ID, an element that is none of a vendor's is
  first_own : (x : Item) (xs : List Item) → eqb x.id vendor_id ≡ false → of_id id (x ∷ xs) ≡ not_of_id vendor_id (x ∷ xs)
      → (x.id ≡ id) × (of_id id xs ≡ not_of_id vendor_id xs)
  unfolding of_id not_of_id
  first_own x xs other h = by (eqb x.id id) refl (h ∙ simp other)
    where
      by : (t : Bool) → eqb x.id id ≡ t → pick t (x ∷ of_id id xs) (of_id id xs) ≡ x ∷ not_of_id vendor_id xs → (x.id ≡ id) × (of_id id xs ≡ not_of_id vendor_id xs)
      by true e f = (eqb-true x.id id e, cc)
      by false e f = absurd (omega (arith, ap length f, no_more_own xs))

-- ---- records of which no two have the same token

module _ {A : Type 0} (s : Sort A) where
  abbrev Once : List A → Type 0
  Once l = s.once ≡ true → (t : ℕ) → length (of_token s.token t l) ≤ 1

  joined_tokens : (l m : List A) (t : ℕ) → length (of_token s.token t (l ++ m)) ≡ length (of_token s.token t l) + length (of_token s.token t m)
  unfolding of_token
  joined_tokens [] m t = omega arith
  joined_tokens (a ∷ l) m t = by (eqb (s.token a) t) (joined_tokens l m t)
    where
      of : List A → List A
      of x = of_token s.token t x

      by : (u : Bool) → length (of (l ++ m)) ≡ length (of l) + length (of m)
          → length (pick u (a ∷ of (l ++ m)) (of (l ++ m))) ≡ length (pick u (a ∷ of l) (of l)) + length (of m)
      by true e = omega arith
      by false e = omega arith

  -- those with the token of a record: it is one of them
  own_token : (a : A) → length (of_token s.token (s.token a) (a ∷ [])) ≡ 1
  unfolding of_token
  own_token a = simp (eq-eqb (s.token a) (s.token a) refl)

  other_token : (a : A) (t : ℕ) → (s.token a ≡ t → ⊥) → length (of_token s.token t (a ∷ [])) ≡ 0
  unfolding of_token
  other_token a t h = simp (ne_eqb (s.token a) t h)

  unused : (t : ℕ) (l : List A) → used s t l ≡ false → length (of_token s.token t l) ≡ 0
  unfolding used of_token
  unused t [] e = refl
  unused t (a ∷ l) e = let p = neither (eqb (s.token a) t) (used s t l) e in simp p.0 (unused t l p.1)

  not_used : (t : ℕ) (l : List A) → length (of_token s.token t l) ≡ 0 → used s t l ≡ false
  unfolding used of_token
  not_used t [] e = refl
  not_used t (a ∷ l) e = by (eqb (s.token a) t) e (not_used t l)
    where
      by : (u : Bool) → length (pick u (a ∷ of_token s.token t l) (of_token s.token t l)) ≡ 0
          → (length (of_token s.token t l) ≡ 0 → used s t l ≡ false) → (u || used s t l) ≡ false
      by true f on = absurd (omega arith)
      by false f on = on f

  -- one more
  once_more : (before : List A) (a : A) → Once before → repeats s a before ≡ false → Once (before ++ (a ∷ []))
  once_more before a o r on t = by (eqb (s.token a) t) refl
    where
      fresh : length (of_token s.token (s.token a) before) ≡ 0
      fresh = unused (s.token a) before (sym (and_go s.once on) ∙ r)

      by : (u : Bool) → eqb (s.token a) t ≡ u → length (of_token s.token t (before ++ (a ∷ []))) ≤ 1
      by true e =
          subst (λ (k : ℕ). length (of_token s.token k (before ++ (a ∷ []))) ≤ 1) (eqb-true (s.token a) t e)
          (omega (arith, fresh, own_token a, joined_tokens before (a ∷ []) (s.token a)))
      by false e = omega (arith, o on t, other_token a t (eqb-false (s.token a) t e), joined_tokens before (a ∷ []) t)

  was_new : (before : List A) (a : A) (values : List A) → Once (before ++ (a ∷ []) ++ values) → repeats s a before ≡ false
  was_new before a values o = by s.once refl
    where
      by : (u : Bool) → s.once ≡ u → (u && used s (s.token a) before) ≡ false
      by true on =
          not_used (s.token a) before
          (omega
          (arith, o on (s.token a), own_token a, joined_tokens before (a ∷ []) (s.token a), joined_tokens (before ++ (a ∷ [])) values (s.token a)))
      by false off = refl

  -- ---- the records of a run after its first element, after those before

  module _ (not-vendor : eqb s.id vendor_id ≡ false) where
    record Listed (es : Elements) (before l : List A) : Type 0 where
      items : List Item
      walk : es ≡ walked_as items Raw.end
      own : of_id s.id items ≡ not_of_id vendor_id items
      grows : Grows s.means (of_id s.id items) before l
      once : Once l

    read_run : (n : ℕ) (es : Elements) (before l : List A) → Once before → listed s n (passing es) before ≡ Ok l → Listed es before l
    unfolding listed passing walked_as of_id not_of_id
    read_run n Raw.end before l o e =
        let p = ended s n before l e in
        record { items = []; walk = refl; own = refl; grows = subst (Grows s.means [] before) p.1 (grows_none s.means before); once = subst Once p.1 o }
    read_run n (Raw.cut_header i) before l o e = by (eqb i vendor_id) e
      where
        by : (t : Bool) → listed s n (pick t cut_passed cut_header) before ≡ Ok l → Listed (Raw.cut_header i) before l
        by true f = absurd (not_cut_passed s n before l f)
        by false f = absurd (not_cut_header s n before l f)
    read_run n (Raw.cut_contents id) before l o e = by (eqb id vendor_id) e
      where
        by : (t : Bool) → listed s n (pick t cut_passed (cut_contents id)) before ≡ Ok l → Listed (Raw.cut_contents id) before l
        by true f = absurd (not_cut_passed s n before l f)
        by false f = absurd (not_cut_contents s n id before l f)
    read_run n (Raw.more id c es) before l o e = by (eqb id vendor_id) refl e (read_run (past_element n c) es)
      where
        by : (t : Bool) → eqb id vendor_id ≡ t → listed s n (pick t (passed c (passing es)) (more id c (passing es))) before ≡ Ok l
            → ((b k : List A) → Once b → listed s (past_element n c) (passing es) b ≡ Ok k → Listed es b k) → Listed (Raw.more id c es) before l
        by true v f on =
            let r = on before l o f in
            let p = vendor_first s.id not-vendor (item id c) r.items v in
            record {
              items = item id c ∷ r.items;
              walk = ap (Raw.more id c) r.walk;
              own = p.0 ∙ r.own ∙ sym p.1;
              grows = subst (λ (xs : List Item). Grows s.means xs before l) (sym p.0) r.grows;
              once = r.once;
            }
        by false v f on =
            let q = lists s n id c (passing es) before l f in
            let r = on (before ++ (q.one ∷ [])) l (once_more before q.one o q.new) q.on in
            let p = own_first s.id not-vendor (item id c) r.items q.own in
            record {
              items = item id c ∷ r.items;
              walk = ap (Raw.more id c) r.walk;
              own = p.0 ∙ ap (λ (xs : List Item). item id c ∷ xs) r.own ∙ sym p.1;
              grows = subst (λ (xs : List Item). Grows s.means xs before l) (sym p.0) (grows_first s.means (item id c) (of_id s.id r.items) q.says r.grows);
              once = r.once;
            }

    module _ (l : List A) (o : Once l) where
      run_read : (n : ℕ) (xs : List Item) (before : List A) → 0 < length before → of_id s.id xs ≡ not_of_id vendor_id xs → Grows s.means (of_id s.id xs) before l
          → listed s n (passing (walked_as xs Raw.end)) before ≡ Ok l
      unfolding listed passing walked_as
      run_read n [] before some own g =
          let none : of_id s.id [] ≡ [] = unfold of_id in refl in
          let same = grew_none s.means (subst (λ (xs : List Item). Grows s.means xs before l) none g) in
          simp (ne_eqb (length before) 0 (λ z. omega arith)) (ap Ok (sym same))
      run_read n (x ∷ xs) before some own g = by (eqb x.id vendor_id) refl (run_read (past_element n x.contents) xs)
        where
          by : (t : Bool) → eqb x.id vendor_id ≡ t
              → ((b : List A) → 0 < length b → of_id s.id xs ≡ not_of_id vendor_id xs → Grows s.means (of_id s.id xs) b l
              → listed s (past_element n x.contents) (passing (walked_as xs Raw.end)) b ≡ Ok l)
              → listed s n (pick t (passed x.contents (passing (walked_as xs Raw.end))) (more x.id x.contents (passing (walked_as xs Raw.end)))) before ≡ Ok l
          by true v on =
              let p = vendor_first s.id not-vendor x xs v in
              on before some (sym p.0 ∙ own ∙ p.1) (subst (λ (ys : List Item). Grows s.means ys before l) p.0 g)
          by false v on =
              let rest = passing (walked_as xs Raw.end) in
              let h = first_own s.id not-vendor x xs v own in
              let p = own_first s.id not-vendor x xs h.0 in
              let q = grew_first s.means x (of_id s.id xs) (subst (λ (ys : List Item). Grows s.means ys before l) p.0 g) in
              let new = was_new before q.0 q.2.values (subst Once q.2.joined o) in
              ap (λ (k : ℕ). listed s n (more k x.contents rest) before) h.0
              ∙ onward s n (more s.id x.contents rest) (record { contents = x.contents; rest = rest }) (there s.id x.contents rest) before q.1 new
              ∙ on (before ++ (q.0 ∷ [])) (omega (arith, length-append before (q.0 ∷ []))) h.1 q.2

    -- ---- a run is accepted as what its elements mean, and only so

    module _ (run : List ℕ) (l : List A) where
      from_first : (es : Elements) → elements_in run ≡ es → listed s fixed_fields (handing es) [] ≡ Ok l → ListOf s run l
      unfolding handing of_token walked_as
      from_first Raw.end w e = clash (ended s fixed_fields [] l e).0
      from_first (Raw.cut_header i) w e = absurd (not_cut_header s fixed_fields [] l e)
      from_first (Raw.cut_contents id) w e = absurd (not_cut_contents s fixed_fields id [] l e)
      from_first (Raw.more id c es) w e =
          let q = lists s fixed_fields id c (passing es) [] l e in
          let r = read_run (past_element fixed_fields c) es (q.one ∷ []) l (once_more [] q.one (λ on t. omega arith) q.new) q.on in
          record {
            first = c;
            others = r.items;
            octets =
                (walk_whole run (item s.id c ∷ r.items)).0
                (w ∙ ap (λ (n : ℕ). Raw.more n c es) q.own ∙ ap (Raw.more s.id c) r.walk);
            all_own = r.own;
            read = grew_all s.means (grows_first s.means (item s.id c) (of_id s.id r.items) q.says r.grows);
            once_each = r.once;
          }

      accepted_list : measurements_in s run ≡ Ok l → ListOf s run l
      unfolding measurements_in
      accepted_list e = from_first (elements_in run) refl e

      list_accepted : ListOf s run l → measurements_in s run ≡ Ok l
      unfolding measurements_in handing walked_as
      list_accepted r =
          let rest = passing (walked_as r.others Raw.end) in
          let q = grew_first s.means (item s.id r.first) (of_id s.id r.others) (grows_all s.means r.read) in
          let new = was_new [] q.0 q.2.values (subst Once q.2.joined r.once_each) in
          ap (λ (es : Elements). listed s fixed_fields (handing es) []) ((walk_whole run (item s.id r.first ∷ r.others)).1 r.octets)
          ∙ onward s fixed_fields (more s.id r.first rest) (record { contents = r.first; rest = rest }) (there s.id r.first rest) [] q.1 new
          ∙ run_read l r.once_each (past_element fixed_fields r.first) r.others (q.0 ∷ []) (omega arith) r.all_own q.2

      pub list_filtered : (measurements_in s run ≡ Ok l) ↔ ListOf s run l
      list_filtered = (accepted_list, list_accepted)
