-- A run of octets is its elements laid side by side: what the walk gives, and how it ends, is told by the octets alone, and the other way
-- round (01, "Octets": an element is an ID, a length, contents). Assumes nothing.
use mathlib.Core.Bool.{Bool, true, false}
use mathlib.Core.List.{List, [], ◌∷◌, ◌++◌, append-nil, append_assoc}
use mathlib.Core.Logic.{◌⊎◌, inl, inr, ◌↔◌}
use mathlib.Core.Path.{◌≡◌, refl, sym, ap, ap₂, ◌∙◌}
use Prim.Native.Nat.{ℕ, ◌<◌}
use native.Mathlib.Omega.{arith}
use borrow.Author.Tests.{lt-leb, leb-false}
use lib.Dec.{leb}
use lib.ListN.{length, take, drop}
use Rattle.answer.specs.Checks.{pick}
use Rattle.octets.specs.Elements.{element}
use Rattle.walk.proofs.RunLaws.{front, none, split, empty}
use Rattle.walk.proofs.Walking.{headed}
use Rattle.walk.specs.Elements.{Elements, end, cut_header, cut_contents, more, elements_after, elements_in}
use Rattle.claims.specs.Filters.{Item, item, laid, HalfAfter, CutAfter, walked_as}

-- ---- elements in front of a rest

pub walk_front : (xs : List Item) (rest : List ℕ) → elements_in (laid xs ++ rest) ≡ walked_as xs (elements_in rest)
unfolding laid walked_as
walk_front [] rest = refl
walk_front (x ∷ xs) rest =
    ap elements_in (append_assoc (element x.id x.contents) (laid xs) rest)
    ∙ front x.id x.contents (laid xs ++ rest)
    ∙ ap (more x.id x.contents) (walk_front xs rest)

-- the octets that are left after them
record Left (run : List ℕ) (xs : List Item) (ending : Elements) : Type 0 where
  rest : List ℕ
  octets : run ≡ laid xs ++ rest
  after : elements_in rest ≡ ending

left : (xs : List Item) (run : List ℕ) (ending : Elements) → elements_in run ≡ walked_as xs ending → Left run xs ending
unfolding laid walked_as
left [] run ending e = record { rest = run; octets = refl; after = e }
left (x ∷ xs) run ending e =
    let s = split run x.id x.contents (walked_as xs ending) e in
    let l = left xs s.rest ending s.after in
    record {
      rest = l.rest;
      octets =
          s.octets ∙ ap (λ (os : List ℕ). element x.id x.contents ++ os) l.octets
          ∙ sym (append_assoc (element x.id x.contents) (laid xs) l.rest);
      after = l.after;
    }

-- ---- how a run without a whole element in front ends

half : (o : ℕ) → elements_in (o ∷ []) ≡ cut_header o
unfolding elements_in elements_after
half o = refl

pub is_half : (run : List ℕ) (o : ℕ) → elements_in run ≡ cut_header o → run ≡ o ∷ []
unfolding elements_in elements_after
is_half [] o e = absurd (let z : ◌≡◌ {A = ℕ} 0 1 = cc in omega arith)
is_half (i ∷ []) o e = ap (λ (n : ℕ). n ∷ []) (let same : i ≡ o = cc in same)
is_half (i ∷ n ∷ os) o e = by (leb n (length os)) (sym (headed i n os) ∙ e)
  where
    by : (u : Bool) → pick u (more i (take n os) (elements_in (drop n os))) (cut_contents i) ≡ cut_header o → i ∷ n ∷ os ≡ o ∷ []
    by true f = absurd (let z : ◌≡◌ {A = ℕ} 0 1 = cc in omega arith)
    by false f = absurd (let z : ◌≡◌ {A = ℕ} 0 1 = cc in omega arith)

-- a header whose length is more than what follows it
abbrev pub CutFrom : ℕ → List ℕ → Type 0
CutFrom id run = (n : ℕ) × (os : List ℕ) × (run ≡ id ∷ n ∷ os) × (length os < n)

cut : (id n : ℕ) (os : List ℕ) → length os < n → elements_in (id ∷ n ∷ os) ≡ cut_contents id
cut id n os h = headed id n os ∙ simp (lt-leb n (length os) h)

pub is_cut : (run : List ℕ) (id : ℕ) → elements_in run ≡ cut_contents id → CutFrom id run
unfolding elements_in elements_after
is_cut [] id e = absurd (let z : ◌≡◌ {A = ℕ} 0 1 = cc in omega arith)
is_cut (o ∷ []) id e = absurd (let z : ◌≡◌ {A = ℕ} 0 1 = cc in omega arith)
is_cut (i ∷ n ∷ os) id e = by (leb n (length os)) refl (sym (headed i n os) ∙ e)
  where
    by : (u : Bool) → leb n (length os) ≡ u → pick u (more i (take n os) (elements_in (drop n os))) (cut_contents i) ≡ cut_contents id → CutFrom id (i ∷ n ∷ os)
    by true t f = absurd (let z : ◌≡◌ {A = ℕ} 0 1 = cc in omega arith)
    by false t f = (n, os, ap (λ (k : ℕ). k ∷ n ∷ os) (let same : i ≡ id = cc in same), leb-false n (length os) t)

-- a walk gives so many whole elements, and then ends
abbrev Ends : Elements → Type 0
Ends es = (xs : List Item) × ((es ≡ walked_as xs end) ⊎ (((o : ℕ) × (es ≡ walked_as xs (cut_header o))) ⊎ ((id : ℕ) × (es ≡ walked_as xs (cut_contents id)))))

walk_ends : (es : Elements) → Ends es
unfolding walked_as
walk_ends end = ([], inl refl)
walk_ends (cut_header o) = ([], inr (inl (o, refl)))
walk_ends (cut_contents id) = ([], inr (inr (id, refl)))
walk_ends (more id c es) = by (walk_ends es)
  where
    by : Ends es → Ends (more id c es)
    by (xs, inl e) = (item id c ∷ xs, inl (ap (more id c) e))
    by (xs, inr (inl (o, e))) = (item id c ∷ xs, inr (inl (o, ap (more id c) e)))
    by (xs, inr (inr (i, e))) = (item id c ∷ xs, inr (inr (i, ap (more id c) e)))

-- ---- the walk, and the octets

module _ (run : List ℕ) (xs : List Item) where
  -- it gives these elements and then the end: the run is these elements side by side
  pub walk_whole : (elements_in run ≡ walked_as xs end) ↔ (run ≡ laid xs)
  walk_whole = (there, λ e. ap elements_in (e ∙ sym (append-nil (laid xs))) ∙ walk_front xs [] ∙ ap (walked_as xs) none)
    where
      there : elements_in run ≡ walked_as xs end → run ≡ laid xs
      there e =
          let l = left xs run end e in
          l.octets ∙ ap (λ (os : List ℕ). laid xs ++ os) (empty l.rest l.after) ∙ append-nil (laid xs)

  -- it gives these elements and then half a header: that octet is left after them
  pub walk_half : (o : ℕ) → (elements_in run ≡ walked_as xs (cut_header o)) ↔ HalfAfter xs o run
  walk_half o = (there, λ e. ap elements_in e ∙ walk_front xs (o ∷ []) ∙ ap (walked_as xs) (half o))
    where
      there : elements_in run ≡ walked_as xs (cut_header o) → HalfAfter xs o run
      there e =
          let l = left xs run (cut_header o) e in
          l.octets ∙ ap (λ (os : List ℕ). laid xs ++ os) (is_half l.rest o l.after)

  -- it gives these elements and then cut contents: a header is left after them, whose length is more than what follows it
  pub walk_cut : (id : ℕ) → (elements_in run ≡ walked_as xs (cut_contents id)) ↔ CutAfter xs id run
  walk_cut id = (there, λ (n, os, e, h). ap elements_in e ∙ walk_front xs (id ∷ n ∷ os) ∙ ap (walked_as xs) (cut id n os h))
    where
      there : elements_in run ≡ walked_as xs (cut_contents id) → CutAfter xs id run
      there e =
          let l = left xs run (cut_contents id) e in
          let c = is_cut l.rest id l.after in
          (c.0, c.1, l.octets ∙ ap (λ (os : List ℕ). laid xs ++ os) c.2, c.3)

-- every run is made up in one of these three ways
pub every_run : (run : List ℕ) → (xs : List Item) × ((run ≡ laid xs) ⊎ (((o : ℕ) × HalfAfter xs o run) ⊎ ((id : ℕ) × CutAfter xs id run)))
every_run run = by (walk_ends (elements_in run))
  where
    by : Ends (elements_in run) → (xs : List Item) × ((run ≡ laid xs) ⊎ (((o : ℕ) × HalfAfter xs o run) ⊎ ((id : ℕ) × CutAfter xs id run)))
    by (xs, inl e) = (xs, inl ((walk_whole run xs).0 e))
    by (xs, inr (inl (o, e))) = (xs, inr (inl (o, (walk_half run xs o).0 e)))
    by (xs, inr (inr (id, e))) = (xs, inr (inr (id, (walk_cut run xs id).0 e)))

same_walk : (xs ys : List Item) → walked_as xs end ≡ walked_as ys end → xs ≡ ys
unfolding walked_as
same_walk [] [] e = refl
same_walk [] (y ∷ ys) e = absurd (let z : ◌≡◌ {A = ℕ} 0 1 = cc in omega arith)
same_walk (x ∷ xs) [] e = absurd (let z : ◌≡◌ {A = ℕ} 0 1 = cc in omega arith)
same_walk (x ∷ xs) (y ∷ ys) e = ap₂ ◌∷◌ (ap₂ item (cc) (cc)) (same_walk xs ys (cc))

-- and elements that make up the same octets are the same
pub laid_once : (xs ys : List Item) → laid xs ≡ laid ys → xs ≡ ys
laid_once xs ys e = same_walk xs ys (sym ((walk_whole (laid xs) xs).1 refl) ∙ ap elements_in e ∙ (walk_whole (laid ys) ys).1 refl)
