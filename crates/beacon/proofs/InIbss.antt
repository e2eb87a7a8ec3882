-- Bodies with element 41 read, beside the same as 01 reads them. Assumes nothing.
use Rattle.std.specs.Prelude.{Ok, Err, Result, Option, Some, None}
use mathlib.Core.Bool.{Bool, true, false}
use mathlib.Core.List.{List, [], ◌∷◌}
use mathlib.Core.Logic.{inl, inr}
use mathlib.Core.Path.{◌≡◌, refl, sym, ap, subst, ◌∙◌}
use Prim.Native.Nat.{ℕ}
use borrow.Author.Tests.{eq-eqb, ne_eqb, eqb-true, eqb-false}
use lib.Dec.{eqb}
use lib.ListN.{drop}
use Rattle.answer.proofs.Judged.{never, followed, passed, stands, kept}
use Rattle.answer.proofs.Placing.{placed_value}
use Rattle.answer.specs.Checks.{Outcome, Check, pick, ◌⇒◌, checked, judged, and_then}
use Rattle.answer.specs.Faults.{Placed, placed_at}
use Rattle.answer.specs.declared.Refusal.{Refusal}
use Rattle.element.specs.IbssDfs.{Dfs, dfs_means}
use Rattle.walk.specs.Elements.{Elements, end, cut_header, cut_contents, more, elements_in, past_element}
use Rattle.beacon.specs.Beacons.{Told, fixed_length, element_means, takes, says, opening, body_means, beacon_means}
use Rattle.beacon.specs.CodeTerms.Naming.{takes_where}
use Rattle.beacon.specs.IbssBeacons.{ToldInIbss, tells_in_ibss, takes_dfs, takes_too, takes_in_ibss, ibss_beacon_means, besides, told_where, NoDfs, OneDfs, DfsSound}

-- what follows a value, and checks in front of both
checked_then : {R A B : Type 0} (cs : List (Check R)) (o : Result A R) (f : A → Result B R) → checked cs (and_then o f) ≡ and_then (checked cs o) f
unfolding checked
checked_then [] o f = refl
checked_then (c ∷ cs) o f = by c.fails (checked_then cs o f)
  where
    by : (t : Bool) → checked cs (and_then o f) ≡ and_then (checked cs o) f
        → pick t (Err c.gives) (checked cs (and_then o f)) ≡ and_then (pick t (Err c.gives) (checked cs o)) f
    by true e = refl
    by false e = e

-- what follows the same value
then_alike : {R A B : Type 0} (o : Result A R) (f g : A → Result B R) → ((a : A) → f a ≡ g a) → and_then o f ≡ and_then o g
then_alike (Err r) f g same = refl
then_alike (Ok a) f g same = same a

-- steps that add the same say the same
says_alike : {A : Type 0} (step other : ℕ → List ℕ → A → Outcome A) → ((id : ℕ) (c : List ℕ) (t : A) → step id c t ≡ other id c t)
    → (n : ℕ) (es : Elements) (t : A) → says step n es t ≡ says other n es t
unfolding says
says_alike step other same n end t = refl
says_alike step other same n (cut_header o) t = refl
says_alike step other same n (cut_contents id) t = refl
says_alike {A} step other same n (more id c es) t =
    ap (λ (o : Outcome A). and_then (placed_at n o) (says step (past_element n c) es)) (same id c t)
    ∙ then_alike (placed_at n (other id c t)) (says step (past_element n c) es) (says other (past_element n c) es) (says_alike step other same (past_element n c) es)

module _ (b : ℕ) where
  -- ---- elements as in 01

  -- one that is read as in 01, before others of which it is known what they come to
  too_then : (n id : ℕ) (c : List ℕ) (before after : Option Dfs) (f : ToldInIbss → Placed ToldInIbss) (g : Told → Placed Told) (t : Told)
      → ((next : Told) → f (tells_in_ibss next before) ≡ besides after (g next))
      → and_then (placed_at n (takes_too b id c (tells_in_ibss t before))) f ≡ besides after (and_then (placed_at n (takes b id c t)) g)
  too_then n id c before after f g t on = by (takes b id c t)
    where
      by : (o : Outcome Told) → and_then (placed_at n (and_then o (λ next. Ok (tells_in_ibss next before)))) f ≡ besides after (and_then (placed_at n o) g)
      by (Err r) = refl
      by (Ok next) = on next

  too : (n : ℕ) (es : Elements) (t : Told) (d : Option Dfs) → says (takes_too b) n es (tells_in_ibss t d) ≡ besides d (says (takes b) n es t)
  unfolding says
  too n end t d = refl
  too n (cut_header o) t d = refl
  too n (cut_contents id) t d = refl
  too n (more id c es) t d = too_then n id c d d (says (takes_too b) (past_element n c) es) (says (takes b) (past_element n c) es) t (λ next. too (past_element n c) es next d)

  -- a body as the code goes over it
  pub where_read : (ibss : Bool) (body : List ℕ) → body_means (takes_where ibss b) (tells_in_ibss (opening body) None) b body ≡ told_where ibss b body
  unfolding takes_where takes_in_ibss ibss_beacon_means beacon_means
  where_read true body = ap (checked _) (says_alike (takes_where true b) (takes_in_ibss b) (λ id c t. refl) fixed_length (elements_in (drop fixed_length body)) _)
  where_read false body =
      ap (checked _) (says_alike (takes_where false b) (takes_too b) (λ id c t. refl) fixed_length (elements_in (drop fixed_length body)) _
      ∙ too fixed_length (elements_in (drop fixed_length body)) (opening body) None)
      ∙ checked_then _ (says (takes b) fixed_length (elements_in (drop fixed_length body)) (opening body)) _

  -- ---- an element by its ID

  module _ (id : ℕ) (c : List ℕ) where
    other_taken : (t : ToldInIbss) → (id ≡ 41 → ⊥) → takes_in_ibss b id c t ≡ takes_too b id c t
    unfolding takes_in_ibss
    other_taken t h = simp (ne_eqb id 41 h)

    dfs_taken : (t : ToldInIbss) → id ≡ 41 → takes_in_ibss b id c t ≡ takes_dfs c t
    unfolding takes_in_ibss
    dfs_taken t e = simp (eq-eqb id 41 e)

    -- 01 skips element 41
    dfs_skipped : (t : Told) → id ≡ 41 → takes b id c t ≡ Ok t
    unfolding takes element_means
    dfs_skipped t e = rw e

  -- the first element 41 is taken with what it says
  first_taken : (c : List ℕ) (t : Told) (d : Dfs) → dfs_means c ≡ Ok d → takes_dfs c (tells_in_ibss t None) ≡ Ok (tells_in_ibss t (Some d))
  unfolding checked
  first_taken c t d e = simp e

  -- ---- elements 41 that are sound: the body is what 01 reads, with this beside it

  none_sound : (n : ℕ) (es : Elements) (t : Told) (d : Option Dfs) → NoDfs es → says (takes_in_ibss b) n es (tells_in_ibss t d) ≡ besides d (says (takes b) n es t)
  unfolding says NoDfs
  none_sound n end t d h = refl
  none_sound n (cut_header o) t d h = refl
  none_sound n (cut_contents id) t d h = refl
  none_sound n (more id c es) t d h =
      ap (λ (o : Outcome ToldInIbss). and_then (placed_at n o) (says (takes_in_ibss b) (past_element n c) es)) (other_taken id c (tells_in_ibss t d) h.0)
      ∙ too_then n id c d d (says (takes_in_ibss b) (past_element n c) es) (says (takes b) (past_element n c) es) t (λ next. none_sound (past_element n c) es next d h.1)

  one_sound : (n : ℕ) (es : Elements) (t : Told) (d : Dfs) → OneDfs d es → says (takes_in_ibss b) n es (tells_in_ibss t None) ≡ besides (Some d) (says (takes b) n es t)
  unfolding says OneDfs
  one_sound n end t d x' = elim x' [ ]
  one_sound n (cut_header _) t d x3 = elim x3 [ ]
  one_sound n (cut_contents _) t d x4 = elim x4 [ ]
  one_sound n (more id c es) t d (inl h) =
      ap (λ (o : Outcome ToldInIbss). and_then (placed_at n o) (says (takes_in_ibss b) (past_element n c) es)) (dfs_taken id c (tells_in_ibss t None) h.0 ∙ first_taken c t d h.1)
      ∙ none_sound (past_element n c) es t (Some d) h.2
      ∙ ap (λ (o : Outcome Told). besides (Some d) (and_then (placed_at n o) (says (takes b) (past_element n c) es))) (sym (dfs_skipped id c t h.0))
  one_sound n (more id c es) t d (inr h) =
      ap (λ (o : Outcome ToldInIbss). and_then (placed_at n o) (says (takes_in_ibss b) (past_element n c) es)) (other_taken id c (tells_in_ibss t None) h.0)
      ∙ too_then n id c None (Some d) (says (takes_in_ibss b) (past_element n c) es) (says (takes b) (past_element n c) es) t (λ next. one_sound (past_element n c) es next d h.1)

  all_sound : (n : ℕ) (es : Elements) (t : Told) (d : Option Dfs) → DfsSound d es → says (takes_in_ibss b) n es (tells_in_ibss t None) ≡ besides d (says (takes b) n es t)
  all_sound n es t None h = none_sound n es t None h
  all_sound n es t (Some d) h = one_sound n es t d h

  pub sound_read : (body : List ℕ) (d : Option Dfs) → DfsSound d (elements_in (drop fixed_length body)) → ibss_beacon_means b body ≡ besides d (beacon_means b body)
  unfolding ibss_beacon_means beacon_means
  sound_read body d h =
      ap (checked _) (all_sound fixed_length (elements_in (drop fixed_length body)) (opening body) d h)
      ∙ checked_then _ (says (takes b) fixed_length (elements_in (drop fixed_length body)) (opening body)) _

  -- ---- an accepted body's elements 41 are sound, and what it says of them is what they come to

  twice : (c : List ℕ) (t : Told) (d : Dfs) {next : ToldInIbss} → takes_dfs c (tells_in_ibss t (Some d)) ≡ Ok next → ⊥
  unfolding checked
  twice c t d {next} = by (dfs_means c)
    where
      by : (o : Outcome Dfs) → and_then o (λ x. judged (true ⇒ Refusal.Repeated ∷ []) (tells_in_ibss t (Some x))) ≡ Ok next → ⊥
      by (Err r) e = never e
      by (Ok x) e = never e

  too_next : (id : ℕ) (c : List ℕ) (t : Told) (d : Option Dfs) {next : ToldInIbss} → takes_too b id c (tells_in_ibss t d) ≡ Ok next → (u : Told) × (next ≡ tells_in_ibss u d)
  too_next id c t d {next} e = let p = followed (takes b id c t) _ next e in (p.0, cc)

  -- after one there is no other
  no_second : (n : ℕ) (es : Elements) (t : Told) (d : Dfs) (x : ToldInIbss) → says (takes_in_ibss b) n es (tells_in_ibss t (Some d)) ≡ Ok x → NoDfs es × (Some d ≡ x.dfs)
  unfolding says NoDfs
  no_second n end t d x e = (tt, cc)
  no_second n (cut_header o) t d x e = absurd (never e)
  no_second n (cut_contents id) t d x e = absurd (never e)
  no_second n (more id c es) t d x e =
      let p = followed (placed_at n (takes_in_ibss b id c (tells_in_ibss t (Some d)))) (says (takes_in_ibss b) (past_element n c) es) x e in
      by (eqb id 41) refl p.0 (placed_value n (takes_in_ibss b id c (tells_in_ibss t (Some d))) p.1) p.2 (λ u. no_second (past_element n c) es u d x)
    where
      by : (k : Bool) → eqb id 41 ≡ k → (next : ToldInIbss) → takes_in_ibss b id c (tells_in_ibss t (Some d)) ≡ Ok next
          → says (takes_in_ibss b) (past_element n c) es next ≡ Ok x
          → ((u : Told) → says (takes_in_ibss b) (past_element n c) es (tells_in_ibss u (Some d)) ≡ Ok x → NoDfs es × (Some d ≡ x.dfs))
          → ((id ≡ 41 → ⊥) × NoDfs es) × (Some d ≡ x.dfs)
      by true k next f g on = absurd (twice c t d (sym (dfs_taken id c (tells_in_ibss t (Some d)) (eqb-true id 41 k)) ∙ f))
      by false k next f g on =
          let q = too_next id c t (Some d) (sym (other_taken id c (tells_in_ibss t (Some d)) (eqb-false id 41 k)) ∙ f) in
          let r = on q.0 (ap (says (takes_in_ibss b) (past_element n c) es) (sym q.1) ∙ g) in
          ((eqb-false id 41 k, r.0), r.1)

  first_next : (c : List ℕ) (t : Told) {next : ToldInIbss} → takes_dfs c (tells_in_ibss t None) ≡ Ok next → (d : Dfs) × (dfs_means c ≡ Ok d) × (tells_in_ibss t (Some d) ≡ next)
  first_next c t {next} e = let p = followed (dfs_means c) _ next e in (p.0, p.1, kept _ (passed _ _ _ p.2).1)

  sound_more : (id : ℕ) (c : List ℕ) (es : Elements) (m : Option Dfs) → (id ≡ 41 → ⊥) → DfsSound m es → DfsSound m (more id c es)
  unfolding NoDfs OneDfs
  sound_more id c es None h s = (h, s)
  sound_more id c es (Some d) h s = inr (h, s)

  sound_first : (id : ℕ) (c : List ℕ) (es : Elements) (d : Dfs) → id ≡ 41 → dfs_means c ≡ Ok d → NoDfs es → DfsSound (Some d) (more id c es)
  unfolding OneDfs
  sound_first id c es d h e s = inl (h, e, s)

  was_sound : (n : ℕ) (es : Elements) (t : Told) (x : ToldInIbss) → says (takes_in_ibss b) n es (tells_in_ibss t None) ≡ Ok x → DfsSound x.dfs es
  unfolding says NoDfs
  was_sound n end t x e = subst (λ (m : Option Dfs). DfsSound m end) (let same : None ≡ x.dfs = cc in same) tt
  was_sound n (cut_header o) t x e = absurd (never e)
  was_sound n (cut_contents id) t x e = absurd (never e)
  was_sound n (more id c es) t x e =
      let p = followed (placed_at n (takes_in_ibss b id c (tells_in_ibss t None))) (says (takes_in_ibss b) (past_element n c) es) x e in
      by (eqb id 41) refl p.0 (placed_value n (takes_in_ibss b id c (tells_in_ibss t None)) p.1) p.2 (λ u. was_sound (past_element n c) es u x)
    where
      by : (k : Bool) → eqb id 41 ≡ k → (next : ToldInIbss) → takes_in_ibss b id c (tells_in_ibss t None) ≡ Ok next
          → says (takes_in_ibss b) (past_element n c) es next ≡ Ok x
          → ((u : Told) → says (takes_in_ibss b) (past_element n c) es (tells_in_ibss u None) ≡ Ok x → DfsSound x.dfs es)
          → DfsSound x.dfs (more id c es)
      by true k next f g on =
          let q = first_next c t (sym (dfs_taken id c (tells_in_ibss t None) (eqb-true id 41 k)) ∙ f) in
          let r = no_second (past_element n c) es t q.0 x (ap (says (takes_in_ibss b) (past_element n c) es) q.2 ∙ g) in
          subst (λ (m : Option Dfs). DfsSound m (more id c es)) r.1 (sound_first id c es q.0 (eqb-true id 41 k) q.1 r.0)
      by false k next f g on =
          let q = too_next id c t None (sym (other_taken id c (tells_in_ibss t None) (eqb-false id 41 k)) ∙ f) in
          sound_more id c es x.dfs (eqb-false id 41 k) (on q.0 (ap (says (takes_in_ibss b) (past_element n c) es) (sym q.1) ∙ g))

  pub accepted_sound : (body : List ℕ) (x : ToldInIbss) → ibss_beacon_means b body ≡ Ok x → DfsSound x.dfs (elements_in (drop fixed_length body))
  unfolding ibss_beacon_means
  accepted_sound body x e = was_sound fixed_length (elements_in (drop fixed_length body)) (opening body) x (stands _ (passed _ _ _ (passed _ _ _ e).1).1)

  -- and 01 accepts it as what it says beside them
  pub accepted_in_01 : (body : List ℕ) (x : ToldInIbss) → ibss_beacon_means b body ≡ Ok x → beacon_means b body ≡ Ok x.told
  accepted_in_01 body x e = by (beacon_means b body) (sym (sound_read body x.dfs (accepted_sound body x e)) ∙ e)
    where
      by : (o : Placed Told) → besides x.dfs o ≡ Ok x → o ≡ Ok x.told
      by (Err r) f = absurd (never f)
      by (Ok t) f = ap Ok (let same : t ≡ x.told = cc in same)
