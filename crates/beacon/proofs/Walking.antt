-- The walk over a body's elements: what was said up to a place, and its ways on. Assumes nothing.
use Rattle.std.specs.Prelude.{Ok, Err, Some, None, Option, is_some, option_map}
use mathlib.Core.Path.{◌≡◌, refl, sym, ap, ◌∙◌}
use mathlib.Core.Bool.{Bool, true, false}
use mathlib.Core.List.{List}
use mathlib.Core.Logic.{◌⊎◌, inl, inr}
use Prim.Native.Nat.{ℕ, ◌+◌, ◌<◌}
use native.Mathlib.Omega.{arith}
use lib.ListN.{length, drop, set}
use Rattle.answer.specs.Checks.{Outcome, and_then}
use Rattle.answer.specs.Faults.{fault_at, Placed}
use Rattle.answer.specs.declared.Refusal.{Refusal}
use Rattle.element.specs.IbssDfs.{Dfs}
use Rattle.element.specs.declared.quiet.Quiet.{Quiet}
use Rattle.walk.specs.CodeTerms.Found.{follow}
use Rattle.walk.specs.Elements.{Elements, more, elements_in, past_element}
use Rattle.walk.specs.declared.Found.{Found}
use Rattle.beacon.specs.Allowed.{Allowed}
use Rattle.beacon.specs.Beacons.{Told, tells, quiet_limit, takes, says}
use Rattle.beacon.specs.CodeTerms.Adding.{added_told, SlotlessIn}
use Rattle.beacon.specs.CodeTerms.Naming.{reads_dfs, takes_where, first_dfs, naming_laid}
use Rattle.beacon.specs.CodeTerms.Quieting.{QuietAt}
use Rattle.beacon.specs.IbssBeacons.{ToldInIbss, tells_in_ibss, told_where}
use Rattle.beacon.specs.Laid.{no_quiet, slots, dfs_heard, laid}
use Rattle.beacon.specs.declared.Heard.{Heard}
use Rattle.beacon.specs.declared.HeardDfs.{HeardDfs}
use Rattle.beacon.specs.declared.Notice.{Notice}
use Rattle.beacon.proofs.Allowing.{allowed_takes}
use Rattle.beacon.proofs.NamedDfs.{named_with, naming_refused, naming_accepted}
use Rattle.beacon.proofs.Quieting.{not_dfs, quiet_taken}
use Rattle.beacon.proofs.Saying.{says_more}
use Rattle.beacon.proofs.Slots.{one_more, next_slot}

-- what is handed out for an accepted body
abbrev pub heard_in : Notice → List Quiet → ℕ → Option HeardDfs → Heard
heard_in notice slots count dfs = record { notice = notice; quiets = slots; count = count; dfs = dfs }

module _ (ibss : Bool) (b index : ℕ) (body : List ℕ) where
  -- what was said before a place, all of it allowed; what the elements from there on add to it is what the body says
  pub record Walked (at : ℕ) (notice : Notice) (filled : List Quiet) (count : ℕ) (dfs : Option HeardDfs) : Type 0 where
    pub quiets : List Quiet
    pub kept_quiets : filled ≡ slots quiets
    pub kept_count : count ≡ length quiets
    pub named : Option Dfs
    pub kept_dfs : dfs ≡ option_map (dfs_heard index) named
    pub allowed : Allowed b (tells notice quiets)
    pub rest : says (takes_where ibss b) at (elements_in (drop at body)) (tells_in_ibss (tells notice quiets) named) ≡ told_where ibss b body

  module _ (at : ℕ) (notice : Notice) (filled : List Quiet) (count : ℕ) (dfs : Option HeardDfs) (w : Walked at notice filled count dfs) where
    abbrev told : Told
    told = tells notice w.quiets

    abbrev before : ToldInIbss
    before = tells_in_ibss told w.named

    from_here : {es : Elements} {o : Placed ToldInIbss} → elements_in (drop at body) ≡ es → says (takes_where ibss b) at es before ≡ o → o ≡ told_where ibss b body
    from_here {es} {o} e f = sym (ap (λ (x : Elements). says (takes_where ibss b) at x before) e ∙ f) ∙ w.rest

    -- ---- no whole element

    module _ (f : Found) (r : elements_in (drop at body) ≡ follow body f) where
      pub at_end : f ≡ Found.End → Ok (heard_in notice filled count dfs) ≡ laid index (told_where ibss b body)
      unfolding says
      at_end e = rw (w.kept_quiets, w.kept_count, w.kept_dfs) (ap (laid index) (from_here (r ∙ ap (follow body) e) refl))

      pub at_cut : ((x : ℕ) × (f ≡ Found.CutHeader x)) ⊎ ((x : ℕ) × (f ≡ Found.CutContents x)) → Err (fault_at at Refusal.ElementCut) ≡ told_where ibss b body
      unfolding says
      at_cut (inl e) = from_here (r ∙ ap (follow body) e.1) refl
      at_cut (inr e) = from_here (r ∙ ap (follow body) e.1) refl

    -- ---- a whole element, by what it comes to

    module _ (id : ℕ) (c : List ℕ) (stop : ℕ) (e : elements_in (drop at body) ≡ more id c (elements_in (drop stop body))) (p : past_element at c ≡ stop) where
      stops : (r : Refusal) → takes_where ibss b id c before ≡ Err r → Err (fault_at at r) ≡ told_where ibss b body
      stops r t = from_here e (says_more (takes_where ibss b) at id c (elements_in (drop stop body)) before t)

      goes_on : (n : Notice) (qs : List Quiet) (d : Option Dfs) → takes_where ibss b id c before ≡ Ok (tells_in_ibss (tells n qs) d) → Allowed b (tells n qs)
          → {slots' : List Quiet} {count' : ℕ} {dfs' : Option HeardDfs} → slots' ≡ slots qs → count' ≡ length qs → dfs' ≡ option_map (dfs_heard index) d → Walked stop n slots' count' dfs'
      goes_on n qs d t a eq en ed =
          record {
            quiets = qs;
            kept_quiets = eq;
            kept_count = en;
            named = d;
            kept_dfs = ed;
            allowed = a;
            rest =
                ap (λ (k : ℕ). says (takes_where ibss b) k (elements_in (drop stop body)) (tells_in_ibss (tells n qs) d)) (sym p)
                ∙ from_here e (says_more (takes_where ibss b) at id c (elements_in (drop stop body)) before t);
          }

      -- ---- element 41, by how it was read

      module _ (reads : reads_dfs ibss id ≡ true) (v : Outcome HeardDfs) (l : v ≡ naming_laid index (first_dfs (is_some dfs) c)) where
        -- one was handed out where one was named
        same_named : (d : Option Dfs) → is_some (option_map (dfs_heard index) d) ≡ is_some d
        same_named None = refl
        same_named (Some d) = refl

        first : v ≡ naming_laid index (first_dfs (is_some w.named) c)
        first = l ∙ ap (λ (t : Bool). naming_laid index (first_dfs t c)) (ap is_some w.kept_dfs ∙ same_named w.named)

        named_as : {o : Outcome Dfs} → first_dfs (is_some w.named) c ≡ o → takes_where ibss b id c before ≡ and_then o (λ d. Ok (tells_in_ibss told (Some d)))
        unfolding takes_where
        named_as f = rw reads (named_with c told w.named) ∙ ap (λ (o : Outcome Dfs). and_then o (λ d. Ok (tells_in_ibss told (Some d)))) f

        pub at_bad_dfs : (r : Refusal) → v ≡ Err r → Err (fault_at at r) ≡ told_where ibss b body
        at_bad_dfs r a = stops r (named_as (naming_refused index _ r (sym a ∙ first)))

        pub at_dfs : (h : HeardDfs) → v ≡ Ok h → Walked stop notice filled count (Some h)
        at_dfs h a =
            let q = naming_accepted index _ h (sym a ∙ first) in
            goes_on notice w.quiets (Some q.0) (named_as q.1) w.allowed w.kept_quiets w.kept_count (ap Some q.2)

      -- ---- any other, by what was added

      abbrev pub Comes : Outcome Notice → Type 0
      Comes added = added_told w.quiets added ≡ takes b id c told

      -- where no Quiet element was found that finds a slot, this is none either
      pub no_slot : QuietAt body at count b None → SlotlessIn w.quiets b id c
      no_slot none q i m = rw (← w.kept_count) (none c (elements_in (drop stop body)) q (e ∙ ap (λ (k : ℕ). more k c (elements_in (drop stop body))) i) m)

      module _ (skips : reads_dfs ibss id ≡ false) where
        taken_as_lem : {o : Outcome Told} → o ≡ takes b id c told → takes_where ibss b id c before ≡ and_then o (λ next. Ok (tells_in_ibss next w.named))
        unfolding takes_where
        taken_as_lem t = rw skips (ap (λ (o : Outcome Told). and_then o (λ next. Ok (tells_in_ibss next w.named))) (sym t))

        pub at_refused : (r : Refusal) → Comes (Err r) → Err (fault_at at r) ≡ told_where ibss b body
        at_refused r t = stops r (taken_as_lem t)

        keeps_dfs : (n : Notice) (qs : List Quiet) → Ok (tells n qs) ≡ takes b id c told → {slots' : List Quiet} {count' : ℕ}
            → slots' ≡ slots qs → count' ≡ length qs → Walked stop n slots' count' dfs
        keeps_dfs n qs t eq en = goes_on n qs w.named (taken_as_lem t) (allowed_takes b id c told w.allowed (tells n qs) (sym t)) eq en w.kept_dfs

        pub at_notice : (n : Notice) → Comes (Ok n) → Walked stop n filled count dfs
        at_notice n t = keeps_dfs n w.quiets t w.kept_quiets w.kept_count

    -- ---- a Quiet element that finds a slot

    module _ (q : Quiet) (h : QuietAt body at count b (Some q)) where
      free : length w.quiets < quiet_limit
      free = omega (arith, h.1, w.kept_count)

      pub at_quiet : Walked (at + 8) notice (set filled count q) (count + 1) dfs
      at_quiet =
          keeps_dfs 40 h.0.contents (at + 8) h.0.begins h.0.past (not_dfs ibss) notice _ (quiet_taken b h.0.contents notice w.quiets q h.0.means free)
          (rw (w.kept_quiets, w.kept_count) (next_slot w.quiets q quiet_limit no_quiet free))
          (rw w.kept_count (sym (one_more w.quiets q)))
