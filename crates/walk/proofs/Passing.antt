-- What the walk of an action body hands out and passes over, by its octets. Assumes nothing.
use Rattle.std.specs.Prelude.{Option, Some, Ok, Err}
use mathlib.Core.Path.{◌≡◌, refl, sym, ap, ◌∙◌}
use mathlib.Core.Bool.{Bool, true, false}
use mathlib.Core.List.{List, [], ◌∷◌, ◌++◌}
use mathlib.Core.Logic.{◌⊎◌, ⊎_elim}
use Prim.Native.Nat.{ℕ, ◌<◌, ◌≤◌}
use native.Mathlib.Omega.{arith}
use borrow.Author.Tests.{eqb-true}
use lib.Dec.{eqb}
use lib.ListN.{length, drop}
use Rattle.answer.proofs.Judged.{never}
use Rattle.answer.specs.Checks.{pick}
use Rattle.answer.specs.Faults.{Placed}
use Rattle.octets.specs.Elements.{element}
use Rattle.walk.specs.CodeTerms.Next.{next_after}
use Rattle.walk.specs.Elements.{Elements, elements_in, past_element}
use Rattle.walk.specs.Elements as Raw
use Rattle.walk.specs.Handed.{Handed, end, cut_header, cut_contents, more, passed, cut_passed, vendor_id, passing, handing, passing_in, handed_in}
use Rattle.walk.proofs.RunLaws.{front, none, split, empty, lying}

-- ---- an element's octets in front of others

pub front_handed : (id : ℕ) (c rest : List ℕ) → handed_in (element id c ++ rest) ≡ more id c (passing_in rest)
unfolding handing
front_handed id c rest = ap handing (front id c rest)

pub front_own : (id : ℕ) (c rest : List ℕ) → eqb id vendor_id ≡ false → passing_in (element id c ++ rest) ≡ more id c (passing_in rest)
unfolding passing
front_own id c rest own = ap passing (front id c rest) ∙ simp own

pub front_vendor : (c rest : List ℕ) → passing_in (element vendor_id c ++ rest) ≡ passed c (passing_in rest)
unfolding passing
front_vendor c rest = ap passing (front vendor_id c rest)

pub none_handed : handed_in [] ≡ end
unfolding handing
none_handed = ap handing none

pub none_passing : passing_in [] ≡ end
unfolding passing
none_passing = ap passing none

-- ---- and back: a run is walked from its first element on, or after one

abbrev pub Walks : List ℕ → Handed → Type 0
Walks run hs = (handed_in run ≡ hs) ⊎ (passing_in run ≡ hs)

-- what is handed out first is the first element
pub handed_raw : (es : Elements) (id : ℕ) (c : List ℕ) (hs : Handed) → handing es ≡ more id c hs → (fs : Elements) × (es ≡ Raw.more id c fs) × (passing fs ≡ hs)
unfolding handing
handed_raw Raw.end id c hs f = cc
handed_raw (Raw.cut_header o) id c hs f = cc
handed_raw (Raw.cut_contents i) id c hs f = cc
handed_raw (Raw.more i d fs) id c hs f =
    let same : i ≡ id = cc in
    let part : d ≡ c = cc in
    (fs, ap (λ (n : ℕ). Raw.more n d fs) same ∙ ap (λ (x : List ℕ). Raw.more id x fs) part, cc)

-- the octets of an element in front, and what the walk gives after it
pub record After (run os : List ℕ) (hs : Handed) : Type 0 where
  pub rest : List ℕ
  pub octets : run ≡ os ++ rest
  pub after : passing_in rest ≡ hs

after_split : (run : List ℕ) (id : ℕ) (c : List ℕ) (es : Elements) (hs : Handed) → elements_in run ≡ Raw.more id c es → passing es ≡ hs → After run (element id c) hs
after_split run id c es hs e p = let y = split run id c es e in record { rest = y.rest; octets = y.octets; after = ap passing y.after ∙ p }

module _ (run : List ℕ) (id : ℕ) (c : List ℕ) (hs : Handed) where
  given : (i : ℕ) (d : List ℕ) (fs : Elements) → elements_in run ≡ Raw.more i d fs → more i d (passing fs) ≡ more id c hs → After run (element id c) hs
  given i d fs e f =
      let same : i ≡ id = cc in
      let part : d ≡ c = cc in
      after_split run id c fs hs (e ∙ ap (λ (n : ℕ). Raw.more n d fs) same ∙ ap (λ (x : List ℕ). Raw.more id x fs) part) cc

  more_first : (es : Elements) → elements_in run ≡ es → handing es ≡ more id c hs → After run (element id c) hs
  unfolding handing
  more_first Raw.end e f = cc
  more_first (Raw.cut_header o) e f = cc
  more_first (Raw.cut_contents i) e f = cc
  more_first (Raw.more i d fs) e f = given i d fs e f

  more_later : (es : Elements) → elements_in run ≡ es → passing es ≡ more id c hs → After run (element id c) hs
  unfolding passing
  more_later Raw.end e f = cc
  more_later (Raw.cut_header o) e f = by (eqb o vendor_id) f
    where
      by : (t : Bool) → pick t cut_passed cut_header ≡ more id c hs → After run (element id c) hs
      by true g = cc
      by false g = cc
  more_later (Raw.cut_contents i) e f = by (eqb i vendor_id) f
    where
      by : (t : Bool) → pick t cut_passed (cut_contents i) ≡ more id c hs → After run (element id c) hs
      by true g = cc
      by false g = cc
  more_later (Raw.more i d fs) e f = by (eqb i vendor_id) f
    where
      by : (t : Bool) → pick t (passed d (passing fs)) (more i d (passing fs)) ≡ more id c hs → After run (element id c) hs
      by true g = cc
      by false g = given i d fs e g

  pub walks_more : Walks run (more id c hs) → After run (element id c) hs
  walks_more w = ⊎_elim (more_first (elements_in run) refl) (more_later (elements_in run) refl) w

module _ (run c : List ℕ) (hs : Handed) where
  not_first : (es : Elements) → handing es ≡ passed c hs → After run (element vendor_id c) hs
  unfolding handing
  not_first Raw.end f = cc
  not_first (Raw.cut_header o) f = cc
  not_first (Raw.cut_contents i) f = cc
  not_first (Raw.more i d fs) f = cc

  passed_later : (es : Elements) → elements_in run ≡ es → passing es ≡ passed c hs → After run (element vendor_id c) hs
  unfolding passing
  passed_later Raw.end e f = cc
  passed_later (Raw.cut_header o) e f = by (eqb o vendor_id) f
    where
      by : (t : Bool) → pick t cut_passed cut_header ≡ passed c hs → After run (element vendor_id c) hs
      by true g = cc
      by false g = cc
  passed_later (Raw.cut_contents i) e f = by (eqb i vendor_id) f
    where
      by : (t : Bool) → pick t cut_passed (cut_contents i) ≡ passed c hs → After run (element vendor_id c) hs
      by true g = cc
      by false g = cc
  passed_later (Raw.more i d fs) e f = by (eqb i vendor_id) refl f
    where
      by : (t : Bool) → eqb i vendor_id ≡ t → pick t (passed d (passing fs)) (more i d (passing fs)) ≡ passed c hs → After run (element vendor_id c) hs
      by true own g =
          let part : d ≡ c = cc in
          after_split run vendor_id c fs hs (e ∙ ap (λ (n : ℕ). Raw.more n d fs) (eqb-true i vendor_id own) ∙ ap (λ (x : List ℕ). Raw.more vendor_id x fs) part) cc
      by false own g = cc

  pub walks_passed : Walks run (passed c hs) → After run (element vendor_id c) hs
  walks_passed w = ⊎_elim (not_first (elements_in run)) (passed_later (elements_in run) refl) w

module _ (run : List ℕ) where
  end_first : (es : Elements) → elements_in run ≡ es → handing es ≡ end → run ≡ []
  unfolding handing
  end_first Raw.end e f = empty run e
  end_first (Raw.cut_header o) e f = cc
  end_first (Raw.cut_contents i) e f = cc
  end_first (Raw.more i d fs) e f = cc

  end_later : (es : Elements) → elements_in run ≡ es → passing es ≡ end → run ≡ []
  unfolding passing
  end_later Raw.end e f = empty run e
  end_later (Raw.cut_header o) e f = by (eqb o vendor_id) f
    where
      by : (t : Bool) → pick t cut_passed cut_header ≡ end → run ≡ []
      by true g = cc
      by false g = cc
  end_later (Raw.cut_contents i) e f = by (eqb i vendor_id) f
    where
      by : (t : Bool) → pick t cut_passed (cut_contents i) ≡ end → run ≡ []
      by true g = cc
      by false g = cc
  end_later (Raw.more i d fs) e f = by (eqb i vendor_id) f
    where
      by : (t : Bool) → pick t (passed d (passing fs)) (more i d (passing fs)) ≡ end → run ≡ []
      by true g = cc
      by false g = cc

  pub walks_end : Walks run end → run ≡ []
  walks_end w = ⊎_elim (end_first (elements_in run) refl) (end_later (elements_in run) refl) w

-- a run that does not end at once has an octet
pub walks_some : (run : List ℕ) (hs : Handed) → Walks run hs → (hs ≡ end → ⊥) → 0 < length run
walks_some [] hs w h = absurd (h (⊎_elim (λ (e : handed_in [] ≡ hs). sym e ∙ none_handed) (λ (e : passing_in [] ≡ hs). sym e ∙ none_passing) w))
walks_some (x ∷ run) hs w h = omega arith

-- ---- past what is passed over in front

abbrev pub past_passed : Handed → Handed
past_passed end = end
past_passed cut_header = cut_header
past_passed (cut_contents id) = cut_contents id
past_passed (more id c hs) = more id c hs
past_passed (passed c hs) = past_passed hs
past_passed cut_passed = cut_passed

-- where the walk stands then, at a vendor's element that is cut too
abbrev pub stands_at : Placed ℕ → Option ℕ
stands_at (Ok n) = Some n
stands_at (Err x) = x.offset

pub no_further_back : (hs : Handed) (n : ℕ) {m : ℕ} → stands_at (next_after n hs) ≡ Some m → n ≤ m
unfolding next_after
no_further_back end n {m} e = let here : n ≡ m = cc in omega arith
no_further_back cut_header n {m} e = let here : n ≡ m = cc in omega arith
no_further_back (cut_contents id) n {m} e = let here : n ≡ m = cc in omega arith
no_further_back (more id c hs) n {m} e = let here : n ≡ m = cc in omega arith
no_further_back (passed c hs) n {m} e = let on = no_further_back hs (past_element n c) e in omega arith
no_further_back cut_passed n {m} e = let here : n ≡ m = cc in omega arith

-- in a run, by the elements from a place on
module _ (run : List ℕ) where
  -- past one of them
  lies : (at id : ℕ) (d : List ℕ) (fs : Elements) → elements_in (drop at run) ≡ Raw.more id d fs → (elements_in (drop (past_element at d) run) ≡ fs) × (past_element at d ≤ length run)
  lies at id d fs e =
      let y = split (drop at run) id d fs e in
      let z = lying run at id d y.rest y.octets in
      (ap elements_in z.after ∙ y.after, z.inside)

  module _ (m : ℕ) where
    -- what is handed out next stands where the walk goes on
    abbrev Onward : ℕ → Handed → Type 0
    Onward at hs = next_after at hs ≡ Ok m → past_passed hs ≡ handed_in (drop m run)

    stays : (at : ℕ) (hs : Handed) → hs ≡ handed_in (drop at run) → at ≡ m → hs ≡ handed_in (drop m run)
    stays at hs h e = h ∙ ap (λ (n : ℕ). handed_in (drop n run)) e

    goes_on : (es : Elements) (at : ℕ) → elements_in (drop at run) ≡ es → Onward at (passing es)
    unfolding passing handing next_after
    goes_on Raw.end at e = λ h. stays at end (sym (ap handing e)) cc
    goes_on (Raw.cut_header o) at e = by (eqb o vendor_id)
      where
        by : (t : Bool) → Onward at (pick t cut_passed cut_header)
        by true = λ h. absurd (never h)
        by false = λ h. stays at cut_header (sym (ap handing e)) cc
    goes_on (Raw.cut_contents i) at e = by (eqb i vendor_id)
      where
        by : (t : Bool) → Onward at (pick t cut_passed (cut_contents i))
        by true = λ h. absurd (never h)
        by false = λ h. stays at (cut_contents i) (sym (ap handing e)) cc
    goes_on (Raw.more i d fs) at e = by (eqb i vendor_id) (goes_on fs (past_element at d) (lies at i d fs e).0)
      where
        by : (t : Bool) → Onward (past_element at d) (passing fs) → Onward at (pick t (passed d (passing fs)) (more i d (passing fs)))
        by true on = on
        by false on = λ h. stays at (more i d (passing fs)) (sym (ap handing e)) cc

    abbrev Inside : ℕ → Handed → Type 0
    Inside at hs = stands_at (next_after at hs) ≡ Some m → m ≤ length run

    here : (at : ℕ) → at ≤ length run → Some at ≡ Some m → m ≤ length run
    here at h e = let same : at ≡ m = cc in omega (arith, h)

    inside_by : (es : Elements) (at : ℕ) → elements_in (drop at run) ≡ es → at ≤ length run → Inside at (passing es)
    unfolding passing next_after
    inside_by Raw.end at e h = here at h
    inside_by (Raw.cut_header o) at e h = by (eqb o vendor_id)
      where
        by : (t : Bool) → Inside at (pick t cut_passed cut_header)
        by true = here at h
        by false = here at h
    inside_by (Raw.cut_contents i) at e h = by (eqb i vendor_id)
      where
        by : (t : Bool) → Inside at (pick t cut_passed (cut_contents i))
        by true = here at h
        by false = here at h
    inside_by (Raw.more i d fs) at e h = let s = lies at i d fs e in by (eqb i vendor_id) (inside_by fs (past_element at d) s.0 s.1)
      where
        by : (t : Bool) → Inside (past_element at d) (passing fs) → Inside at (pick t (passed d (passing fs)) (more i d (passing fs)))
        by true on = on
        by false on = here at h

  -- and lies in the run
  pub inside : (at : ℕ) {m : ℕ} → at ≤ length run → stands_at (next_after at (passing_in (drop at run))) ≡ Some m → m ≤ length run
  inside at {m} h = inside_by m (elements_in (drop at run)) at refl h

  pub onward_at : (at : ℕ) {m : ℕ} → next_after at (passing_in (drop at run)) ≡ Ok m → past_passed (passing_in (drop at run)) ≡ handed_in (drop m run)
  onward_at at {m} e = goes_on m (elements_in (drop at run)) at refl e
