-- A list that may be written and whose body is not too long, written by one call of `append` for each record into a buffer with
-- room: every call is accepted, and the body's octets are then in front, with the rest of the buffer as it was. Assumes nothing.
use Rattle.std.specs.Prelude.{Ok}
use mathlib.Core.Path.{◌≡◌, refl, sym, ap, ap₂, ◌∙◌}
use mathlib.Core.Bool.{Bool, true, false, ◌&&◌}
use mathlib.Core.List.{List, [], ◌∷◌, ◌++◌, append-nil, append_assoc}
use Prim.Native.Nat.{ℕ, suc, ◌+◌, ◌≤◌}
use native.Mathlib.Omega.{arith}
use borrow.Author.Tests.{le-leb, lt-ltb, eq-eqb, ne_eqb}
use lib.Dec.{ltb, leb, eqb}
use lib.ListN.{length, take, drop, length-append}
use lib.Seq.{append_snoc, take-append_seam}
use Rattle.action.specs.Openings.{fixed_fields}
use Rattle.answer.specs.Checks.{Outcome, pick}
use Rattle.answer.proofs.Booleans.{clash, both}
use Rattle.octets.specs.Numbers.{Octets}
use Rattle.octets.specs.Writing.{wrote, left, filled}
use Rattle.octets.proofs.Storing.{after_answer, after_left}
use Rattle.walk.specs.Handed.{handed_in}
use Rattle.measurement_body.specs.Bodies.{longest_body, body_octets, begins, may_open, may_append, appended}
use Rattle.measurement_body.specs.Calls.{Buffer, after_put, may_put, appends}
use Rattle.measurement_body.specs.Lists.{AllFit, Sort, repeats, measurements_in, all_clear, all_interpreted, all_octets, may_all, may_list}
use Rattle.measurement_body.proofs.ListTrip.{Trip, first, may_first, list_there, list_known, list_clean, list_back, list_fits}

module _ {A : Type 0} (s : Sort A) (Fits : A → Type 0) (t : Trip s Fits) (token : ℕ) (allowed : may_open s token ≡ true) where
  -- what is there once some records are written
  abbrev there : List A → List ℕ
  there [] = []
  there (x ∷ l) = body_octets s token (x ∷ l)

  octets_append : (l m : List A) → all_octets s (l ++ m) ≡ all_octets s l ++ all_octets s m
  unfolding all_octets
  octets_append [] m = refl
  octets_append (x ∷ l) m =
      ap (λ (r : List ℕ). s.octets x ++ r) (octets_append l m) ∙ sym (append_assoc (s.octets x) (all_octets s l) (all_octets s m))

  one_octets : (a : A) → all_octets s (a ∷ []) ≡ s.octets a
  unfolding all_octets
  one_octets a = append-nil (s.octets a)

  -- a body has some octets
  some : (os : List ℕ) → eqb (length (0 ∷ s.action ∷ token ∷ os)) 0 ≡ false
  some os = ne_eqb (length (0 ∷ s.action ∷ token ∷ os)) 0 (λ z. omega arith)

  -- one record more
  there_more : (l : List A) (a : A) → there l ++ appended s token a (there l) ≡ there (l ++ (a ∷ []))
  unfolding appended
  there_more [] a = ap (λ (r : List ℕ). 0 ∷ s.action ∷ token ∷ r) (sym (one_octets a))
  there_more (x ∷ l) a =
      ap (λ (b : Bool). there (x ∷ l) ++ (pick b (0 ∷ s.action ∷ token ∷ []) [] ++ s.octets a)) (some (all_octets s (x ∷ l)))
      ∙ ap (λ (r : List ℕ). 0 ∷ s.action ∷ token ∷ r)
      (ap (λ (r : List ℕ). all_octets s (x ∷ l) ++ r) (sym (one_octets a)) ∙ sym (octets_append (x ∷ l) (a ∷ [])))

  longer : (l : List A) (a : A) → length (there l) + length (appended s token a (there l)) ≡ length (there (l ++ (a ∷ [])))
  longer l a = sym (length-append (there l) (appended s token a (there l))) ∙ ap length (there_more l a)

  grows : (l m : List A) → length (there l) ≤ length (there (l ++ m))
  grows [] m = omega arith
  grows (x ∷ l) m =
      omega (arith, ap length (octets_append (x ∷ l) m), length-append (all_octets s (x ∷ l)) (all_octets s m))

  -- a body of this action and token begins as one
  begun : (os : List ℕ) → begins s.action token (0 ∷ s.action ∷ token ∷ os) ≡ true
  begun os =
      let long : leb fixed_fields (length (0 ∷ s.action ∷ token ∷ os)) ≡ true = le-leb fixed_fields (length (0 ∷ s.action ∷ token ∷ os)) (omega arith) in
      simp (long, eq-eqb s.action s.action refl, eq-eqb token token refl)

  may_list_lem : (x : A) (l : List A) → may_all s [] (x ∷ l) ≡ true → may_list s (x ∷ l) ≡ true
  unfolding may_list
  may_list_lem x l m = simp (lt-ltb 0 (suc (length l)) (omega arith)) m

  short_enough : (l : List A) (a : A) → length (there (l ++ (a ∷ []))) ≤ longest_body
      → leb (length (there l) + length (appended s token a (there l))) longest_body ≡ true
  short_enough l a short = le-leb (length (there l) + length (appended s token a (there l))) longest_body (omega (arith, longer l a))

  -- the test accepts a record that may stand after those that were written, where the body is then not too long
  accepts : (l : List A) (a : A) → AllFit Fits l → may_all s [] l ≡ true → s.may a ≡ true → repeats s a l ≡ false
      → length (there (l ++ (a ∷ []))) ≤ longest_body → may_append s token a (there l) ≡ true
  unfolding may_append
  accepts [] a f m may new short = simp (may, allowed, short_enough [] a short)
  accepts (x ∷ l) a f m may new short =
      let os = all_octets s (x ∷ l) in
      simp (may, allowed, short_enough (x ∷ l) a short, some os, list_clean s Fits t (x ∷ l) [] m, list_there s Fits t (x ∷ l) f (may_list_lem x l m), list_known s Fits t (x ∷ l) [] m, new)
      (ap (λ (b : Bool). b && true) (begun os))

  -- ---- one call

  module _ (l : List A) (a : A) (buffer : List ℕ) (room : length (there (l ++ (a ∷ []))) ≤ length buffer) where
    abbrev added : List ℕ
    added = appended s token a (there l)

    seam : take (length (there l)) (filled (there l) buffer) ≡ there l
    seam = take-append_seam (there l) (drop (length (there l)) buffer)

    may_call : may_append s token a (there l) ≡ true → may_put s token a (length (there l)) (filled (there l) buffer) ≡ true
    may_call h = rw seam h

    call : (xs : List A) → may_append s token a (there l) ≡ true
        → appends s token (a ∷ xs) (length (there l)) (filled (there l) buffer)
        ≡ appends s token xs (length (there (l ++ (a ∷ [])))) (filled (there (l ++ (a ∷ []))) buffer)
    unfolding appends
    call xs h =
        let n = length (there l) in
        let b = filled (there l) buffer in
        let fits : length (there l) + length added ≤ length buffer = omega (arith, longer l a) in
        ap₂ (λ (m : Bool) (os : List ℕ). after_put (wrote m os n b) n (left m os n b) (appends s token xs)) (may_call h)
        (ap (appended s token a) seam)
        ∙ ap₂ (λ (o : Outcome ℕ) (r : List ℕ). after_put o n r (appends s token xs)) (after_answer (there l) added buffer fits) (after_left (there l) added buffer fits)
        ∙ ap₂ (λ (k : ℕ) (r : List ℕ). appends s token xs k (filled r buffer)) (longer l a) (there_more l a)

  -- ---- all of them

  fit_snoc : (l : List A) (a : A) → AllFit Fits l → Fits a → AllFit Fits (l ++ (a ∷ []))
  fit_snoc [] a f g = (g, tt)
  fit_snoc (x ∷ l) a f g = (f.0, fit_snoc l a f.1 g)

  may_snoc : (l before : List A) (a : A) → may_all s before l ≡ true → s.may a ≡ true → repeats s a (before ++ l) ≡ false
      → may_all s before (l ++ (a ∷ [])) ≡ true
  unfolding may_all
  may_snoc [] before a m may new =
      may_first s Fits t before a [] may (ap (repeats s a) (sym (append-nil before)) ∙ new) m
  may_snoc (x ∷ l) before a m may new =
      let p = first s Fits t before x l m in
      may_first s Fits t before x (l ++ (a ∷ [])) p.0 p.1
      (may_snoc l (before ++ (x ∷ [])) a p.2 may (ap (repeats s a) (append_snoc before x l) ∙ new))

  abbrev holding : List ℕ → List ℕ → Buffer
  holding os buffer = record { used = Ok (length os); octets = filled os buffer }

  all : (xs l : List A) (buffer : List ℕ) → AllFit Fits l → may_all s [] l ≡ true → AllFit Fits xs → may_all s l xs ≡ true
      → length (there (l ++ xs)) ≤ longest_body → length (there (l ++ xs)) ≤ length buffer
      → appends s token xs (length (there l)) (filled (there l) buffer) ≡ holding (there (l ++ xs)) buffer
  unfolding appends
  all [] l buffer f m g n short room = ap (λ (k : List A). holding (there k) buffer) (sym (append-nil l))
  all (a ∷ xs) l buffer f m g n short room =
      let p = first s Fits t l a xs n in
      let next = append_snoc l a xs in
      let size : length (there (l ++ (a ∷ []) ++ xs)) ≡ length (there (l ++ (a ∷ xs))) = ap (λ (k : List A). length (there k)) next in
      let more = grows (l ++ (a ∷ [])) xs in
      call l a buffer (omega arith) xs (accepts l a f m p.0 p.1 (omega arith))
      ∙ all xs (l ++ (a ∷ [])) buffer (fit_snoc l a f g.0) (may_snoc l [] a m p.0 p.1) g.1 p.2 (omega arith) (omega arith)
      ∙ ap (λ (k : List A). holding (there k) buffer) next

  module _ (buffer : List ℕ) where
    pub append_all : (xs : List A) → AllFit Fits xs → may_list s xs ≡ true → length (body_octets s token xs) ≤ longest_body
        → length (body_octets s token xs) ≤ length buffer → appends s token xs 0 buffer
        ≡ record { used = Ok (length (body_octets s token xs)); octets = filled (body_octets s token xs) buffer }
    unfolding may_list may_all
    append_all [] f m short room = clash (sym m)
    append_all (x ∷ xs) f m short room =
        all (x ∷ xs) [] buffer tt refl f (both (ltb 0 (length (x ∷ xs))) (may_all s [] (x ∷ xs)) m).1 short room

    -- so the records of an accepted run, with nothing uninterpreted and no reserved bit set, are written back octet for octet
    pub append_back : (run : List ℕ) (xs : List A) → Octets run → measurements_in s run ≡ Ok xs → all_interpreted s xs ≡ true
        → all_clear s (handed_in run) ≡ true → length (0 ∷ s.action ∷ token ∷ run) ≤ longest_body
        → length (0 ∷ s.action ∷ token ∷ run) ≤ length buffer → appends s token xs 0 buffer
        ≡ record { used = Ok (length (0 ∷ s.action ∷ token ∷ run)); octets = filled (0 ∷ s.action ∷ token ∷ run) buffer }
    append_back run xs o h i c short room =
        let b = list_back s Fits t run xs o h i c in
        let size = ap length b.1 in
        append_all xs (list_fits s Fits t run xs o h) b.0 (omega arith) (omega arith)
        ∙ ap (λ (r : List ℕ). holding (0 ∷ s.action ∷ token ∷ r) buffer) b.1
