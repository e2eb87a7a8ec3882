-- A pass over the blocks of a capture: their lines are stored after others, or only seen to fit, or do not fit. Assumes nothing.
use Rattle.std.specs.Prelude.{Ok, Err}
use mathlib.Core.Bool.{Bool, true, false}
use mathlib.Core.List.{List, [], ◌∷◌, ◌++◌, append-nil}
use mathlib.Core.Path.{◌≡◌, refl, sym, ap, ap₂, subst, ◌∙◌}
use Prim.Native.Nat.{ℕ, ◌+◌, ◌*◌, ◌<◌, ◌≤◌, min}
use native.Mathlib.Omega.{arith}
use borrow.Author.Tests.{ltb-true, ltb-false}
use lib.Dec.{ltb}
use lib.ListN.{length, take, drop, length-append, drop_of_length-le}
use lib.Seq.{take_at, take_all, drop_at}
use Rattle.answer.proofs.Judged.{never}
use Rattle.answer.specs.Checks.{Outcome, pick, checked, and_then}
use Rattle.answer.specs.declared.Refusal.{Refusal}
use Rattle.octets.specs.Writing.{room, wrote, left, Written}
use Rattle.octets.proofs.Storing.{filled_front, short_written, room_answer, left_not, left_short, left_nothing, left_length, left_after}
use Rattle.capture.proofs.Cutting.{first_block, one_more}
use Rattle.capture.proofs.Fitting.{always_fed, has_lines}
use Rattle.capture.proofs.Recording.{before_before}
use Rattle.capture.specs.Feeding.{enough_room, feed_means, listing_of, FedWith}
use Rattle.capture.specs.Listers.{block_limit, Fits}
use Rattle.capture.specs.Lists.{Told, nothing, before, block_told, blocks_after, blocks_in, blocks_told, file_told, closing_for, list_of}
use Rattle.capture.specs.declared.feeding.Listing.{Listing}
use Rattle.capture.specs.declared.lister.Lister.{Lister}
use Rattle.boundary.specs.CodeTerms.Passing.{passed, Passes}
use Rattle.boundary.specs.declared.whole.Progress.{Progress}

-- ---- octets at a place

module _ (os : List ℕ) (at : ℕ) (out : List ℕ) where
  -- what is known of a refusal, and of an accepted number
  pub short_wrote : {r : Refusal} → Err r ≡ wrote true os at out → (r ≡ Refusal.BufferShort) × (length out < at + length os)
  unfolding wrote room checked
  short_wrote {r} e = by (ltb (length out) (at + length os)) refl e
    where
      by : (b : Bool) → ltb (length out) (at + length os) ≡ b → ◌≡◌ {A = Outcome ℕ} (Err r) (pick b (Err Refusal.BufferShort) (Ok (length os)))
          → (r ≡ Refusal.BufferShort) × (length out < at + length os)
      by true h f = (cc, ltb-true (length out) (at + length os) h)
      by false h f = absurd (never f)

  pub all_wrote : {n : ℕ} → Ok n ≡ wrote true os at out → (n ≡ length os) × (at + length os ≤ length out)
  unfolding wrote room checked
  all_wrote {n} e = by (ltb (length out) (at + length os)) refl e
    where
      by : (b : Bool) → ltb (length out) (at + length os) ≡ b → ◌≡◌ {A = Outcome ℕ} (Ok n) (pick b (Err Refusal.BufferShort) (Ok (length os)))
          → (n ≡ length os) × (at + length os ≤ length out)
      by true h f = absurd (never (sym f))
      by false h f = (cc, ltb-false (length out) (at + length os) h)

  pub short_pass : (store : Bool) → length out < at + length os → Passes store os at out (Err Refusal.BufferShort) out
  short_pass store h = record { answers = (short_written os at out h).answers; leaves = sym (left_short os at out h store) }

-- what was told of lines that do not fit, or do
module _ (count : ℕ) (t : Told) (out : List ℕ) where
  too_long : {r : Refusal} → Err r ≡ passed count t out → (r ≡ Refusal.BufferShort) × (length out < count + length t.text)
  too_long {r} e = by (wrote true t.text count out) refl e
    where
      by : (o : Outcome ℕ) → wrote true t.text count out ≡ o → ◌≡◌ {A = Outcome Progress} (Err r) (and_then o (λ n. Ok (record { count = count + n; lister = t.lister })))
          → (r ≡ Refusal.BufferShort) × (length out < count + length t.text)
      by (Err q) h f = let w = short_wrote t.text count out (sym h) in (let same : r ≡ q = cc in same ∙ w.0, w.1)
      by (Ok n) h f = absurd (never f)

  fitting : {p : Progress} → Ok p ≡ passed count t out → (p.count ≡ count + length t.text) × (p.lister ≡ t.lister) × (count + length t.text ≤ length out)
  fitting {p} e = by (wrote true t.text count out) refl e
    where
      by : (o : Outcome ℕ) → wrote true t.text count out ≡ o → ◌≡◌ {A = Outcome Progress} (Ok p) (and_then o (λ n. Ok (record { count = count + n; lister = t.lister })))
          → (p.count ≡ count + length t.text) × (p.lister ≡ t.lister) × (count + length t.text ≤ length out)
      by (Err q) h f = absurd (never (sym f))
      by (Ok n) h f =
          let w = all_wrote t.text count out (sym h) in
          let same : p ≡ record { count = count + n; lister = t.lister } = cc in
          (ap (λ (q : Progress). q.count) same ∙ ap (λ (k : ℕ). count + k) w.0, ap (λ (q : Progress). q.lister) same, w.1)

-- ---- a block is fed

-- with enough room, and short of the limit, its lines are made
module _ (l : Lister) (b room : List ℕ) (enough : enough_room ≤ length room) (few : l.blocks < block_limit) {x : Listing} {made : List ℕ}
    (f : FedWith (feed_means l 1 (block_told b l) (length room)) l room x made) where
  always : feed_means l 1 (block_told b l) (length room) ≡ Ok (block_told b l)
  always = always_fed l 1 (block_told b l) (length room) (omega (arith, enough)) (omega (arith, few))

  pub not_refused : {r : Refusal} → x.wrote ≡ Err r → ⊥
  not_refused e = never (sym e ∙ ap (λ (y : Listing). y.wrote) (f.answers ∙ ap (listing_of l) always))

  pub made_lines : {n : ℕ} → x.wrote ≡ Ok n → (n ≤ length made) × (x.lister ≡ (block_told b l).lister) × (take n made ≡ (block_told b l).text)
  made_lines {n} e =
      let w = has_lines f e in
      let same : w.0 ≡ block_told b l = let g = w.1 in let h = always in cc in
      (omega (arith, w.2, ap length w.4, length-append w.0.text (drop (length w.0.text) room)), w.3 ∙ ap (λ (t : Told). t.lister) same, filled_front w.0.text room made w.4 n w.2 ∙ ap (λ (t : Told). t.text) same)

-- so much is told after lines that were put, or that did not fit
module _ (count : ℕ) (t : Told) {os : List ℕ} (out : List ℕ) (same : os ≡ t.text) where
  told_by : {o : Outcome ℕ} → o ≡ wrote true os count out → and_then o (λ n. Ok (record { count = count + n; lister = t.lister })) ≡ passed count t out
  told_by e = ap (λ (o : Outcome ℕ). and_then o (λ n. Ok (record { count = count + n; lister = t.lister }))) (e ∙ ap (λ (xs : List ℕ). wrote true xs count out) same)

  pub not_passed : {r : Refusal} → Err r ≡ wrote true os count out → Err r ≡ passed count t out
  not_passed e = told_by e

  pub now_passed : {n : ℕ} {l : Lister} → Ok n ≡ wrote true os count out → l ≡ t.lister → Ok (record { count = count + n; lister = l }) ≡ passed count t out
  now_passed {n} e f = ap (λ (l : Lister). Ok (record { count = count + n; lister = l })) f ∙ told_by e

-- ---- the first block of a file

cut : (b rest : List ℕ) → length b ≡ min 512 (length (b ++ rest)) → 0 < length (b ++ rest) → blocks_in (b ++ rest) ≡ b ∷ blocks_in rest
cut b rest size some = first_block (b ++ rest) some ∙ ap₂ (λ (x y : List ℕ). x ∷ blocks_in y) (front rest size) (others rest size)
  where
    front : (r : List ℕ) → length b ≡ min 512 (length (b ++ r)) → take 512 (b ++ r) ≡ b
    front [] e = ap (take 512) (append-nil b) ∙ take_all 512 b (omega (arith, e))
    front (x ∷ xs) e = take_at b (x ∷ xs) 512 (omega (arith, e, length-append b (x ∷ xs)))

    others : (r : List ℕ) → length b ≡ min 512 (length (b ++ r)) → drop 512 (b ++ r) ≡ r
    others [] e = ap (drop 512) (append-nil b) ∙ drop_of_length-le b {i = 512} (omega (arith, e))
    others (x ∷ xs) e = drop_at b (x ∷ xs) 512 (omega (arith, e, length-append b (x ∷ xs)))

nothing_left : (r : List ℕ) → length r ≡ 0 → r ≡ []
nothing_left [] e = refl
nothing_left (x ∷ xs) e = absurd (omega (arith, e))

-- ---- a pass

-- the blocks before `rest` are passed
pub record Standing (file : List ℕ) (store : Bool) (out₀ out : List ℕ) (p : Progress) (rest : List ℕ) : Type 0 where
  pub lines : List ℕ
  pub told : file_told file ≡ before lines (blocks_told (blocks_in rest) p.lister)
  pub many : p.count ≡ length lines
  pub inside : p.count ≤ length out₀
  pub stands : out ≡ left store lines 0 out₀
  pub fits : Fits p.lister
  pub few : 0 < length rest → 512 * p.lister.blocks + length rest ≡ length file

pub begins : (file : List ℕ) (store : Bool) (out₀ : List ℕ) (p : Progress) → p.count ≡ 0 → file_told file ≡ blocks_told (blocks_in file) p.lister → Fits p.lister → p.lister.blocks ≡ 0
    → Standing file store out₀ out₀ p file
begins file store out₀ p none same f new =
    record {
      lines = [];
      told = same;
      many = none;
      inside = omega (arith, none);
      stands = sym (left_nothing store out₀);
      fits = f;
      few = λ _. omega (arith, new);
    }

module _ {file : List ℕ} {store : Bool} {out₀ out : List ℕ} {p : Progress} {rest : List ℕ} (i : Standing file store out₀ out p rest) where
  pub same_size : length out ≡ length out₀
  same_size = ap length i.stands ∙ left_length store i.lines out₀ (omega (arith, i.many, i.inside))

  -- lines that do not fit were not stored
  not_stored : (store ≡ true → length (list_of file) ≤ length out₀) → length out₀ < 0 + length (list_of file) → out ≡ out₀
  not_stored may short = i.stands ∙ by store refl
    where
      by : (s : Bool) → store ≡ s → left s i.lines 0 out₀ ≡ out₀
      by true e = absurd (omega (arith, may e, short))
      by false e = left_not i.lines 0 out₀

  -- one block more
  module _ (b next : List ℕ) (e : rest ≡ b ++ next) (size : length b ≡ min 512 (length rest)) (some : 0 < length rest) where
    abbrev told_next : Told
    told_next = block_told b p.lister

    all : file_told file ≡ before (i.lines ++ told_next.text) (blocks_told (blocks_in next) told_next.lister)
    unfolding blocks_told
    all =
        i.told
        ∙ ap (λ (bs : List (List ℕ)). before i.lines (blocks_told bs p.lister))
        (ap blocks_in e ∙ cut b next (size ∙ ap (λ (r : List ℕ). min 512 (length r)) e) (subst (λ (r : List ℕ). 0 < length r) e some))
        ∙ before_before i.lines told_next.text _

    pub passes : {q : Progress} {exit : List ℕ} → Ok q ≡ passed p.count told_next out → Fits q.lister → exit ≡ left store told_next.text p.count out
        → Standing file store out₀ exit q next
    passes {q} a f w =
        let fit = fitting p.count told_next out a in
        let one = one_more b p.lister in
        record {
          lines = i.lines ++ told_next.text;
          told = all ∙ ap (λ (l : Lister). before (i.lines ++ told_next.text) (blocks_told (blocks_in next) l)) (sym fit.1);
          many = omega (arith, fit.0, i.many, length-append i.lines told_next.text);
          inside = omega (arith, fit.0, fit.2, same_size);
          stands =
              w ∙ ap₂ (λ (n : ℕ) (os : List ℕ). left store told_next.text n os) i.many i.stands
              ∙ left_after store i.lines told_next.text out₀ (omega (arith, fit.2, i.many, same_size));
          fits = f;
          few = λ k. omega (arith, i.few some, size, one, ap (λ (l : Lister). l.blocks) fit.1, ap length e, length-append b next);
        }

    -- its lines do not fit
    pub stops : {r : Refusal} {exit : List ℕ} → Err r ≡ passed p.count told_next out → exit ≡ left store told_next.text p.count out
        → (store ≡ true → length (list_of file) ≤ length out₀) → Passes store (list_of file) 0 out₀ (Err r) exit
    unfolding list_of
    stops {r} {exit} a w may =
        let long = too_long p.count told_next out a in
        let others = (blocks_told (blocks_in next) told_next.lister).text in
        let short : length out₀ < 0 + length (list_of file) =
        omega (arith, long.1, same_size, i.many, ap (λ (t : Told). length t.text) all, length-append (i.lines ++ told_next.text) others, length-append i.lines told_next.text, length-append (file_told file).text (closing_for (file_told file).lister)) in
        let same = not_stored may short in
        let never_fits = short_pass (list_of file) 0 out₀ store short in
        record { answers = ap Err long.0 ∙ never_fits.answers; leaves = w ∙ left_short told_next.text p.count out long.1 store ∙ same ∙ never_fits.leaves }

  -- all blocks are passed, and the closing line comes after their lines
  module _ (none : length rest ≡ 0) where
    abbrev closing : List ℕ
    closing = closing_for p.lister

    text : list_of file ≡ i.lines ++ closing
    unfolding list_of blocks_told blocks_in blocks_after
    text =
        let all : file_told file ≡ before i.lines (nothing p.lister) = i.told ∙ ap (λ (r : List ℕ). before i.lines (blocks_told (blocks_in r) p.lister)) (nothing_left rest none) in
        ap (λ (t : Told). t.text ++ closing_for t.lister) all ∙ ap (λ (os : List ℕ). os ++ closing) (append-nil i.lines)

    pub closes : {n : ℕ} {exit : List ℕ} → Passes store closing p.count out (Ok n) exit → Passes store (list_of file) 0 out₀ (Ok (p.count + n)) exit
    closes {n} {exit} w =
        let fit = all_wrote closing p.count out w.answers in
        let size = length-append i.lines closing in
        subst (λ (os : List ℕ). Passes store os 0 out₀ (Ok (p.count + n)) exit) (sym text)
        (record {
          answers = ap Ok (let e : p.count + n ≡ length (i.lines ++ closing) = omega (arith, fit.0, i.many, size) in e) ∙ sym (room_answer (i.lines ++ closing) 0 out₀ (omega (arith, fit.1, i.many, size, same_size)));
          leaves =
              w.leaves ∙ ap₂ (λ (k : ℕ) (os : List ℕ). left store closing k os) i.many i.stands
              ∙ left_after store i.lines closing out₀ (omega (arith, fit.1, i.many, same_size));
        })

    pub closes_short : {r : Refusal} {exit : List ℕ} → (store ≡ true → length (list_of file) ≤ length out₀) → Passes store closing p.count out (Err r) exit → Passes store (list_of file) 0 out₀ (Err r) exit
    closes_short {r} may w =
        let long = short_wrote closing p.count out w.answers in
        let short : length out₀ < 0 + length (list_of file) = omega (arith, long.1, same_size, i.many, ap length text, length-append i.lines closing) in
        let never_fits = short_pass (list_of file) 0 out₀ store short in
        record { answers = ap Err long.0 ∙ never_fits.answers; leaves = w.leaves ∙ left_short closing p.count out long.1 store ∙ not_stored may short ∙ never_fits.leaves }

-- ---- both passes

-- of a buffer that is too short every octet is left; a pass that stores nothing leaves each, and sees that there is room
pub seen_short : {store : Bool} (os : List ℕ) {out exit : List ℕ} {r : Refusal} → Passes store os 0 out (Err r) exit → Written true os 0 out (Err r) exit
seen_short {store} os {out} w =
    let long = short_wrote os 0 out w.answers in
    record { answers = w.answers; leaves = w.leaves ∙ left_short os 0 out long.1 store ∙ sym (left_short os 0 out long.1 true) }

pub seen_to_fit : (os : List ℕ) {out exit : List ℕ} {n : ℕ} → Passes false os 0 out (Ok n) exit → (exit ≡ out) × (length os ≤ length exit)
seen_to_fit os {out} w =
    let same = w.leaves ∙ left_not os 0 out in
    (same, omega (arith, (all_wrote os 0 out w.answers).1, ap length same))
