-- What a block tells by how it was judged, and what feeding answers. Assumes nothing.
use Rattle.std.specs.Prelude.{Ok, Err, Option}
use mathlib.Core.Bool.{Bool, true, false}
use mathlib.Core.List.{List, [], ◌∷◌}
use mathlib.Core.Path.{◌≡◌, refl, sym, ap, ap₂, ◌∙◌}
use Prim.Native.Nat.{ℕ, ◌+◌, ◌*◌, ◌≤◌}
use native.Mathlib.Omega.{arith}
use borrow.Author.Tests.{le-ltb, ltb-false}
use lib.ListN.{length}
use Rattle.answer.proofs.Judged.{past, done, passed, kept}
use Rattle.answer.specs.Checks.{Outcome, ◌⇒◌, checked, judged, and_then}
use Rattle.answer.specs.declared.Refusal.{Refusal}
use Rattle.block.specs.Blocks.{block_means}
use Rattle.octets.specs.Writing.{filled}
use Rattle.capture.specs.CodeTerms.Following.{Fed}
use Rattle.capture.specs.CodeTerms.Rooms.{room_for, listed_as}
use Rattle.capture.specs.Feeding.{enough_room, feed_means, listing_of, filled_by, FedWith}
use Rattle.capture.specs.Listers.{block_limit}
use Rattle.capture.specs.Lists as Lists
use Rattle.capture.specs.Lists.{Told, block_told}
use Rattle.capture.specs.declared.feeding.Listing.{Listing}
use Rattle.capture.specs.declared.lister.Lister.{Lister}
use Rattle.capture.specs.declared.listing.Put.{Put}

-- what a block tells, by how it was judged
pub told_as : (l : Lister) (b : List ℕ) (j : Option ℕ) → block_means b ≡ j → Lists.judged j b l ≡ block_told b l
unfolding block_told
told_as l b j e = ap (λ (k : Option ℕ). Lists.judged k b l) (sym e)

-- ---- feeding

unfold_room : {A : Type 0} (t : A) (a b : Bool) (r q : Refusal) → judged (a ⇒ r ∷ b ⇒ q ∷ []) t ≡ and_then (judged {A = Unit {0}} (a ⇒ r ∷ b ⇒ q ∷ []) tt) (λ u. Ok t)
unfolding checked
unfold_room t true b r q = refl
unfold_room t false true r q = refl
unfold_room t false false r q = refl

module _ (l : Lister) (many : ℕ) (t : Told) (out : List ℕ) where
  by_room : {o : Outcome (Unit {0})} → o ≡ room_for l.blocks many (length out) → feed_means l many t (length out) ≡ and_then o (λ u. Ok t)
  unfolding feed_means room_for
  by_room e = unfold_room t _ _ _ _ ∙ ap (λ (o : Outcome (Unit {0})). and_then o (λ u. Ok t)) (sym e)

  pub not_fed : {r : Refusal} → Err r ≡ room_for l.blocks many (length out) → FedWith (feed_means l many t (length out)) l out (record { wrote = Err r; lister = l }) out
  not_fed e = record { answers = ap (listing_of l) (sym (by_room e)); leaves = ap (λ (o : Outcome Told). filled_by o out) (sym (by_room e)) }

  module _ (e : Ok tt ≡ room_for l.blocks many (length out)) where
    -- there is room, and the limit is not reached
    pub roomy : (l.blocks + many ≤ block_limit) × (many * enough_room ≤ length out)
    unfolding room_for
    roomy =
        let p = passed _ _ _ (sym e) in
        let q = passed _ _ _ p.1 in
        (ltb-false block_limit (l.blocks + many) p.0, ltb-false (length out) (many * enough_room) q.0)

    pub fed : (put : Put) {exit : List ℕ} → Fed l t put → exit ≡ filled t.text out → FedWith (feed_means l many t (length out)) l out (listed_as put) exit
    fed put w f =
        record {
          answers = ap₂ (λ (n : ℕ) (x : Lister). record { wrote = Ok n; lister = x }) w.many w.same ∙ ap (listing_of l) (sym (by_room e));
          leaves = f ∙ ap (λ (o : Outcome Told). filled_by o out) (sym (by_room e));
        }

-- with enough room, and short of the limit, the lines are there
pub always_fed : (l : Lister) (many : ℕ) (t : Told) (size : ℕ) → many * enough_room ≤ size → l.blocks + many ≤ block_limit → feed_means l many t size ≡ Ok t
unfolding feed_means
always_fed l many t size room few =
    sym (past _ _ _ (le-ltb block_limit (l.blocks + many) few) (past _ _ _ (le-ltb size (many * enough_room) room) (done _)))

-- what is known of blocks that have lines
pub has_lines : {o : Outcome Told} {l : Lister} {out exit : List ℕ} {x : Listing} {n : ℕ} → FedWith o l out x exit → x.wrote ≡ Ok n
    → (t : Told) × (o ≡ Ok t) × (n ≡ length t.text) × (x.lister ≡ t.lister) × (exit ≡ filled t.text out)
has_lines {o} {l} {out} {exit} {x} {n} w e = by o w.answers w.leaves
  where
    by : (o : Outcome Told) → x ≡ listing_of l o → exit ≡ filled_by o out
        → (t : Told) × (o ≡ Ok t) × (n ≡ length t.text) × (x.lister ≡ t.lister) × (exit ≡ filled t.text out)
    by (Err r) a f = let g : Ok n ≡ Err r = sym e ∙ ap (λ (y : Listing). y.wrote) a in absurd (let z : ◌≡◌ {A = ℕ} 0 1 = cc in omega arith)
    by (Ok t) a f = let g : Ok n ≡ Ok (length t.text) = sym e ∙ ap (λ (y : Listing). y.wrote) a in (t, refl, cc, ap (λ (y : Listing). y.lister) a, f)

-- and what they are
pub fed_is : (l : Lister) (many : ℕ) (t : Told) (size : ℕ) {u : Told} → feed_means l many t size ≡ Ok u → u ≡ t
unfolding feed_means
fed_is l many t size e = sym (kept _ (passed _ _ _ (passed _ _ _ e).1).1)
