-- Pieces of a file, listed one after the other. Assumes nothing.
use Rattle.std.specs.Prelude.{Result, Ok, Err}
use mathlib.Core.List.{List, [], ◌++◌}
use mathlib.Core.Logic.{◌⊎◌}
use mathlib.Core.Path.{◌≡◌, refl, sym, ap, subst, ◌∙◌}
use Prim.Native.Nat.{ℕ, ◌%◌}
use native.Mathlib.Omega.{arith}
use lib.ListN.{length, length-append, take}
use Rattle.answer.specs.Checks.{Outcome}
use Rattle.block.specs.Blocks.{block_size}
use Rattle.capture.proofs.Cutting.{cut_at_block}
use Rattle.capture.proofs.FedBlocks.{told_after}
use Rattle.capture.proofs.Fitting.{fed_is}
use Rattle.capture.specs.Listers.{fresh}
use Rattle.capture.specs.Lists.{Told, blocks_after, blocks_in, blocks_told, file_told}
use Rattle.capture.specs.declared.lister.Lister.{Lister}
use Rattle.list.specs.Program.{fed, ListedAs, PieceListed, PieceOf, turned_by, Turned, LeftByFile, LeftByBlocks}
use Rattle.list.specs.declared.Listed.{Listed}
use Rattle.list.specs.declared.input.Filled.{Filled}
use Rattle.std.proofs.Common.{length-take-le}
use Rattle.list.specs.declared.output.Cut.{Cut}

-- ---- a piece

-- one that was listed and written leaves the lister that it tells
listed : {q : Lister} (o : Outcome Told) → ListedAs o (Ok q) → (t : Told) × (o ≡ Ok t) × (q ≡ t.lister)
listed (Err r) e = absurd (let z : ◌≡◌ {A = ℕ} 0 1 = cc in omega arith)
listed (Ok t) (◌⊎◌.inl e) = (t, refl, cc)
listed (Ok t) (◌⊎◌.inr e) = absurd (let z : ◌≡◌ {A = ℕ} 0 1 = cc in omega arith)

-- ---- piece after piece

-- nothing is listed yet
pub none_listed : {l : Lister} → l ≡ fresh → LeftByBlocks l
unfolding blocks_told blocks_in blocks_after
none_listed e = record { file = []; same = e; cut = refl }

module _ {l next : Lister} {out exit : List ℕ} (piece : List ℕ) (r : LeftByBlocks l) (p : PieceListed l piece out (Ok next) exit) where
  pub one_more : next ≡ (file_told (r.file ++ piece)).lister
  one_more =
      let w = listed (fed l piece (length out)) p.stands in
      w.2
      ∙ ap (λ (x : Told). x.lister) (fed_is l (length (blocks_in piece)) (blocks_told (blocks_in piece) l) (length out) w.1)
      ∙ ap (λ (m : Lister). (blocks_told (blocks_in piece) m).lister) r.same
      ∙ sym (ap (λ (x : Told). x.lister) (ap (λ (bs : List (List ℕ)). blocks_told bs fresh) (cut_at_block r.file piece r.cut) ∙ told_after (blocks_in r.file) (blocks_in piece) fresh))

  -- of whole blocks
  pub whole_more : length piece % block_size ≡ 0 → LeftByBlocks next
  whole_more whole = record { file = r.file ++ piece; same = one_more; cut = omega (arith, length-append r.file piece, r.cut, whole) }

left_by : {l next : Lister} {out exit : List ℕ} (piece : List ℕ) → LeftByBlocks l → PieceListed l piece out (Ok next) exit → LeftByFile next
left_by piece r p = (r.file ++ piece, one_more piece r p)

-- ---- a turn

module _ {l : Lister} {input out exit : List ℕ} {result : Result Listed Cut} (r : LeftByBlocks l) (t : Turned l input out result exit) where
  -- the last one leaves what the file leaves
  pub last_turn : {last : Lister} → result ≡ Ok (Listed.Last last) → LeftByFile last
  last_turn {last} e = by t.filled t.after t.listed t.stands
    where
      by : (f : Filled) (o : Result Lister Cut) → PieceListed l (take t.count input) out o exit → result ≡ turned_by f o → LeftByFile last
      by f (Err c) p g = absurd (let z : ◌≡◌ {A = ℕ} 0 1 = cc in omega arith)
      by Filled.Full (Ok m) p g = absurd (let z : ◌≡◌ {A = ℕ} 0 1 = cc in omega arith)
      by (Filled.Ended n) (Ok m) p g = let same : m ≡ last = cc in subst LeftByFile same (left_by (take t.count input) r p)
      by (Filled.Failed n) (Ok m) p g = absurd (let z : ◌≡◌ {A = ℕ} 0 1 = cc in omega arith)

  -- one before it has listed the whole buffer
  pub one_turn : {next : Lister} → result ≡ Ok (Listed.More next) → length input % block_size ≡ 0 → LeftByBlocks next
  one_turn {next} e whole = by t.filled t.after t.listed t.stands t.cut
    where
      by : (f : Filled) (o : Result Lister Cut) → PieceListed l (take t.count input) out o exit → result ≡ turned_by f o → PieceOf f t.count (length input) → LeftByBlocks next
      by f (Err c) p g k = absurd (let z : ◌≡◌ {A = ℕ} 0 1 = cc in omega arith)
      by Filled.Full (Ok m) p g k =
          let same : m ≡ next = cc in
          subst LeftByBlocks same (whole_more (take t.count input) r p (ap (λ (n : ℕ). n % block_size) (length-take-le t.count input (omega (arith, k)) ∙ k) ∙ whole))
      by (Filled.Ended n) (Ok m) p g k = absurd (let z : ◌≡◌ {A = ℕ} 0 1 = cc in omega arith)
      by (Filled.Failed n) (Ok m) p g k = absurd (let z : ◌≡◌ {A = ℕ} 0 1 = cc in omega arith)
