-- Fed piece by piece, a file gives exactly its list (01, "Capture blocks and the evening list"), of the code's own results. Assumes nothing.
use mathlib.Core.List.{List, [], ◌∷◌, ◌++◌, append-nil}
use mathlib.Core.Path.{◌≡◌, refl, sym, ap, ap₂, ◌∙◌, subst}
use Prim.Native.Nat.{ℕ}
use Rattle.capture.proofs.Cutting.{cut_at_block}
use Rattle.capture.proofs.FedBlocks.{told_after}
use Rattle.capture.proofs.Fitting.{has_lines, fed_is}
use Rattle.octets.proofs.Storing.{filled_front}
use Rattle.capture.specs.Listers.{fresh}
use Rattle.capture.specs.Lists.{Told, before, blocks_after, blocks_in, blocks_told, closing_for, list_of}
use Rattle.capture.specs.declared.lister.Lister.{Lister}
use Rattle.pen.proofs.InRoom.{in_front_lem}
use Rattle.claims.specs.FedFiles.{Begins, Feeds, FedAll, CutAtBlocks, joined, Closes}

-- ---- a piece

abbrev tells : List ℕ → Lister → Told
tells piece l = blocks_told (blocks_in piece) l

feeds_told : (l : Lister) (piece text : List ℕ) (next : Lister) → Feeds l piece text next → (text ≡ (tells piece l).text) × (next ≡ (tells piece l).lister)
feeds_told l piece text next (κs, a, x, e, post, same-lister, same-piece, n, lines, front, left-lister) =
    let w = has_lines post.0 lines in
    let told : w.0 ≡ tells piece l = fed_is a.0 _ _ _ w.1 ∙ ap₂ tells same-piece same-lister in (
      sym front ∙ filled_front w.0.text a.1.1.0.now e.1.1.0.now w.4 n w.2 ∙ ap (λ (t : Told). t.text) told,
      sym left-lister ∙ w.3 ∙ ap (λ (t : Told). t.lister) told,
    )

-- ---- a file

-- a piece and what follows it
goes_on : (piece rest : List ℕ) (l : Lister) → blocks_in (piece ++ rest) ≡ blocks_in piece ++ blocks_in rest → tells (piece ++ rest) l ≡ before (tells piece l).text (tells rest (tells piece l).lister)
goes_on piece rest l e = ap (λ (bs : List (List ℕ)). blocks_told bs l) e ∙ told_after (blocks_in piece) (blocks_in rest) l

all_told : (ps : List (List ℕ)) → CutAtBlocks ps → (l : Lister) (text : List ℕ) (last : Lister) → FedAll ps l text last → (text ≡ (tells (joined ps) l).text) × (last ≡ (tells (joined ps) l).lister)
unfolding FedAll joined
all_told [] c l text last (none, same) = (none ∙ unfold blocks_in blocks_after blocks_told in refl, same ∙ unfold blocks_in blocks_after blocks_told in refl)
all_told (p ∷ []) c l text last (next, first, rest, fed, others, whole) =
    let w = feeds_told l p first next fed in
    let same : tells (p ++ []) l ≡ tells p l = ap (λ (os : List ℕ). tells os l) (append-nil p) in (
      whole ∙ ap₂ ◌++◌ w.0 others.0 ∙ append-nil _ ∙ sym (ap (λ (t : Told). t.text) same),
      others.1 ∙ w.1 ∙ sym (ap (λ (t : Told). t.lister) same),
    )
all_told (p ∷ q ∷ ps) c l text last (next, first, rest, fed, others, whole) =
    let w = feeds_told l p first next fed in
    let v = all_told (q ∷ ps) c.1 next rest last others in
    let rests = joined (q ∷ ps) in
    let after : tells rests next ≡ tells rests (tells p l).lister = ap (tells rests) w.1 in
    let same : tells (p ++ rests) l ≡ before (tells p l).text (tells rests (tells p l).lister) = goes_on p rests l (cut_at_block p rests c.0) in (
      whole ∙ ap₂ ◌++◌ w.0 (v.0 ∙ ap (λ (t : Told). t.text) after) ∙ sym (ap (λ (t : Told). t.text) same),
      v.1 ∙ ap (λ (t : Told). t.lister) after ∙ sym (ap (λ (t : Told). t.lister) same),
    )

closes_told : (l : Lister) (text : List ℕ) → Closes l text → text ≡ closing_for l
closes_told l text (κs, a, x, e, post, same-lister, whole) = sym whole ∙ in_front_lem x (closing_for a.0) post ∙ ap closing_for same-lister

-- a file that is fed in pieces, each but the last cut at the end of a block, and closed by the lister, gives its list
pub fed_file : (pieces : List (List ℕ)) → CutAtBlocks pieces → (lines closing : List ℕ) (first last : Lister) → Begins first → FedAll pieces first lines last → Closes last closing
    → lines ++ closing ≡ list_of (joined pieces)
unfolding list_of
fed_file pieces cut lines closing first last (κs, a, e, post) fed closes =
    let w = all_told pieces cut fresh lines last (subst (λ (l : Lister). FedAll pieces l lines last) post.0 fed) in
    ap₂ ◌++◌ w.0 (closes_told last closing closes ∙ ap closing_for w.1)
