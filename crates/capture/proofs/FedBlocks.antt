-- How many blocks some octets are, blocks after others, and one block alone. Assumes nothing.
use Rattle.std.specs.Prelude.{None}
use mathlib.Core.List.{List, [], ◌∷◌, ◌++◌, append-nil}
use mathlib.Core.Path.{◌≡◌, refl, sym, ap, ap₂, ◌∙◌}
use Prim.Native.Nat.{ℕ, zero, suc, ◌≤◌}
use native.Mathlib.Omega.{arith}
use lib.ListN.{length, drop, length-drop, drop_of_length-le}
use lib.Seq.{take_all}
use Rattle.block.proofs.Judging.{other_size}
use Rattle.block.specs.Blocks.{blocks_of}
use Rattle.capture.specs.Lists.{before, block_told, blocks_after, blocks_in, blocks_told}
use Rattle.capture.specs.declared.lister.Lister.{Lister}
use Rattle.capture.proofs.Cutting.{first_block}
use Rattle.capture.proofs.Fitting.{told_as}
use Rattle.capture.proofs.Recording.{before_before}

-- how many blocks some octets are, counted and worked out
pub blocks_counted : (os : List ℕ) → length (blocks_in os) ≡ blocks_of (length os)
blocks_counted os = by (length os) os (omega arith)
  where
    by : (bound : ℕ) (xs : List ℕ) → length xs ≤ bound → length (blocks_in xs) ≡ blocks_of (length xs)
    by zero [] h = unfold blocks_in blocks_after in refl
    by zero (x ∷ xs) h = absurd (omega arith)
    by (suc bound) [] h = unfold blocks_in blocks_after in refl
    by (suc bound) (x ∷ xs) h =
        let rest = by bound (drop 512 (x ∷ xs)) (omega (arith, length-drop 512 (x ∷ xs))) in
        omega (arith, ap length (first_block (x ∷ xs) (omega arith)), rest, length-drop 512 (x ∷ xs))

-- blocks after others
pub told_after : (xs ys : List (List ℕ)) (l : Lister) → blocks_told (xs ++ ys) l ≡ before (blocks_told xs l).text (blocks_told ys (blocks_told xs l).lister)
unfolding blocks_told
told_after [] ys l = refl
told_after (x ∷ xs) ys l = ap (before (block_told x l).text) (told_after xs ys (block_told x l).lister) ∙ before_before (block_told x l).text _ _

-- ---- one block alone

module _ (b : List ℕ) (some : 1 ≤ length b) (one : length b ≤ 512) where
  pub alone : blocks_in b ≡ b ∷ []
  unfolding blocks_in blocks_after
  alone = first_block b some ∙ ap₂ (λ (x : List ℕ) (rest : List ℕ). x ∷ blocks_in rest) (take_all 512 b one) (drop_of_length-le b {i = 512} one)

  pub alone_told : (l : Lister) → blocks_told (blocks_in b) l ≡ block_told b l
  unfolding blocks_told
  alone_told l =
      ap (λ (bs : List (List ℕ)). blocks_told bs l) alone
      ∙ ap (λ (xs : List ℕ). record { lister = (block_told b l).lister; text = xs }) (append-nil (block_told b l).text)

-- blocks of another length tell the same: they are damaged
pub other_told : (b c : List ℕ) (l : Lister) → (length b ≡ 512 → ⊥) → (length c ≡ 512 → ⊥) → block_told b l ≡ block_told c l
other_told b c l h k = sym (told_as l b None (sym (other_size b h))) ∙ told_as l c None (sym (other_size c k))
