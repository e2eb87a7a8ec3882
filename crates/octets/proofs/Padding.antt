-- Octets from a place on, out of what stands there: whole, or padded with zeros. Assumes nothing.
use mathlib.Core.Path.{◌≡◌, sym, ap, ap₂, ◌∙◌}
use mathlib.Core.List.{List, ◌++◌}
use Prim.Native.Nat.{ℕ, ◌+◌, ◌-◌, ◌<◌, ◌≤◌}
use native.Mathlib.Omega.{arith}
use lib.ListN.{length, take, drop, replicate, length-drop}
use lib.Seq.{take_all}
use Rattle.std.proofs.lemmas.List.{drop-replicate}
use Rattle.octets.specs.Numbers.{octets_from}
use Rattle.octets.proofs.JoinSplit.{from_add, from_past, take_from}

-- nothing stands past the end
pub nothing_there : (k i : ℕ) (os : List ℕ) → length os ≤ i → replicate k 0 ≡ octets_from k i os
nothing_there k i os h = sym (from_past k i os h)

module _ (i : ℕ) (os : List ℕ) (inside : i ≤ length os) where
  -- what stands from a place on
  abbrev pub rest : List ℕ
  rest = take (length os - i) (drop i os)

  rest_whole : rest ≡ drop i os
  rest_whole = take_all (length os - i) (drop i os) (omega (arith, length-drop i os))

  rest_length : length rest ≡ length os - i
  rest_length = ap length rest_whole ∙ length-drop i os

  -- so many octets stand there: the first of them
  pub whole : (k : ℕ) {ys : List ℕ} → k ≤ length rest → ys ≡ take k rest → ys ≡ octets_from k i os
  whole k h e = e ∙ ap (take k) rest_whole ∙ take_from k i os (omega (arith, h, rest_length))

  -- fewer stand there: all of them, and zeros after them
  pub padded : (k : ℕ) {ys : List ℕ} → length rest < k → ys ≡ rest → ys ++ drop (length rest) (replicate k 0) ≡ octets_from k i os
  padded k h e =
      let m = length rest in
      let parts : k ≡ m + (k - m) = omega (arith, h) in
      let first : rest ≡ octets_from m i os = whole m (omega arith) (sym (take_all m rest (omega arith))) in
      ap₂ (λ (xs ys : List ℕ). xs ++ ys)
      (e ∙ first)
      (drop-replicate m k 0 ∙ nothing_there (k - m) (i + m) os (omega (arith, rest_length, inside)))
      ∙ sym (from_add m (k - m) i os)
      ∙ ap (λ (n : ℕ). octets_from n i os) (sym parts)
