-- The closing line in a buffer, part after part. Assumes nothing.
use mathlib.Core.List.{List, [], ◌∷◌, ◌++◌}
use mathlib.Core.Path.{◌≡◌}
use Prim.Native.Nat.{ℕ, ◌+◌, ◌≤◌}
use native.Mathlib.Omega.{arith}
use lib.ListN.{length, length-append}
use Rattle.pen.specs.Decimals.{decimal}
use Rattle.pen.specs.Lines.{closing_of}
use Rattle.pen.specs.CodeTerms.Putting.{OctetsPut}
use Rattle.pen.specs.Rooms.{line_room}
use Rattle.pen.proofs.Following.{put_after}

-- "blocks "
abbrev named : List ℕ
named = 98 ∷ 108 ∷ 111 ∷ 99 ∷ 107 ∷ 115 ∷ 32 ∷ []

-- " damaged "
abbrev parted : List ℕ
parted = 32 ∷ 100 ∷ 97 ∷ 109 ∷ 97 ∷ 103 ∷ 101 ∷ 100 ∷ 32 ∷ []

module _ (blocks damaged : ℕ) (few : length (decimal blocks) ≤ 20) (few' : length (decimal damaged) ≤ 20) where
  abbrev ended : List ℕ
  ended = decimal damaged ++ (10 ∷ [])

  abbrev counted : List ℕ
  counted = decimal blocks ++ (parted ++ ended)

  long : (length ended ≡ length (decimal damaged) + 1) × (length counted ≡ length (decimal blocks) + 9 + length ended)
  long = (length-append (decimal damaged) (10 ∷ []), omega (arith, length-append (decimal blocks) (parted ++ ended), length-append parted ended))

  pub closing_short : length (closing_of blocks damaged) ≤ line_room
  unfolding closing_of
  closing_short = omega (arith, long, length-append named counted)

  pub closing_put : {out b₁ b₂ b₃ b₄ exit : List ℕ} {m₁ m₂ m₃ m₄ end : ℕ}
      → (length out ≡ line_room) × (length b₁ ≡ line_room) × (length b₂ ≡ line_room) × (length b₃ ≡ line_room)
      → OctetsPut named 0 out m₁ b₁ → OctetsPut (decimal blocks) m₁ b₁ m₂ b₂ → OctetsPut parted m₂ b₂ m₃ b₃ → OctetsPut (decimal damaged) m₃ b₃ m₄ b₄
      → OctetsPut (10 ∷ []) m₄ b₄ end exit → OctetsPut (closing_of blocks damaged) 0 out end exit
  unfolding closing_of
  closing_put {out} {b₁} {b₂} {b₃} {b₄} {exit} {m₁} {m₂} {m₃} {m₄} {end} same p₁ p₂ p₃ p₄ p₅ =
      let from-damaged : OctetsPut ended m₃ b₃ end exit = put_after (decimal damaged) (omega (arith, p₁.ends, p₂.ends, p₃.ends)) p₅ p₄ in
      let from-parted : OctetsPut (parted ++ ended) m₂ b₂ end exit = put_after parted (omega (arith, p₁.ends, p₂.ends, long)) from-damaged p₃ in
      let from-blocks : OctetsPut counted m₁ b₁ end exit = put_after (decimal blocks) (omega (arith, p₁.ends, long, length-append parted ended)) from-parted p₂ in
      put_after named (omega (arith, long)) from-blocks p₁
