-- A whole line in the buffer: of an accepted call, and of any. Assumes nothing.
use Rattle.std.specs.Prelude.{None, Option}
use mathlib.Core.List.{List, [], ◌∷◌, ◌++◌, append_assoc}
use mathlib.Core.Path.{◌≡◌, sym, ap, ◌∙◌}
use Prim.Native.Nat.{ℕ, ◌+◌, ◌≤◌}
use native.Mathlib.Omega.{arith}
use lib.ListN.{length, length-append}
use Rattle.octets.proofs.Storing.{room_left}
use Rattle.pen.specs.Rooms.{line_room, most_letters}
use Rattle.pen.specs.Decimals.{decimal}
use Rattle.pen.specs.Lines.{spelled, placed, line_of}
use Rattle.pen.specs.Numerals.{Spells}
use Rattle.pen.specs.CodeTerms.Putting.{OctetsPut, PiecesPut, LinePut}
use Rattle.pen.specs.declared.words.Word.{Word}
use Rattle.pen.proofs.Following.{put_as, put_after, put_after_pieces}
use Rattle.pen.proofs.InNumeral.{placed_digits}
use Rattle.pen.proofs.Spelling.{one_alone, some_digits}

pub letters : (word : Word) → (3 ≤ length (spelled word)) × (length (spelled word) ≤ most_letters)
letters Word.Start = omega arith
letters Word.Advance = omega arith
letters Word.Frame = omega arith
letters Word.Ask = omega arith
letters Word.Record = omega arith
letters Word.Block = omega arith

-- a line after its number
abbrev after : List ℕ → List ℕ → Option ℕ → List ℕ
after word answer offset = (32 ∷ []) ++ (word ++ ((32 ∷ []) ++ (answer ++ (placed offset ++ (10 ∷ [])))))

after_long : (word answer : List ℕ) (offset : Option ℕ) → length (after word answer offset) ≡ length word + length answer + length (placed offset) + 3
after_long word answer offset =
    omega (
      arith,
      length-append word ((32 ∷ []) ++ (answer ++ (placed offset ++ (10 ∷ [])))),
      length-append answer (placed offset ++ (10 ∷ [])),
      length-append (placed offset) (10 ∷ []),
    )

-- the word between its spaces
abbrev pub spaced : Word → List ℕ
spaced word = (32 ∷ []) ++ (spelled word ++ (32 ∷ []))

spaced_long : (word : Word) → (5 ≤ length (spaced word)) × (length (spaced word) ≤ most_letters + 2)
spaced_long word = omega (arith, length-append (spelled word) (32 ∷ []), letters word)

-- where the number and the word end at most
module _ {n from : ℕ} {digits : List ℕ} {at m₁ : ℕ} {out b₁ : List ℕ} (p : Spells n digits from) (number_put : PiecesPut (decimal n) at out m₁ b₁) where
  pub number_ends : m₁ ≤ at + 20
  number_ends = omega (arith, placed_digits p, number_put.ends)

  pub word_ends : (word : Word) {m₂ : ℕ} {b₂ : List ℕ} → OctetsPut (spaced word) m₁ b₁ m₂ b₂ → m₂ ≤ at + 29
  word_ends word word-put = omega (arith, number_ends, spaced_long word, word-put.ends)

module _ {n from : ℕ} {digits : List ℕ} {at : ℕ} {out : List ℕ} {end : ℕ} {exit : List ℕ} (p : Spells n digits from) (fits : at + line_room ≤ length out) (word : Word) where
  -- what is known of its parts leaves it room
  line_put : (answer : ℕ) (offset : Option ℕ) → length (decimal answer) ≤ 3 → length (placed offset) ≤ 21
      → OctetsPut (decimal n ++ after (spelled word) (decimal answer) offset) at out end exit → LinePut (line_of n word answer offset) at out end exit
  unfolding line_of
  line_put answer offset few short w =
      let rest : List ℕ = after (spelled word) (decimal answer) offset in
      let room : length (decimal n ++ rest) ≤ line_room =
      omega (arith, length-append (decimal n) rest, placed_digits p, after_long (spelled word) (decimal answer) offset, letters word, few, short) in
      record { many = w.ends; short = room; leaves = w.stands ∙ sym (room_left (decimal n ++ rest) at out (omega arith)) }

  -- what follows the word
  ended_put : (answer : ℕ) (offset : Option ℕ) {m₁ m₂ : ℕ} {b₁ b₂ : List ℕ}
      → length (decimal answer) ≤ 3 → length (placed offset) ≤ 21 → length b₁ ≡ length out
      → PiecesPut (decimal n) at out m₁ b₁ → OctetsPut (spaced word) m₁ b₁ m₂ b₂ → OctetsPut (decimal answer ++ (placed offset ++ (10 ∷ []))) m₂ b₂ end exit
      → LinePut (line_of n word answer offset) at out end exit
  ended_put answer offset {m₁} {m₂} {b₁} {b₂} few short same number_put word-put end-put =
      let digits_long = placed_digits p in
      let word-long = spaced_long word in
      let some = some_digits answer in
      let ended : List ℕ = placed offset ++ (10 ∷ []) in
      let ended-long = length-append (placed offset) (10 ∷ []) in
      let answered : List ℕ = decimal answer ++ ended in
      let answered-long = length-append (decimal answer) ended in
      let worded : List ℕ = spaced word ++ answered in
      let worded-long = length-append (spaced word) answered in
      let from-word : OctetsPut worded m₁ b₁ end exit = put_after (spaced word) (omega (arith, number_put.ends)) end-put word-put in
      line_put answer offset few short
      (put_as (ap (λ (xs : List ℕ). decimal n ++ (32 ∷ xs)) (append_assoc (spelled word) (32 ∷ []) answered))
      (put_after_pieces (decimal n) (omega arith) from-word number_put (omega arith)))

  -- the answer 0, and no offset
  pub accepted_put : {m₁ m₂ : ℕ} {b₁ b₂ : List ℕ} → length b₁ ≡ length out
      → PiecesPut (decimal n) at out m₁ b₁ → OctetsPut (spaced word) m₁ b₁ m₂ b₂ → OctetsPut (48 ∷ 10 ∷ []) m₂ b₂ end exit
      → LinePut (line_of n word 0 None) at out end exit
  accepted_put same number_put word-put end-put =
      let zero = one_alone 0 (omega arith) in
      ended_put 0 None (omega (arith, ap length zero)) (omega arith) same number_put word-put
      (put_as (ap (λ (digits : List ℕ). digits ++ (10 ∷ [])) (sym zero)) end-put)

  -- part after part
  pub parts_put : (answer : ℕ) (offset : Option ℕ) {m₁ m₂ m₃ m₄ : ℕ} {b₁ b₂ b₃ b₄ : List ℕ}
      → length (decimal answer) ≤ 3 → length (placed offset) ≤ 21 → (length b₁ ≡ length out) × (length b₂ ≡ length out) × (length b₃ ≡ length out)
      → PiecesPut (decimal n) at out m₁ b₁ → OctetsPut (spaced word) m₁ b₁ m₂ b₂ → OctetsPut (decimal answer) m₂ b₂ m₃ b₃ → OctetsPut (placed offset) m₃ b₃ m₄ b₄
      → OctetsPut (10 ∷ []) m₄ b₄ end exit → LinePut (line_of n word answer offset) at out end exit
  parts_put answer offset {m₁} {m₂} {m₃} {m₄} {b₁} {b₂} {b₃} {b₄} few short same number_put word-put answer-put offset-put last-put =
      let digits_long = placed_digits p in
      let word-long = spaced_long word in
      let ended : List ℕ = placed offset ++ (10 ∷ []) in
      let ended-long = length-append (placed offset) (10 ∷ []) in
      let from-offset : OctetsPut ended m₃ b₃ end exit = put_after (placed offset) (omega (arith, number_put.ends, word-put.ends, answer-put.ends)) last-put offset-put in
      ended_put answer offset few short same.0 number_put word-put
      (put_after (decimal answer) (omega (arith, number_put.ends, word-put.ends)) from-offset answer-put)
