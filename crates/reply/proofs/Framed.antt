-- The parts that a frame is put in, its header and its body. Assumes nothing.
use Rattle.std.specs.Prelude.{Err}
use mathlib.Core.Bool.{true}
use mathlib.Core.List.{List, [], ◌∷◌, ◌++◌, append-nil}
use mathlib.Core.Path.{◌≡◌, ap, ◌∙◌}
use Prim.Native.Nat.{ℕ, ◌+◌, ◌<◌}
use native.Mathlib.Omega.{arith}
use lib.ListN.{length, length-append, drop_of_length-le}
use Rattle.answer.specs.declared.Refusal.{Refusal}
use Rattle.header.specs.Headers.{header_length}
use Rattle.octets.specs.Numbers.{octet}
use Rattle.octets.specs.Writing.{left, Written}
use Rattle.octets.proofs.JoinSplit.{all_from}
use Rattle.octets.proofs.Storing.{front_left, short_written}
use Rattle.reply.specs.Frames.{head_to, frame_to}

-- ---- an address is its six octets

pub six : (xs : List ℕ) → length xs ≡ 6 → octet 0 xs ∷ octet 1 xs ∷ octet 2 xs ∷ octet 3 xs ∷ octet 4 xs ∷ octet 5 xs ∷ [] ≡ xs
six xs h = all_from 6 xs h

pub head_length_lem : (own to bss : List ℕ) → length own ≡ 6 → length to ≡ 6 → length bss ≡ 6 → length (head_to own to bss) ≡ header_length
head_length_lem own to bss o t a = simp (length-append, o, t, a)

-- ---- a buffer that is too short for a frame

module _ (own to bss body buffer : List ℕ) (o : length own ≡ 6) (t : length to ≡ 6) (b : length bss ≡ 6) where
  frame_length : length (frame_to own to bss body) ≡ header_length + length body
  frame_length = length-append (head_to own to bss) body ∙ ap (λ (n : ℕ). n + length body) (head_length_lem own to bss o t b)

  pub no_room : length buffer < header_length + length body → Written true (frame_to own to bss body) 0 buffer (Err Refusal.BufferShort) buffer
  no_room short = short_written (frame_to own to bss body) 0 buffer (omega (arith, short, frame_length))

-- ---- a body that is built in a buffer of its own

-- a buffer of just its length holds a body and nothing else
pub exactly : (os buffer exit : List ℕ) → length os ≡ length buffer → exit ≡ left true os 0 buffer → exit ≡ os
exactly os buffer exit h e =
    e ∙ front_left os buffer (omega arith)
    ∙ ap (λ (xs : List ℕ). os ++ xs) (drop_of_length-le buffer {i = length os} (omega arith))
    ∙ append-nil os
