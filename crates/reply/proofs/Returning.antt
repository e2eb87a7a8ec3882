-- A body on its way back: in the frame that was put, one octet changes. Assumes nothing.
use Rattle.std.specs.Prelude.{Ok, Err}
use mathlib.Core.Bool.{true}
use mathlib.Core.List.{List, [], ◌∷◌, ◌++◌, append_assoc}
use mathlib.Core.Path.{◌≡◌, refl, sym, ap, ◌∙◌}
use Prim.Native.Nat.{ℕ, ◌+◌, ◌<◌, ◌≤◌}
use native.Mathlib.Omega.{arith}
use borrow.Author.Tests.{ltb-true, ltb-false}
use lib.Dec.{ltb}
use lib.ListN.{length, drop, set, length-append}
use lib.Seq.{set-append_seam}
use Rattle.answer.proofs.Booleans.{both}
use Rattle.answer.proofs.Judged.{passed}
use Rattle.answer.specs.Checks.{Outcome}
use Rattle.answer.specs.declared.Refusal.{Refusal}
use Rattle.header.specs.Headers.{header_length}
use Rattle.octets.proofs.Storing.{front_left}
use Rattle.octets.specs.Numbers.{octet}
use Rattle.octets.specs.Writing.{room, wrote, filled, after, left, Written}
use Rattle.reply.specs.Due.{has_category}
use Rattle.reply.specs.Frames.{head_to, frame_to, error_return}
use Rattle.reply.proofs.Framed.{head_length_lem}

module _ (body : List ℕ) (free : has_category body ≡ true) where
  pub some : 0 < length body
  some = ltb-true 0 (length body) (both (ltb 0 (length body)) (ltb (octet 0 body) 128) free).0

  -- the sum is an octet still
  pub small : octet 0 body < 128
  small = ltb-true (octet 0 body) 128 (both (ltb 0 (length body)) (ltb (octet 0 body) 128) free).1

-- a body by its category
by_category : (body : List ℕ) → 0 < length body → body ≡ octet 0 body ∷ drop 1 body
by_category [] h = absurd (omega arith)
by_category (x ∷ rest) h = refl

pub same_size : (body : List ℕ) → 0 < length body → length (error_return body) ≡ length body
same_size [] h = absurd (omega arith)
same_size (x ∷ rest) h = refl

module _ (own to bss body buffer : List ℕ) (some : 0 < length body) where
  same_frame : length (frame_to own to bss (error_return body)) ≡ length (frame_to own to bss body)
  same_frame =
      length-append (head_to own to bss) (error_return body) ∙ ap (λ (n : ℕ). length (head_to own to bss) + n) (same_size body some)
      ∙ sym (length-append (head_to own to bss) body)

  same_answer : wrote true (frame_to own to bss body) 0 buffer ≡ wrote true (frame_to own to bss (error_return body)) 0 buffer
  unfolding wrote
  same_answer = rw same_frame refl

  -- a buffer that is too short for the one is so for the other
  pub not_returned : {answer : Outcome ℕ} {r : Refusal} {exit : List ℕ} → answer ≡ Err r → Written true (frame_to own to bss body) 0 buffer answer exit
      → Written true (frame_to own to bss (error_return body)) 0 buffer (Err r) exit
  unfolding left
  not_returned e w =
      let short = sym e ∙ w.answers in
      record {
        answers = short ∙ same_answer;
        leaves =
            w.leaves ∙ ap (λ (o : Outcome ℕ). after o (frame_to own to bss body) 0 buffer) (sym short)
            ∙ ap (λ (o : Outcome ℕ). after o (frame_to own to bss (error_return body)) 0 buffer) (short ∙ same_answer);
      }

  module _ {answer : Outcome ℕ} {n : ℕ} {exit : List ℕ} (o : length own ≡ 6) (t : length to ≡ 6) (a : length bss ≡ 6) (e : answer ≡ Ok n)
      (w : Written true (frame_to own to bss body) 0 buffer answer exit) where
    counted : Ok n ≡ wrote true (frame_to own to bss body) 0 buffer
    counted = sym e ∙ w.answers

    abbrev tail : List ℕ
    tail = drop (length (frame_to own to bss body)) buffer

    fits : length (frame_to own to bss body) ≤ length buffer
    unfolding wrote room
    fits = omega (arith, ltb-false (length buffer) (0 + length (frame_to own to bss body)) (passed _ _ _ (passed _ _ _ (sym counted)).1).0)

    -- what was put, by its category
    stands : exit ≡ head_to own to bss ++ (octet 0 body ∷ (drop 1 body ++ tail))
    stands =
        w.leaves ∙ front_left (frame_to own to bss body) buffer fits
        ∙ ap (λ (b : List ℕ). head_to own to bss ++ b ++ tail) (by_category body some)
        ∙ append_assoc (head_to own to bss) (octet 0 body ∷ drop 1 body) tail

    pub past_header : header_length < length exit
    past_header = omega (arith, ap length stands, length-append (head_to own to bss) (octet 0 body ∷ (drop 1 body ++ tail)), head_length_lem own to bss o t a)

    changed : set exit header_length (octet 0 body + 128) ≡ filled (frame_to own to bss (error_return body)) buffer
    changed =
        ap (λ (xs : List ℕ). set xs header_length (octet 0 body + 128)) stands
        ∙ ap (λ (k : ℕ). set (head_to own to bss ++ (octet 0 body ∷ (drop 1 body ++ tail))) k (octet 0 body + 128)) (sym (head_length_lem own to bss o t a))
        ∙ set-append_seam (head_to own to bss) (octet 0 body) (drop 1 body ++ tail) (octet 0 body + 128)
        ∙ sym (append_assoc (head_to own to bss) (error_return body) tail)
        ∙ ap (λ (k : ℕ). frame_to own to bss (error_return body) ++ drop k buffer) (sym same_frame)

    -- the same with the category's top bit set
    pub returned : Written true (frame_to own to bss (error_return body)) 0 buffer (Ok n) (set exit header_length (octet 0 body + 128))
    returned =
        record {
          answers = counted ∙ same_answer;
          leaves = changed ∙ sym (front_left (frame_to own to bss (error_return body)) buffer (omega (arith, fits, same_frame)));
        }
