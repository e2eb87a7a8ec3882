-- Parts of a buffer, one after the other from the front on, each as a call has built it. Assumes nothing.
use mathlib.Core.Bool.{true}
use mathlib.Core.List.{List, [], ◌++◌, append-nil}
use mathlib.Core.Path.{◌≡◌, refl, sym, ap, ◌∙◌}
use Prim.Native.Nat.{ℕ, ◌+◌, ◌≤◌}
use native.Mathlib.Omega.{arith}
use lib.ListN.{length, take, drop, take-append-drop, length-append}
use lib.Seq.{length-take-le}
use Rattle.octets.specs.Writing.{filled, left}
use Rattle.octets.proofs.Storing.{Lies, none_lies, part_put}

-- the parts lie there, and have n octets
pub record Built (n : ℕ) (parts buffer now : List ℕ) : Type 0 where
  pub size : n ≡ length parts
  pub lies : Lies parts buffer now

pub none_built : (buffer : List ℕ) → Built 0 [] buffer buffer
none_built buffer = record { size = refl; lies = none_lies buffer }

-- what stands there lies there
whole : (n : ℕ) (buffer : List ℕ) → n ≤ length buffer → filled (take n buffer ++ []) buffer ≡ buffer
whole n buffer h =
    ap (λ (front : List ℕ). filled front buffer) (append-nil (take n buffer))
    ∙ ap (λ (k : ℕ). take n buffer ++ drop k buffer) (length-take-le n buffer h)
    ∙ take-append-drop n buffer

pub front_built : (n : ℕ) (buffer : List ℕ) → n ≤ length buffer → Built (n + 0) (take n buffer ++ []) buffer buffer
front_built n buffer h =
    let many = length-take-le n buffer h in
    record {
      size = (let e : n + 0 ≡ length (take n buffer ++ []) = omega (arith, many, length-append (take n buffer) []) in e);
      lies = record { inside = omega (arith, many, length-append (take n buffer) []); stands = sym (whole n buffer h) };
    }

-- one more, of k octets
pub part_built : {n : ℕ} {parts buffer now : List ℕ} → Built n parts buffer now → (k : ℕ) {part os exit : List ℕ} → part ≡ os → length os ≡ k
    → n + k ≤ length buffer → exit ≡ left true part n now → Built (n + k) (parts ++ os) buffer exit
part_built {n} {parts} {buffer} {now} b k {part} {os} {exit} e many fits w =
    record {
      size = (let s : n + k ≡ length (parts ++ os) = omega (arith, b.size, length-append parts os) in s);
      lies = part_put b.lies os exit n b.size (omega arith) (w ∙ ap (λ (p : List ℕ). left true p n now) e);
    }
