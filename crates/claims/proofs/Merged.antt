-- Advancing twice is advancing once (02, Seven), of whatever goes on by units that add up. Assumes nothing.
use Rattle.std.specs.Prelude.{Ok}
use mathlib.Core.List.{List, [], ◌∷◌}
use mathlib.Core.Path.{◌≡◌, sym, ap, ◌∙◌, subst}
use Prim.Native.Nat.{ℕ, ◌+◌, ◌≤◌}
use native.Mathlib.Omega.{arith}
use Rattle.station.specs.Stations.{clock_limit, unit_limit}
use Rattle.claims.specs.Merging.{sum, NoneTooLong, AllMade, AllAccepted, Merges}
use Rattle.answer.specs.Checks.{Answer}

module _ {S : Type 0} (StepsTo : S → ℕ → Answer → S → Type 0) (ValidOf : S → Type 0) (clock_of : S → ℕ) where
  pub record AddsUp : Type 0 where
    -- where it is after so many units
    pub gone : S → ℕ → S
    pub adds : (s : S) → ValidOf s → (a b : ℕ) → gone (gone s a) b ≡ gone s (a + b)
    pub stays : (s : S) → ValidOf s → gone s 0 ≡ s
    pub clock_gone : (s : S) (n : ℕ) → clock_of (gone s n) ≡ clock_of s + n
    -- an advance goes so far exactly where it is not too far
    pub accepted_goes : (s next : S) (n : ℕ) → ValidOf s → StepsTo s n (Ok tt) next → (n ≤ unit_limit) × (clock_of s + n ≤ clock_limit) × (next ≡ gone s n) × ValidOf next
    pub near_accepted : (s next : S) (n : ℕ) (r : Answer) → ValidOf s → n ≤ unit_limit → clock_of s + n ≤ clock_limit → StepsTo s n r next → (r ≡ Ok tt) × (next ≡ gone s n)

  module _ (g : AddsUp) where
    clock_next : (s next : S) (n : ℕ) → next ≡ g.gone s n → clock_of next ≡ clock_of s + n
    clock_next s next n e = ap clock_of e ∙ g.clock_gone s n

    all_gone : (s last : S) (ns : List ℕ) → ValidOf s → AllAccepted StepsTo s ns last → last ≡ g.gone s (sum ns)
    unfolding AllAccepted sum
    all_gone s last [] v e = sym e ∙ sym (g.stays s v)
    all_gone s last (n ∷ ns) v (next, step, rest) =
        let w = g.accepted_goes s next n v step in
        all_gone next last ns w.3 rest ∙ ap (λ (x : S). g.gone x (sum ns)) w.2 ∙ g.adds s v n (sum ns)

    -- so far the clock goes
    all_within : (s last : S) (ns : List ℕ) → ValidOf s → clock_of s ≤ clock_limit → AllAccepted StepsTo s ns last → clock_of s + sum ns ≤ clock_limit
    unfolding AllAccepted sum
    all_within s last [] v within e = omega (arith, within)
    all_within s last (n ∷ ns) v within (next, step, rest) =
        let w = g.accepted_goes s next n v step in
        let c = clock_next s next n w.2 in
        let far = all_within next last ns w.3 (omega (arith, c, w.1)) rest in
        omega (arith, c, far)

    all_accepted : (s last : S) (ns : List ℕ) → ValidOf s → clock_of s + sum ns ≤ clock_limit → NoneTooLong ns → AllMade StepsTo s ns last → AllAccepted StepsTo s ns last
    unfolding AllAccepted AllMade NoneTooLong sum
    all_accepted s last [] v within few e = e
    all_accepted s last (n ∷ ns) v within few (r, next, step, rest) =
        let near : clock_of s + n ≤ clock_limit = omega (arith, within) in
        let z = g.near_accepted s next n r v few.0 near step in
        let did = subst (λ (x : Answer). StepsTo s n x next) z.0 step in
        let c = clock_next s next n z.1 in
        (next, did, all_accepted next last ns (g.accepted_goes s next n v did).3 (omega (arith, c, within)) few.1 rest)

    pub merges : Merges StepsTo ValidOf clock_of
    merges = record {
      twice_once = λ s mid last a b v one two few r next step.
          let w = g.accepted_goes s mid a v one in
          let u = g.accepted_goes mid last b w.3 two in
          let far = clock_next s mid a w.2 in
          let z = g.near_accepted s next (a + b) r v few (omega (arith, u.1, far)) step in
          (z.0, z.1 ∙ sym (g.adds s v a b) ∙ ap (λ (x : S). g.gone x b) (sym w.2) ∙ sym u.2);
      zero_nothing = λ s v within r next step.
          let z = g.near_accepted s next 0 r v (omega arith) (omega (arith, within)) step in
          (z.0, z.1 ∙ g.stays s v);
      same_sum = λ s x y ns ms v one other e. all_gone s x ns v one ∙ ap (g.gone s) e ∙ sym (all_gone s y ms v other);
      cut_anew = λ s x y ns ms v within one e few made.
          let far = all_within s x ns v within one in
          let other = all_accepted s y ms v (omega (arith, far, e)) few made in
          (other, all_gone s x ns v one ∙ ap (g.gone s) e ∙ sym (all_gone s y ms v other));
    }
