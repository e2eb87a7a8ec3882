-- Element 41 as the code reads it, and the pair at an index. Assumes nothing.
use Rattle.std.specs.Prelude.{Ok, Err, Option, Some, is_some}
use mathlib.Core.Bool.{Bool, true, false, not}
use mathlib.Core.List.{List, [], ◌∷◌}
use mathlib.Core.Path.{◌≡◌, refl, sym, ap, ap₂, ◌∙◌}
use Prim.Native.Nat.{ℕ, ◌+◌, ◌*◌, ◌/◌}
use native.Mathlib.Omega.{arith}
use lib.Dec.{ltb}
use lib.ListN.{length-drop}
use lib.Seq.{get_or-drop}
use Rattle.answer.proofs.Judged.{never}
use Rattle.answer.specs.Checks.{Outcome, ◌⇒◌, checked, judged, and_then}
use Rattle.answer.specs.declared.Refusal.{Refusal}
use Rattle.element.proofs.DfsContents.{opened}
use Rattle.element.specs.IbssDfs.{Dfs, dfs_in, dfs_fields, dfs_means, dfs_laid, pair_means}
use Rattle.element.specs.declared.ibss_dfs.ChannelMap.{ChannelMap}
use Rattle.element.specs.declared.ibss_dfs.IbssDfs.{IbssDfs}
use Rattle.octets.specs.Numbers.{octet}
use Rattle.beacon.specs.Beacons.{Told}
use Rattle.beacon.specs.CodeTerms.Naming.{first_dfs, naming_laid}
use Rattle.beacon.specs.IbssBeacons.{tells_in_ibss, takes_dfs, pair_in}
use Rattle.beacon.specs.Laid.{dfs_heard}
use Rattle.beacon.specs.declared.HeardDfs.{HeardDfs}

-- a pair in the contents, and in the octets of the pairs
pair_in_lem : (i : ℕ) (c : List ℕ) → pair_means i c ≡ pair_in i (Some (dfs_in c))
unfolding pair_means
pair_in_lem i c =
    ap₂ (λ (n : ℕ) (p : ChannelMap). judged (not (ltb i (n / 2)) ⇒ Refusal.Impossible ∷ []) p) (sym (length-drop 7 c))
    (ap₂ (λ (channel map : ℕ). record { channel = channel; map = map }) (sym (get_or-drop 7 c (2 * i) 0))
    (ap (λ (n : ℕ). octet n c) (let e : 7 + 2 * i + 1 ≡ 7 + (2 * i + 1) = omega arith in e) ∙ sym (get_or-drop 7 c (2 * i + 1) 0)))

-- ---- the ways of the reader

module _ (i : ℕ) (c : List ℕ) where
  pub kept_fault : (names : Bool) (r : Refusal) → Err r ≡ dfs_laid (dfs_means c) → Err r ≡ naming_laid i (first_dfs names c)
  kept_fault names r e = by (dfs_means c) e
    where
      by : (o : Outcome Dfs) → Err r ≡ dfs_laid o → Err r ≡ naming_laid i (and_then o (λ d. judged (names ⇒ Refusal.Repeated ∷ []) d))
      by (Err q) f = cc
      by (Ok d) f = absurd (never f)

  module _ (h : IbssDfs) (e : Ok h ≡ dfs_laid (dfs_means c)) where
    read_as : (d : Dfs) × (dfs_means c ≡ Ok d) × (h ≡ dfs_fields d)
    read_as = by (dfs_means c) e
      where
        by : (o : Outcome Dfs) → Ok h ≡ dfs_laid o → (d : Dfs) × (o ≡ Ok d) × (h ≡ dfs_fields d)
        by (Err q) f = absurd (never (sym f))
        by (Ok d) f = (d, refl, cc)

    pub a_repeat : (names : Bool) → names ≡ true → Err Refusal.Repeated ≡ naming_laid i (first_dfs names c)
    unfolding checked
    a_repeat names t = simp (read_as.1, t)

    pub a_first : (names : Bool) (pair : Outcome ChannelMap) → names ≡ false → pair ≡ pair_means i c → Ok (record { dfs = h; pair = pair }) ≡ naming_laid i (first_dfs names c)
    unfolding checked
    a_first names pair t p =
        let d = read_as in
        simp (d.1, t) (ap₂ (λ (x : IbssDfs) (y : Outcome ChannelMap). Ok (record { dfs = x; pair = y })) d.2
        (p ∙ pair_in_lem i c ∙ ap (λ (x : Dfs). pair_in i (Some x)) (opened c d.0 d.1).1))

-- ---- what is said with it, after another one or not

pub named_with : (c : List ℕ) (t : Told) (d : Option Dfs)
    → takes_dfs c (tells_in_ibss t d) ≡ and_then (first_dfs (is_some d) c) (λ x. Ok (tells_in_ibss t (Some x)))
unfolding checked
named_with c t d = by (dfs_means c) (is_some d)
  where
    by : (o : Outcome Dfs) (names : Bool)
        → and_then o (λ x. judged (names ⇒ Refusal.Repeated ∷ []) (tells_in_ibss t (Some x)))
        ≡ and_then (and_then o (λ x. judged (names ⇒ Refusal.Repeated ∷ []) x)) (λ x. Ok (tells_in_ibss t (Some x)))
    by (Err r) names = refl
    by (Ok x) true = refl
    by (Ok x) false = refl

-- as it is handed out
module _ (i : ℕ) (o : Outcome Dfs) where
  pub naming_refused : (r : Refusal) → Err r ≡ naming_laid i o → o ≡ Err r
  naming_refused r = by o
    where
      by : (o : Outcome Dfs) → Err r ≡ naming_laid i o → o ≡ Err r
      by (Err q) f = cc
      by (Ok d) f = absurd (never f)

  pub naming_accepted : (h : HeardDfs) → Ok h ≡ naming_laid i o → (d : Dfs) × (o ≡ Ok d) × (h ≡ dfs_heard i d)
  naming_accepted h = by o
    where
      by : (o : Outcome Dfs) → Ok h ≡ naming_laid i o → (d : Dfs) × (o ≡ Ok d) × (h ≡ dfs_heard i d)
      by (Err q) f = absurd (never (sym f))
      by (Ok d) f = (d, refl, cc)
