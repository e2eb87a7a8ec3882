-- What is read of a frame in an IBSS, as the history's theorems need it (02, Five). Assumes nothing.
use Rattle.std.specs.Prelude.{Ok, Some, None}
use mathlib.Core.List.{List}
use mathlib.Core.Logic.{◌⊎◌, inl, inr}
use mathlib.Core.Path.{◌≡◌, sym, ◌∙◌}
use Prim.Native.Nat.{ℕ, ◌≤◌}
use Rattle.beacon.specs.Beacons.{Told}
use Rattle.capture_record.specs.declared.entry.Settings.{Settings}
use Rattle.element.specs.IbssDfs.{Dfs}
use Rattle.frame.proofs.FromAp.{ibss_allowed}
use Rattle.frame.proofs.IbssNames.{sent_names}
use Rattle.frame.specs.Allowed.{KindAllowed}
use Rattle.frame.specs.Frames.{Kind, beacon}
use Rattle.frame.specs.IbssFrames.{SentInIbss}
use Rattle.member.proofs.Following.{named_recovery}
use Rattle.claims.specs.Reigns.{read_as}

module _ (s : Settings) (f : List ℕ) (x : SentInIbss) (e : read_as s f ≡ Ok x) where
  pub read_allowed : KindAllowed s.interval x.sent.kind
  read_allowed = ibss_allowed s.own s.ap s.interval f x e

  pub recovery_some : (d : Dfs) → x.dfs ≡ Some d → 1 ≤ d.recovery
  recovery_some = named_recovery s.own s.ap s.interval f x e

  -- only a beacon has an element 41 that is read
  pub beacons_only : (k : Kind) → x.sent.kind ≡ k → ((told : Told) → k ≡ beacon told → ⊥) → x.dfs ≡ None
  beacons_only k y none = by (sent_names s.own s.ap s.interval f x e)
    where
      by : (x.dfs ≡ None) ⊎ ((told : Told) × (d : Dfs) × (x.sent.kind ≡ beacon told) × (x.dfs ≡ Some d) × (1 ≤ d.recovery)) → x.dfs ≡ None
      by (inl z) = z
      by (inr (told, d, z, has, some)) = absurd (none told (sym y ∙ z))
