-- An announcement that a station of an IBSS obeys comes from the address that the latest accepted beacon with element 41 names, that of its own frame first (02, Five). Assumes
-- nothing.
use Rattle.std.specs.Prelude.{Ok, Some, Option, is_some}
use mathlib.Core.Bool.{Bool, true, false, not, ◌&&◌}
use mathlib.Core.List.{List, ◌∷◌}
use mathlib.Core.Path.{◌≡◌, refl, sym, ap, ◌∙◌, subst}
use Prim.Native.Nat.{ℕ}
use native.Mathlib.Omega.{arith}
use borrow.Author.Tests.{not-false}
use Rattle.answer.specs.Checks.{pick}
use Rattle.beacon.specs.Beacons.{Told}
use Rattle.capture_record.specs.declared.entry.Settings.{Settings}
use Rattle.element.specs.declared.channel_switch.ChannelSwitch.{ChannelSwitch}
use Rattle.frame.specs.Announcements.{announcement_in}
use Rattle.frame.specs.Frames.{Kind, beacon, probe_response, action}
use Rattle.frame.specs.IbssFrames.{SentInIbss}
use Rattle.header.proofs.Addresses.{same_is}
use Rattle.header.specs.Headers.{same}
use Rattle.claims.specs.Histories.{frame, History, clock_after}
use Rattle.claims.specs.Naming.{LastNamed}
use Rattle.claims.specs.Reigns.{OwnerOf, Reigning, nobody, reigns, reign_of, owns, naming_at, heard_at, foreign_to, after_kind, read_as, reigning}
use Rattle.claims.proofs.IbssReadings.{beacons_only}
use Rattle.claims.proofs.OwnersExactly.{accepted_leaves}
use Rattle.claims.proofs.OwnersNamed.{last_named}
use Rattle.element.specs.IbssDfs.{Dfs}

-- whoever owns is the owner, with some interval, and is so after a beacon from it
owner_is : (v : Reigning) (a : List ℕ) → owns v a ≡ true → (n : ℕ) × OwnerOf v (a, n)
owner_is nobody a e = absurd (let z : ◌≡◌ {A = ℕ} 0 1 = cc in omega arith)
owner_is (reigns r) a e = (r.recovery, (sym (same_is a r.owner e), refl))

still_owner : (t : ℕ) (v : Reigning) (a : List ℕ) → owns v a ≡ true → (n : ℕ) × OwnerOf (heard_at t a v) (a, n)
still_owner t nobody a e = absurd (let z : ◌≡◌ {A = ℕ} 0 1 = cc in omega arith)
still_owner t (reigns r) a e = by (same a r.owner)
  where
    by : (b : Bool) → (n : ℕ) × OwnerOf (reigns (pick b (reign_of r.owner r.recovery t true) r)) (a, n)
    by true = (r.recovery, (sym (same_is a r.owner e), refl))
    by false = (r.recovery, (sym (same_is a r.owner e), refl))

module _ (s : Settings) (f : List ℕ) (h : History) (x : SentInIbss) (e : read_as s f ≡ Ok x) (ours : foreign_to (clock_after h) (reigning s h) x ≡ false) (w : ChannelSwitch)
    (announces : announcement_in x.sent.kind ≡ Some w) where
  abbrev t : ℕ
  t = clock_after h

  abbrev v : Reigning
  v = reigning s h

  -- its sender is the owner once its own element 41 is applied
  sender_owns : owns (naming_at t x.dfs v) x.sender ≡ true
  sender_owns =
      not-false _ (sym (ap (λ (b : Bool). b && not (owns (naming_at t x.dfs v) x.sender)) (ap is_some announces)) ∙ ours)

  -- any other frame than a beacon names nobody
  unnamed : (k : Kind) → x.sent.kind ≡ k → ((told : Told) → k ≡ beacon told → ⊥) → owns v x.sender ≡ true
  unnamed k y none = sym (ap (λ (d : Option Dfs). owns (naming_at t d v) x.sender) (beacons_only s f x e k y none)) ∙ sender_owns

  by_kind : (k : Kind) → x.sent.kind ≡ k → (n : ℕ) × OwnerOf (after_kind t x k v) (x.sender, n)
  by_kind (beacon told) y = still_owner t (naming_at t x.dfs v) x.sender sender_owns
  by_kind (probe_response told) y = owner_is v x.sender (unnamed (probe_response told) y (λ u z. let q : ◌≡◌ {A = ℕ} 0 1 = cc in omega arith))
  by_kind (action body) y = owner_is v x.sender (unnamed (action body) y (λ u z. let q : ◌≡◌ {A = ℕ} 0 1 = cc in omega arith))

  pub announced_by_owner : (n : ℕ) × LastNamed s (frame f ∷ h) x.sender n
  announced_by_owner = let w = by_kind x.sent.kind refl in (w.0, last_named s (frame f ∷ h) (x.sender, w.0) (subst (λ (z : Reigning). OwnerOf z (x.sender, w.0)) (sym (accepted_leaves s f h x e ours)) w.1))
