-- What the proofs about a history need of the one who listens, and of the record that is kept beside it. Assumes nothing.
use mathlib.Core.List.{List, [], ◌∷◌}
use mathlib.Core.Logic.{◌⊎◌}
use mathlib.Core.Path.{◌≡◌}
use Prim.Native.Nat.{ℕ}
use Rattle.frame.specs.Allowed.{KindAllowed}
use Rattle.frame.specs.Frames.{Kind}
use Rattle.station.specs.Clock.{advance_of}
use Rattle.station.specs.Stations.{fresh, with_clock}
use Rattle.station.specs.Taking.{heard}
use Rattle.station.specs.declared.Station.{Station}
use Rattle.claims.specs.Histories.{Call, frame, advance, ask, History, Listener}

-- only frames are heard, each as one kind that a reader allows, and it is decided whether
pub record Sound (l : Listener) : Type 0 where
  pub advance_unheard : (n : ℕ) (h : History) (k : Kind) → l.hears (advance n) h k → ⊥
  pub ask_unheard : (n : ℕ) (h : History) (k : Kind) → l.hears (ask n) h k → ⊥
  pub one_kind : (c : Call) (h : History) (k k' : Kind) → l.hears c h k → l.hears c h k' → k ≡ k'
  pub decided : (c : Call) (h : History) → ((k : Kind) × l.hears c h k) ⊎ ((k : Kind) → l.hears c h k → ⊥)
  pub allowed : (c : Call) (h : History) (k : Kind) → l.hears c h k → KindAllowed l.interval k

-- the record after each history: fresh at the beginning, changed by what is heard and by the clock, and by nothing else
pub record Follows (l : Listener) (after : History → Station) : Type 0 where
  pub sound : Sound l
  pub starts : (own ap : List ℕ) × (after [] ≡ with_clock (fresh own ap l.interval l.channel) l.begins)
  pub takes : (f : List ℕ) (h : History) (k : Kind) → l.hears (frame f) h k → after (frame f ∷ h) ≡ heard (after h) k
  pub ignores : (f : List ℕ) (h : History) → ((k : Kind) → l.hears (frame f) h k → ⊥) → after (frame f ∷ h) ≡ after h
  pub advances : (n : ℕ) (h : History) → after (advance n ∷ h) ≡ (advance_of (after h) n).station
  pub asks : (n : ℕ) (h : History) → after (ask n ∷ h) ≡ after h
