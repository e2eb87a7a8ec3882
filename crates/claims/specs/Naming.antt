-- What 02, Five says of owners in its own words, over the calls: who named one, and what a station obeys that never hears of one.
use Rattle.std.specs.Prelude.{Bool, true, false, List, ◌⊎◌, ◌≡◌, ℕ, Some}
use Rattle.beacon.specs.Beacons.{Told}
use Rattle.capture_record.specs.declared.entry.Settings.{Settings}
use Rattle.element.specs.IbssDfs.{Dfs}
use Rattle.frame.specs.Frames.{beacon}
use Rattle.frame.specs.IbssFrames.{SentInIbss}
use Rattle.header.specs.Headers.{same}
use Rattle.claims.specs.Histories.{Call, frame, advance, ask, History, too_far, clock_after, Latest, Throughout}
use Rattle.claims.specs.Reigns.{Reign, reigns, GivenUp, owns, naming_at, reigning, Accepts}

module _ (s : Settings) where
  -- the call was an accepted beacon with element 41, which names this owner and this interval
  pub record Names (c : Call) (h : History) (a : List ℕ) (recovery : ℕ) : Type 0 where
    pub sent : SentInIbss
    pub accepts : Accepts s c h sent
    pub told : Told
    pub in_beacon : sent.sent.kind ≡ beacon told
    pub dfs : Dfs
    pub has_dfs_lem : sent.dfs ≡ Some dfs
    pub owner : dfs.owner ≡ a
    pub interval : dfs.recovery ≡ recovery

  -- "The latest accepted beacon with element 41": it names these
  abbrev pub LastNamed : History → List ℕ → ℕ → Type 0
  LastNamed h a recovery = Latest (λ c g. (x : List ℕ) (n : ℕ) → Names c g x n → ⊥) (λ c g. Names c g a recovery) h

  -- a beacon from the owner that then stands, its own element 41 applied first
  abbrev pub FromOwner : History → SentInIbss → List ℕ → Bool → Type 0
  FromOwner h x a by_owner = (by_owner ≡ true) × (x.sender ≡ a) × (owns (naming_at (clock_after h) x.dfs (reigning s h)) a ≡ true)

  -- one from elsewhere that names another owner than the one before, if there was one
  abbrev pub NamesAnother : History → SentInIbss → List ℕ → Bool → Type 0
  NamesAnother h x a by_owner =
      (by_owner ≡ false) × ((d : Dfs) × (x.dfs ≡ Some d) × (d.owner ≡ a)) × (owns (reigning s h) a ≡ false) × (same x.sender a ≡ false)

  -- "A beacon from the owner, or naming another, sets the count to 0": the call was one, after which this is the owner; `by_owner` says that it came from it
  pub record Restarts (c : Call) (h : History) (a : List ℕ) (by_owner : Bool) : Type 0 where
    pub sent : SentInIbss
    pub accepts : Accepts s c h sent
    pub told : Told
    pub in_beacon : sent.sent.kind ≡ beacon told
    pub how : FromOwner h sent a by_owner ⊎ NamesAnother h sent a by_owner

  -- the latest of these left this owner, when the clock was at t
  abbrev pub LastRestarted : History → List ℕ → ℕ → Bool → Type 0
  LastRestarted h a t by_owner = Latest (λ c g. (x : List ℕ) (y : Bool) → Restarts c g x y → ⊥) (λ c g. Restarts c g a by_owner × (clock_after g ≡ t)) h

  -- no element 41 is ever heard: no accepted beacon has one
  abbrev pub NeverNamed : History → Type 0
  NeverNamed h = Throughout (λ c g. (a : List ℕ) (n : ℕ) → Names c g a n → ⊥) h

  -- ---- exactly who owns, and from when misses are counted

  -- the call was an advance on which the owner was given up
  abbrev pub GivesUp : Call → History → Type 0
  GivesUp (frame f) h = ⊥
  GivesUp (advance n) h = (too_far (clock_after h) n ≡ false) × ((r : Reign) × (reigning s h ≡ reigns r) × GivenUp s.interval (clock_after h) n r)
  GivesUp (ask n) h = ⊥

  -- the latest accepted beacon with element 41 named it, and it was not given up since
  abbrev pub Owned : History → List ℕ → ℕ → Type 0
  Owned h a recovery = Latest (λ c g. ((x : List ℕ) (n : ℕ) → Names c g x n → ⊥) × (GivesUp c g → ⊥)) (λ c g. Names c g a recovery) h

  -- the latest beacon that set the count to 0 left it, when the clock was at t, and it was not given up since
  abbrev pub Counted : History → List ℕ → ℕ → Bool → Type 0
  Counted h a t by_owner =
      Latest (λ c g. ((x : List ℕ) (y : Bool) → Restarts c g x y → ⊥) × (GivesUp c g → ⊥)) (λ c g. Restarts c g a by_owner × (clock_after g ≡ t)) h
