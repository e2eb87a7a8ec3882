-- Who the DFS owner of an IBSS is, by the calls, and which frames a station there accepts (02, Five). Nothing here names a station or a step of one. In the settings
-- of a station of an IBSS `ap` is the BSSID.
use Rattle.std.specs.Prelude.{Bool, true, false, not, ◌&&◌, List, [], ◌∷◌, ◌≡◌, ℕ, zero, suc, ◌+◌, ◌-◌, ◌<◌, ◌≤◌, leb, Ok, Err, Some, None, Option, is_some}
use Rattle.answer.specs.Checks.{pick}
use Rattle.answer.specs.Faults.{Placed}
use Rattle.capture_record.specs.declared.entry.Settings.{Settings}
use Rattle.element.specs.IbssDfs.{Dfs}
use Rattle.frame.specs.Announcements.{announcement_in}
use Rattle.frame.specs.Frames.{Kind, beacon, probe_response, action}
use Rattle.frame.specs.IbssFrames.{SentInIbss, ibss_frame_means}
use Rattle.header.specs.Headers.{same}
use Rattle.owner.specs.Tbtts.{is_tbtt, tbtts_in}
use Rattle.claims.specs.Histories.{Call, frame, advance, ask, History, too_far, clock_after, Listener}

-- an owner: its address, its recovery interval as it was named last, when a beacon last set the count to 0 ("A beacon from the owner, or naming another"), and
-- whether that beacon came from the owner itself
pub record Reign : Type 0 where
  pub owner : List ℕ
  pub recovery : ℕ
  pub since : ℕ
  pub by_owner : Bool

abbrev pub reign_of : List ℕ → ℕ → ℕ → Bool → Reign
reign_of a recovery since by_owner = record { owner = a; recovery = recovery; since = since; by_owner = by_owner }

pub data Reigning : Type 0 where
  nobody : Reigning
  reigns : Reign → Reigning

-- who it is, with its interval; and from when its misses are counted, and whether from a beacon of its own
abbrev pub OwnerOf : Reigning → List ℕ × ℕ → Type 0
OwnerOf nobody p = ⊥
OwnerOf (reigns r) p = (r.owner ≡ p.0) × (r.recovery ≡ p.1)

abbrev pub MarkOf : Reigning → List ℕ × ℕ × Bool → Type 0
MarkOf nobody p = ⊥
MarkOf (reigns r) p = (r.owner ≡ p.0) × (r.since ≡ p.1) × (r.by_owner ≡ p.2)

-- ---- TBTTs without a beacon from the owner. `b` is B

module _ (b : ℕ) where
  -- the TBTTs since then, up to t
  abbrev pub passed_by : Reign → ℕ → ℕ
  passed_by r t = tbtts_in b r.since (t - r.since)

  -- each of them is a miss, but for the first where that beacon came from the owner
  abbrev pub missed_by : Reign → ℕ → ℕ
  missed_by r t = passed_by r t - pick r.by_owner 1 0

  -- "there, at or past the recovery interval, the owner is unknown"
  abbrev pub at_unit : ℕ → Reigning → Reigning
  at_unit u nobody = nobody
  at_unit u (reigns r) = pick (is_tbtt b u && leb r.recovery (missed_by r u)) nobody (reigns r)

  -- the clock goes on from t by n units, one after the other
  unfoldable pub over_units : ℕ → ℕ → Reigning → Reigning
  over_units t zero w = w
  over_units t (suc n) w = at_unit (t + suc n) (over_units t n w)

-- a TBTT after t, of n units, at which the misses have come to the recovery interval
pub record GivenUp (b t n : ℕ) (r : Reign) : Type 0 where
  pub tbtt : ℕ
  pub after : t < tbtt
  pub within : tbtt ≤ t + n
  pub is_tbtt_lem : is_tbtt b tbtt ≡ true
  pub missed : r.recovery ≤ missed_by b r tbtt

-- ---- beacons

-- this address is the owner's
abbrev pub owns : Reigning → List ℕ → Bool
owns nobody a = false
owns (reigns r) a = same a r.owner

-- a beacon at t: "The latest accepted beacon with element 41 decides owner and interval", and one that names another sets the count to 0
abbrev named_at : ℕ → Dfs → Reigning → Reigning
named_at t d nobody = reigns (reign_of d.owner d.recovery t false)
named_at t d (reigns r) =
    reigns (pick (same d.owner r.owner) (reign_of r.owner d.recovery r.since r.by_owner) (reign_of d.owner d.recovery t false))

abbrev pub naming_at : ℕ → Option Dfs → Reigning → Reigning
naming_at t None w = w
naming_at t (Some d) w = named_at t d w

-- a beacon at t from an address: one from the owner sets the count to 0
abbrev pub heard_at : ℕ → List ℕ → Reigning → Reigning
heard_at t a nobody = nobody
heard_at t a (reigns r) = reigns (pick (same a r.owner) (reign_of r.owner r.recovery t true) r)

-- ---- frames

-- an announcement whose sender was not the owner at that time; its own element 41 comes first
abbrev pub foreign_to : ℕ → Reigning → SentInIbss → Bool
foreign_to t w x = is_some (announcement_in x.sent.kind) && not (owns (naming_at t x.dfs w) x.sender)

-- only beacons name owners and are heard from them
abbrev pub after_kind : ℕ → SentInIbss → Kind → Reigning → Reigning
after_kind t x (beacon told) w = heard_at t x.sender (naming_at t x.dfs w)
after_kind t x (probe_response told) w = w
after_kind t x (action body) w = w

abbrev pub after_frame : ℕ → Placed SentInIbss → Reigning → Reigning
after_frame t (Err q) w = w
after_frame t (Ok x) w = pick (foreign_to t w x) w (after_kind t x x.sent.kind w)

-- ---- the calls

module _ (s : Settings) where
  abbrev pub read_as : List ℕ → Placed SentInIbss
  read_as f = ibss_frame_means s.own s.ap s.interval f

  -- "at start the owner is unknown"
  unfoldable pub reigning : History → Reigning
  reigning [] = nobody
  reigning (frame f ∷ h) = after_frame (clock_after h) (read_as f) (reigning h)
  reigning (advance n ∷ h) = pick (too_far (clock_after h) n) (reigning h) (over_units s.interval (clock_after h) n (reigning h))
  reigning (ask n ∷ h) = reigning h

  -- the call was a frame that was accepted: it was read so, and an announcement in it came from the owner at that time
  abbrev pub Accepts : Call → History → SentInIbss → Type 0
  Accepts (frame f) h x = (read_as f ≡ Ok x) × (foreign_to (clock_after h) (reigning h) x ≡ false)
  Accepts (advance n) h x = ⊥
  Accepts (ask n) h x = ⊥

  -- a station of an IBSS by what it goes by
  abbrev pub ibss_listener : Listener
  ibss_listener =
      record { begins = 0; interval = s.interval; channel = s.channel; hears = λ c h k. (x : SentInIbss) × Accepts c h x × (x.sent.kind ≡ k) }
