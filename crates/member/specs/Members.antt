-- A station of an IBSS (02, Five): document 01's station, whose AP is the BSSID, and the DFS owner that it follows.
use Rattle.std.specs.Prelude.{Bool, not, ◌&&◌, List, [], ◌∷◌, ℕ, Ok, Err, Some, None, Option, is_some}
use Rattle.answer.specs.Checks.{Outcome, ◌⇒◌, checked, and_then}
use Rattle.answer.specs.Faults.{Placed, fault_nowhere}
use Rattle.answer.specs.declared.Refusal.{Refusal}
use Rattle.frame.specs.Announcements.{announcement_in}
use Rattle.frame.specs.Frames.{Kind, beacon, probe_response, action}
use Rattle.frame.specs.IbssFrames.{SentInIbss, ibss_frame_means}
use Rattle.owner.specs.Owners.{is_owner, named, heard_from, past_tbtts}
use Rattle.owner.specs.Tbtts.{tbtts_in}
use Rattle.owner.specs.declared.Owner.{Owner}
use Rattle.station.specs.Clock.{advance_means}
use Rattle.station.specs.Starting.{start_means}
use Rattle.station.specs.Taking.{heard}
use Rattle.station.specs.declared.Station.{Station}
use Rattle.member.specs.declared.Member.{Member}
use Rattle.member.specs.declared.clock.Stepped.{Stepped}
use Rattle.member.specs.declared.taking.Taken.{Taken}
use Rattle.element.specs.IbssDfs.{Dfs}

abbrev pub member_of : Station → Option Owner → Member
member_of s o = record { station = s; owner = o }

-- ---- start: 15 as in 01; "at start the owner is unknown"

abbrev pub start_of : List ℕ → List ℕ → ℕ → ℕ → Outcome Member
start_of own bssid b channel = and_then (start_means own bssid b channel) (λ s. Ok (member_of s None))

-- ---- frames

-- "The latest accepted beacon with element 41 decides owner and interval"
abbrev pub named_by : Option Owner → Option Dfs → Option Owner
named_by o None = o
named_by o (Some d) = Some (named o d.owner d.recovery)

-- a beacon is heard from its sender
abbrev pub heard_by : Option Owner → List ℕ → Kind → Option Owner
heard_by o sender (beacon t) = heard_from o sender
heard_by o sender (probe_response t) = o
heard_by o sender (action body) = o

-- an announcement by any but this owner, if it is known at all
abbrev pub foreign_announcement : Option Owner → SentInIbss → Bool
foreign_announcement o x = is_some (announcement_in x.sent.kind) && not (is_owner o x.sender)

-- a frame that is accepted but for this: 23 comes last, and element 41 comes before the announcement of its own beacon
abbrev pub follows : Member → SentInIbss → Placed Member
follows m x =
    checked (foreign_announcement (named_by m.owner x.dfs) x ⇒ fault_nowhere Refusal.ForeignAnnouncement ∷ [])
    (Ok (member_of (heard m.station x.sent.kind) (heard_by (named_by m.owner x.dfs) x.sender x.sent.kind)))

unfoldable pub member_takes : Member → List ℕ → Placed Member
member_takes m f = and_then (ibss_frame_means m.station.own m.station.ap m.station.interval f) (follows m)

-- the verdict on a frame, and the station after it
abbrev pub taken : Member → Placed Member → Taken
taken m (Err x) = record { verdict = Err x; member = m }
taken m (Ok next) = record { verdict = Ok tt; member = next }

abbrev pub take_of : Member → List ℕ → Taken
take_of m f = taken m (member_takes m f)

-- ---- the clock: "At each TBTT with no accepted beacon from the owner since the one before, a miss count rises"

abbrev pub stepped : Member → Outcome Member → Stepped
stepped m (Err r) = record { answer = Err r; member = m }
stepped m (Ok next) = record { answer = Ok tt; member = next }

-- the owner after the TBTTs among the n units that the clock goes on by
abbrev pub owner_past : Member → ℕ → Option Owner
owner_past m n = past_tbtts (tbtts_in m.station.interval m.station.clock n) m.owner

unfoldable pub member_advances : Member → ℕ → Outcome Member
member_advances m n = and_then (advance_means m.station n) (λ s. Ok (member_of s (owner_past m n)))

abbrev pub advance_of : Member → ℕ → Stepped
advance_of m n = stepped m (member_advances m n)
