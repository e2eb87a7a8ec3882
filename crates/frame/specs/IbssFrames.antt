-- What a frame means to a station of an IBSS (02, Five): "It accepts document 01's frames of its BSSID from any individual address", with the element 41 of a beacon
-- beside them; "In probe responses 41 is skipped". `own` is the station's address, `bss` the BSSID of its IBSS, `b` its beacon interval.
use Rattle.std.specs.Prelude.{Bool, List, ◌≡◌, ℕ, drop, Ok, Option, None}
use Rattle.answer.specs.Checks.{Outcome, and_then}
use Rattle.answer.specs.Faults.{Placed, nowhere, without_place, placed_past}
use Rattle.beacon.specs.Beacons.{fixed_length}
use Rattle.beacon.specs.IbssBeacons.{ibss_beacon_means, pair_in, DfsSound}
use Rattle.element.specs.IbssDfs.{Dfs}
use Rattle.element.specs.declared.ibss_dfs.ChannelMap.{ChannelMap}
use Rattle.header.specs.Headers.{header_length, body_of, sa, subtype, subtype_of, header_means}
use Rattle.header.specs.declared.address.Cell.{Cell}
use Rattle.header.specs.declared.management.Subtype.{Subtype}
use Rattle.walk.specs.Elements.{elements_in}
use Rattle.frame.specs.Frames.{Kind, beacon, Sent, kind_of}

-- what 01 reads of a body, and the element 41 of a beacon's
pub record KindInIbss : Type 0 where
  pub kind : Kind
  pub dfs : Option Dfs

-- who sent the frame, what 01 reads of it, and the element 41 of a beacon
pub record SentInIbss : Type 0 where
  pub sender : List ℕ
  pub sent : Sent
  pub dfs : Option Dfs

-- a body with no element 41 read
abbrev pub nameless : Placed Kind → Placed KindInIbss
nameless o = and_then o (λ k. Ok (record { kind = k; dfs = None }))

abbrev pub kind_in_ibss : ℕ → Subtype → List ℕ → Placed KindInIbss
kind_in_ibss b Subtype.Beacon body = and_then (ibss_beacon_means b body) (λ t. Ok (record { kind = beacon t.told; dfs = t.dfs }))
kind_in_ibss b Subtype.ProbeResponse body = nameless (kind_of b Subtype.ProbeResponse body)
kind_in_ibss b Subtype.Action body = nameless (kind_of b Subtype.Action body)

abbrev pub sent_in_ibss : List ℕ → Bool → Placed KindInIbss → Placed SentInIbss
sent_in_ibss sender to_all o = and_then o (λ k. Ok (record { sender = sender; sent = record { to_all = to_all; kind = k.kind }; dfs = k.dfs }))

-- what the body means, with the header before it
unfoldable pub ibss_frame_means : List ℕ → List ℕ → ℕ → List ℕ → Placed SentInIbss
ibss_frame_means own bss b f =
    and_then (nowhere (header_means Cell.Ibss own bss f))
    (λ h. sent_in_ibss (sa f) h.to_all (placed_past header_length (kind_in_ibss b h.subtype (body_of f))))

-- ---- the pair of element 41 at an index from 0: 16 past the last, and where there is no element 41; a frame that is refused keeps its refusal

abbrev pub pair_of : ℕ → Placed SentInIbss → Outcome ChannelMap
pair_of i o = and_then (without_place o) (λ s. pair_in i s.dfs)

-- ---- which elements 41 a frame has: those of a beacon are sound and come to this, those of any other are not read

abbrev pub SoundOf : Subtype → Option Dfs → List ℕ → Type 0
SoundOf Subtype.Beacon d body = DfsSound d (elements_in (drop fixed_length body))
SoundOf Subtype.ProbeResponse d body = d ≡ None
SoundOf Subtype.Action d body = d ≡ None

abbrev pub DfsSoundIn : Option Dfs → List ℕ → Type 0
DfsSoundIn d f = SoundOf (subtype_of (subtype f)) d (body_of f)
