-- All frames from one address, and each announcement in a beacon that names it as the owner (02, Five): what document 01's station is to be told beside it, which is the same
-- bodies from its AP.
use Rattle.std.specs.Prelude.{true, false, List, map, ◌≡◌, ℕ, length, Ok, Some, Option, is_some}
use Rattle.capture_record.specs.declared.entry.Settings.{Settings}
use Rattle.element.specs.IbssDfs.{Dfs}
use Rattle.frame.specs.Announcements.{announcement_in}
use Rattle.frame.specs.Frames.{Sent, frame_means}
use Rattle.frame.specs.IbssFrames.{DfsSoundIn}
use Rattle.header.specs.Headers.{sa, from_ap}
use Rattle.octets.specs.Numbers.{bit, octet}
use Rattle.claims.specs.Histories.{Call, frame, advance, ask, History, Throughout}

module _ (s : Settings) where
  -- a frame from the address `a`. The elements 41 of a beacon come to `dfs`, with none that is refused; and what of it document 01 reads as an announcement names that address
  pub record FromOne (a f : List ℕ) : Type 0 where
    pub from : sa f ≡ a
    pub dfs : Option Dfs
    pub sound : DfsSoundIn dfs f
    pub names_itself : (x : Sent) → frame_means s.own s.ap s.interval (from_ap s.ap f) ≡ Ok x → is_some (announcement_in x.kind) ≡ true
        → (d : Dfs) × (dfs ≡ Some d) × (d.owner ≡ a)

  abbrev pub CallFromOne : List ℕ → Call → History → Type 0
  CallFromOne a (frame f) h = FromOne a f
  CallFromOne a (advance n) h = Unit {0}
  CallFromOne a (ask n) h = Unit {0}

  -- all frames are, of one address, which is an individual's; the BSSID is an address
  pub record AllFromOne (a : List ℕ) (h : History) : Type 0 where
    pub individual : bit 0 (octet 0 a) ≡ false
    pub bssid_length : length s.ap ≡ 6
    pub each : Throughout (CallFromOne a) h

  -- the same call, a frame with its body from the AP
  abbrev pub as_from_ap : Call → Call
  as_from_ap (frame f) = frame (from_ap s.ap f)
  as_from_ap (advance n) = advance n
  as_from_ap (ask n) = ask n

  abbrev pub all_from_ap : History → History
  all_from_ap h = map as_from_ap h
