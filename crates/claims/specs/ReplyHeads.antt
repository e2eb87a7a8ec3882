-- The header of a reply beside that of the frame it answers (01, "Replies": "The reply's DA is the old SA, its SA the station, BSSID kept; flags,
-- duration and sequence control 0"; "Octets": octet 0 is version, type, subtype, then flags, duration (2), DA, SA, BSSID, sequence control (2)).
use Rattle.std.specs.Prelude.{List, ◌≡◌, ℕ}
use Rattle.header.specs.Headers.{version, type, subtype, flags, da, sa, bssid}
use Rattle.octets.specs.Numbers.{number}

-- the two fields that no reader looks at
abbrev pub duration : List ℕ → ℕ
duration f = number 2 2 f

abbrev pub sequence_control : List ℕ → ℕ
sequence_control f = number 2 22 f

-- `os` are the octets of a reply of the station `own` to the frame `f`
pub record RepliesTo (f own os : List ℕ) : Type 0 where
  -- an action frame: its first octet is 208
  pub of_version : version os ≡ 0
  pub of_type : type os ≡ 0
  pub of_subtype : subtype os ≡ 13
  pub to_old_sender : da os ≡ sa f
  pub from_station : sa os ≡ own
  pub bssid_kept : bssid os ≡ bssid f
  pub no_flags : flags os ≡ 0
  pub no_duration : duration os ≡ 0
  pub no_sequence : sequence_control os ≡ 0
