-- The lister with its station taken apart.
use Rattle.std.specs.Prelude.{true, List, ◌≡◌, ℕ, ◌≤◌}
use Rattle.apart.specs.Apart.{whole_of}
use Rattle.apart.specs.declared.columns.Columns.{Columns}
use Rattle.beacon.specs.Beacons.{quiet_limit}
use Rattle.pen.specs.declared.words.Word.{Word}
use Rattle.capture_record.specs.Entries.{entry_told}
use Rattle.capture_record.specs.declared.entry.Entry.{Entry}
use Rattle.station.specs.Asking.{permission_of}
use Rattle.station.specs.Clear.{Clear}
use Rattle.station.specs.declared.Station.{Station}
use Rattle.capture.specs.CodeTerms.Following.{Answered, line_for, Follows}
use Rattle.capture.specs.Listers.{with_lines}
use Rattle.capture.specs.Lists.{noted, response_number, response_offset}
use Rattle.capture.specs.declared.lister.Lister.{Lister}
use Rattle.capture.specs.declared.noting.Noted.{Noted}
use Rattle.capture.specs.declared.parts.Parts.{Parts}
use Rattle.capture.specs.declared.response.Response.{Response}

-- the lister that the parts are after so many lines
abbrev pub lister_of : Parts → ℕ → Columns → Lister
lister_of p n c = record { lines = n; blocks = p.blocks; damaged = p.damaged; active = p.active; station = whole_of p.apart c }

-- the parts are those of a lister, whatever its lines
pub record PartsOf (l : Lister) (p : Parts) (c : Columns) : Type 0 where
  pub few : p.apart.count ≤ quiet_limit
  pub same : (n : ℕ) → lister_of p n c ≡ with_lines l n

-- the line that tells this word and this answer, and the parts it leaves
abbrev pub noted_with : Word → Response → Parts → ℕ → Noted
noted_with word answer p clear = record { word = word; number = response_number answer; offset = response_offset answer; parts = p; clear = clear }

-- a question to a station changes nothing
abbrev pub asked : Station → ℕ → Parts → ℕ → Noted
asked s units p clear = noted_with Word.Ask (Response.Question (permission_of s units)) p clear

-- a call that leaves a station
pub record FollowedAs (p : Parts) (word : Word) (answer : Response) (s : Station) (r : Noted) (after : Columns) : Type 0 where
  pub told : r ≡ noted_with word answer (record { blocks = p.blocks; damaged = p.damaged; active = true; apart = r.parts.apart }) 0
  pub station : whole_of r.parts.apart after ≡ s
  pub few : r.parts.apart.count ≤ quiet_limit

-- a record that was noted: its line, and the parts after it
pub record NotedAs (l : Lister) (contents : List ℕ) (entry : Entry) (r : Noted) (after : Columns) : Type 0 where
  pub answered : Answered
  pub says : line_for answered ≡ noted l (entry_told contents entry)
  pub follows : Follows l answered.lister
  pub word : r.word ≡ answered.word
  pub number : r.number ≡ response_number answered.answer
  pub offset : r.offset ≡ response_offset answered.answer
  pub parts : PartsOf answered.lister r.parts after
  pub clears : answered.lister.active ≡ true → Clear answered.lister.station r.clear
