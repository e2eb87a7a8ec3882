-- The lines of a file's list by the histories of the stations that its records start (00, demand 3; 01, "Capture blocks and the evening list"). Nothing
-- here names a station or a step of one.
use Rattle.std.specs.Prelude.{Bool, true, false, List, [], ◌∷◌, ◌++◌, ◌⊎◌, ◌≡◌, ℕ, length, Ok, Err, None}
use Rattle.answer.specs.Checks.{pick}
use Rattle.answer.specs.Faults.{Placed}
use Rattle.answer.specs.Numbers.{number_of}
use Rattle.answer.specs.declared.Refusal.{Refusal}
use Rattle.block.specs.Blocks.{is_damaged, used_part}
use Rattle.capture.specs.Lists.{is_malformed, blocks_in, list_of}
use Rattle.frame.specs.Frames.{frame_means}
use Rattle.capture_record.specs.Entries.{Noted, malformed, starting, advancing, hearing, asking, entry_means}
use Rattle.capture_record.specs.Records.{Records, end, cut, more, records_in}
use Rattle.station.specs.Asking.{permission_number}
use Rattle.station.specs.Starting.{start_forbids}
use Rattle.station.specs.declared.asking.Permission.{Permission}
use Rattle.pen.specs.Lines.{closing_of}
use Rattle.pen.specs.declared.words.Word.{Word}
use Rattle.capture_record.specs.declared.entry.Settings.{Settings}
use Rattle.claims.specs.Histories.{frame, advance, ask, History, too_far, clock_after, listener}
use Rattle.claims.specs.Numbered.{Said, numbered_from, damaged_among}
use Rattle.claims.specs.OpenUnits.{Applies}

-- whose calls the records are: those of a station since its start, or nobody's
pub data Followed : Type 0 where
  nobody : Followed
  since : Settings → History → Followed

-- a start that is refused
abbrev pub refuses_start : Settings → Bool
refuses_start s = start_forbids s.own s.ap s.interval s.channel

-- "After a 17, a 20 or a refused start there is no station until the next start record."
abbrev pub followed_after : Noted → Followed → Followed
followed_after malformed x = nobody
followed_after (starting s) x = pick (refuses_start s) nobody (since s [])
followed_after (advancing n) nobody = nobody
followed_after (advancing n) (since s h) = since s (advance n ∷ h)
followed_after (hearing f) nobody = nobody
followed_after (hearing f) (since s h) = since s (frame f ∷ h)
followed_after (asking n) nobody = nobody
followed_after (asking n) (since s h) = since s (ask n ∷ h)

abbrev pub says : Word → ℕ → Said
says word answer = record { word = word; answer = answer; offset = None }

-- a frame: 0, or the refusal's number and where it broke (02, One)
abbrev pub says_frame : {A : Type 0} → Placed A → Said
says_frame (Err x) = record { word = Word.Frame; answer = number_of x.refusal; offset = x.offset }
says_frame (Ok a) = says Word.Frame 0

-- the line of a record: no station where nobody is followed, else what the history says
abbrev pub Tells : Noted → Followed → Said → Type 0
Tells malformed x line = line ≡ says Word.Record (number_of Refusal.RecordMalformed)
Tells (starting s) x line = line ≡ says Word.Start (pick (refuses_start s) (number_of Refusal.BadStart) 0)
Tells (advancing n) nobody line = line ≡ says Word.Advance (number_of Refusal.NoStation)
Tells (advancing n) (since s h) line = line ≡ says Word.Advance (pick (too_far (clock_after h) n) (number_of Refusal.PastClock) 0)
Tells (hearing f) nobody line = line ≡ says Word.Frame (number_of Refusal.NoStation)
Tells (hearing f) (since s h) line = line ≡ says_frame (frame_means s.own s.ap s.interval f)
Tells (asking n) nobody line = line ≡ says Word.Ask (number_of Refusal.NoStation)
Tells (asking n) (since s h) line = (p : Permission) × Applies (listener s) h n p × (line ≡ says Word.Ask (permission_number p))

-- the lines of records, and who is followed after them
unfoldable pub TellsRecords : Records → Followed → List Said → Followed → Type 0
TellsRecords end x lines next = (lines ≡ []) × (next ≡ x)
TellsRecords cut x lines next = (lines ≡ says Word.Record (number_of Refusal.RecordMalformed) ∷ []) × (next ≡ nobody)
TellsRecords (more kind c rs) x lines next =
    ((is_malformed (entry_means kind c) ≡ true) × (lines ≡ says Word.Record (number_of Refusal.RecordMalformed) ∷ []) × (next ≡ nobody))
    ⊎ ((is_malformed (entry_means kind c) ≡ false)
    × (first : Said)
    × (rest : List Said)
    × Tells (entry_means kind c) x first
    × TellsRecords rs (followed_after (entry_means kind c) x) rest next
    × (lines ≡ first ∷ rest))

abbrev pub TellsBlock : List ℕ → Followed → List Said → Followed → Type 0
TellsBlock b x lines next =
    ((is_damaged b ≡ true) × (lines ≡ says Word.Block (number_of Refusal.BlockDamaged) ∷ []) × (next ≡ nobody))
    ⊎ ((is_damaged b ≡ false) × TellsRecords (records_in (used_part b)) x lines next)

unfoldable pub TellsBlocks : List (List ℕ) → Followed → List Said → Followed → Type 0
TellsBlocks [] x lines next = (lines ≡ []) × (next ≡ x)
TellsBlocks (b ∷ bs) x lines next =
    (between : Followed) × (first : List Said) × (rest : List Said) × TellsBlock b x first between × TellsBlocks bs between rest next × (lines ≡ first ++ rest)

-- a file's list: the lines that the histories tell, numbered, and the closing line
pub record ToldByHistories (file : List ℕ) : Type 0 where
  pub said : List Said
  pub last : Followed
  pub told : TellsBlocks (blocks_in file) nobody said last
  pub whole : list_of file ≡ numbered_from 0 said ++ closing_of (length (blocks_in file)) (damaged_among (blocks_in file))
