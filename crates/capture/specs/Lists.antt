-- The evening list of a file (01, "Capture blocks and the evening list").
use Rattle.std.specs.Prelude.{Bool, true, false, List, [], ◌∷◌, ◌++◌, ℕ, zero, suc, ◌+◌, ◌-◌, take, Ok, Err, None, Option, Some}
use Rattle.answer.specs.Checks.{Outcome, pick}
use Rattle.answer.specs.Faults.{verdict_offset}
use Rattle.answer.specs.Numbers.{answer_number, verdict_number}
use Rattle.answer.specs.declared.Refusal.{Refusal}
use Rattle.block.specs.Blocks.{block_size, used_part, block_means}
use Rattle.capture_record.specs.Entries.{Noted, malformed, starting, advancing, hearing, asking, entry_means}
use Rattle.capture_record.specs.Records.{Records, end, cut, more, records_in}
use Rattle.pen.specs.Lines.{line_of, closing_of}
use Rattle.pen.specs.declared.words.Word.{Word}
use Rattle.station.specs.Asking.{permission_number, permission_of}
use Rattle.station.specs.Clock.{advance_of}
use Rattle.station.specs.Starting.{start_means}
use Rattle.station.specs.Taking.{take_of}
use Rattle.station.specs.declared.Station.{Station}
use Rattle.station.specs.declared.clock.Stepped.{Stepped}
use Rattle.station.specs.declared.taking.Taken.{Taken}
use Rattle.capture.specs.Listers.{fresh, without, following, one_line_more, one_block_more}
use Rattle.capture.specs.declared.lister.Lister.{Lister}
use Rattle.capture.specs.declared.response.Response.{Response}

-- the lister after something was told, and the text that this made
pub record Told : Type 0 where
  pub lister : Lister
  pub text : List ℕ

abbrev pub nothing : Lister → Told
nothing l = record { lister = l; text = [] }

-- the number of each answer, and where a frame broke
abbrev pub response_number : Response → ℕ
response_number (Response.Call a) = answer_number a
response_number (Response.Frame v) = verdict_number v
response_number (Response.Question p) = permission_number p

abbrev pub response_offset : Response → Option ℕ
response_offset (Response.Call a) = None
response_offset (Response.Frame v) = verdict_offset v
response_offset (Response.Question p) = None

abbrev pub refusal : Refusal → Response
refusal r = Response.Call (Err r)

-- "number from 1 over the file, word, answer number", and after it the offset
abbrev pub answer_line : ℕ → Word → Response → List ℕ
answer_line number word answer = line_of number word (response_number answer) (response_offset answer)

abbrev pub line : Lister → Word → Response → Told
line l word answer = record { lister = one_line_more l; text = answer_line (l.lines + 1) word answer }

abbrev pub before : List ℕ → Told → Told
before text t = record { lister = t.lister; text = text ++ t.text }

-- ---- a record

abbrev pub started : Lister → Outcome Station → Told
started l (Err r) = line (without l) Word.Start (refusal r)
started l (Ok s) = line (following l s) Word.Start (Response.Call (Ok tt))

abbrev pub stepped : Lister → Stepped → Told
stepped l x = line (following l x.station) Word.Advance (Response.Call x.answer)

abbrev pub taken : Lister → Taken → Told
taken l x = line (following l x.station) Word.Frame (Response.Frame x.verdict)

-- a record with no station started is 19
abbrev pub no_station : Lister → Word → Told
no_station l word = line l word (refusal Refusal.NoStation)

-- a malformed one is 20, and there is no station after it
abbrev pub bad_record : Lister → Told
bad_record l = line (without l) Word.Record (refusal Refusal.RecordMalformed)

unfoldable pub noted : Lister → Noted → Told
noted l malformed = bad_record l
noted l (starting s) = started l (start_means s.own s.ap s.interval s.channel)
noted l (advancing n) = pick l.active (stepped l (advance_of l.station n)) (no_station l Word.Advance)
noted l (hearing f) = pick l.active (taken l (take_of l.station f)) (no_station l Word.Frame)
noted l (asking n) = pick l.active (line l Word.Ask (Response.Question (permission_of l.station n))) (no_station l Word.Ask)

-- ---- a block

abbrev pub is_malformed : Noted → Bool
is_malformed malformed = true
is_malformed (starting s) = false
is_malformed (advancing n) = false
is_malformed (hearing f) = false
is_malformed (asking n) = false

-- the records one after the other; a malformed one drops the rest of the block
unfoldable pub recorded : Records → Lister → Told
recorded end l = nothing l
recorded cut l = bad_record l
recorded (more kind c rs) l =
    pick (is_malformed (entry_means kind c)) (bad_record l)
    (before (noted l (entry_means kind c)).text (recorded rs (noted l (entry_means kind c)).lister))

-- a damaged block is 17, and there is no station after it
abbrev pub damaged_told : Lister → Told
damaged_told l = line (without (one_block_more l 1)) Word.Block (refusal Refusal.BlockDamaged)

abbrev pub judged : Option ℕ → List ℕ → Lister → Told
judged None b l = damaged_told l
judged (Some n) b l = recorded (records_in (used_part b)) (one_block_more l 0)

unfoldable pub block_told : List ℕ → Lister → Told
block_told b l = judged (block_means b) b l

-- ---- a file

-- the blocks after the first `skip` octets, which belong to the block before: so many octets each, the last one shorter where the file ends
unfoldable pub blocks_after : ℕ → List ℕ → List (List ℕ)
blocks_after zero [] = []
blocks_after zero (o ∷ os) = take block_size (o ∷ os) ∷ blocks_after (block_size - 1) os
blocks_after (suc skip) [] = []
blocks_after (suc skip) (o ∷ os) = blocks_after skip os

unfoldable pub blocks_in : List ℕ → List (List ℕ)
blocks_in file = blocks_after 0 file

unfoldable pub blocks_told : List (List ℕ) → Lister → Told
blocks_told [] l = nothing l
blocks_told (b ∷ bs) l = before (block_told b l).text (blocks_told bs (block_told b l).lister)

-- "The last line is blocks, how many in all, damaged, how many were."
abbrev pub closing_for : Lister → List ℕ
closing_for l = closing_of l.blocks l.damaged

abbrev pub closed : Told → List ℕ
closed t = t.text ++ closing_for t.lister

abbrev pub file_told : List ℕ → Told
file_told file = blocks_told (blocks_in file) fresh

unfoldable pub list_of : List ℕ → List ℕ
list_of file = closed (file_told file)
