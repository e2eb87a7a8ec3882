-- What a record is to the lister, by its entry.
use Rattle.std.specs.Prelude.{Bool, true, false}
use Rattle.capture_record.specs.declared.entry.Entry.{Entry}

-- whether the rest of the block is dropped
abbrev pub entry_malformed : Entry → Bool
entry_malformed Entry.Malformed = true
entry_malformed _ = false

-- whether a record is a frame that a station hears
abbrev pub heard_by : Bool → Entry → Bool
heard_by active Entry.Frame = active
heard_by active _ = false
