-- The replies of a table's stations (02, Six; 01, "Replies"): each is that of document 01's station, of which the frame's DA is the address, with the table's AP and
-- clock.
use Rattle.std.specs.Prelude.{List, ℕ}
use Rattle.answer.specs.Checks.{Outcome}
use Rattle.element.specs.declared.tpc_report.TpcReport.{TpcReport}
use Rattle.measured_report.specs.declared.Readings.{Readings}
use Rattle.reply.specs.Replies.{tpc_reply, measurement_reply}
use Rattle.table.specs.Tables.{reader_of}
use Rattle.table.specs.declared.Table.{Table}

abbrev pub tpc_reply_of : Table → TpcReport → List ℕ → Outcome (List ℕ)
tpc_reply_of t report f = tpc_reply (reader_of t f) t.ap report f

abbrev pub measurement_reply_of : Table → ℕ → Readings → List ℕ → Outcome (List ℕ)
measurement_reply_of t index readings f = measurement_reply (reader_of t f) t.ap t.clock index readings f
