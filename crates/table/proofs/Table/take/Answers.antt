use Rattle.table.proofs.Outcomes.{take_refused}
use Rattle.table.proofs.Table.take.Goals as goal

pub returns-in-Err-clause-value : goal.returns-in-Err-clause-value
returns-in-Err-clause-value c =
    take_refused c.args.self c.requires c.args.frame.now _ _ _ _ c.receiver-to.ensures c.place_of-place.ensures c.reader_at-own.ensures
    c.read-received.ensures _ c.in-Err.is
