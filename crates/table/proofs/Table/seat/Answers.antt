use Rattle.std.proofs.Common.{sym, ◌∙◌}
use Rattle.table.proofs.Outcomes.{seat_refused, seat_taken}
use Rattle.table.proofs.Table.seat.Goals as goal

pub returns-in-Err : goal.returns-in-Err
returns-in-Err c =
    seat_refused c.args.self c.args.station _ _ c.place_of.ensures c.free_place.ensures _ (sym c.in-Err.is ∙ c.seat_among.ensures) _ c.refused.ensures

pub returns-in-Ok : goal.returns-in-Ok
returns-in-Ok c =
    seat_taken c.args.self c.args.station _ _ c.place_of.ensures c.free_place.ensures _ (sym c.in-Ok.is ∙ c.seat_among.ensures) _ _ _ c.accepted.ensures
    c.with_row.ensures c.taken_by.ensures
