-- Each promise of a table and of its rows leaves one outcome. Assumes nothing.
use mathlib.Core.Path.{◌≡◌}
use seplogic.Ra.Ura.{Ura}
use base.Logic.{SProp, ent, fst∗}
use prog.Memory.{Memory}
use prog.Routine.{Routine}
use types.Logic.{Logic}
use contract.Lifetimes.{Lfts}
use contract.Monad.{Fun, fact}
use denote.Triple.Clauses.{AtExit}
use denote.Triple.Entry.{Args, Res}
use Rattle.answer.specs.Outcomes.{OneResult, OneOutcome}
use Rattle.row.proofs.Row.advance as RowAdvance
use Rattle.row.proofs.Row.free as Free
use Rattle.row.proofs.Row.hear as Hear
use Rattle.row.proofs.Row.is_of as IsOf
use Rattle.row.proofs.Row.taken_by as TakenBy
use Rattle.row.proofs.Row.vacated as Vacated
use Rattle.row.proofs.free_place as FreePlace
use Rattle.row.proofs.hear_all as HearAll
use Rattle.row.proofs.place_of as PlaceOf
use Rattle.row.specs.contracts.tick as TickRows
use Rattle.row.proofs.tick_all as TickAll
use Rattle.row.specs.Rows.{ValidRows, ticked}
use Rattle.table.proofs.number as Number
use Rattle.table.proofs.Table.ask as Ask
use Rattle.table.proofs.Table.join as Join
use Rattle.table.proofs.Table.leave as Leave
use Rattle.table.proofs.Table.reply_to_measurement_request as Measurement
use Rattle.table.proofs.Table.reply_to_tpc_request as Tpc
use Rattle.table.proofs.Table.start as Start
use Rattle.table.proofs.Table.take as Take
use Rattle.table.proofs.Table.tick as Tick
use Rattle.claims.proofs.Replies.{replied_once}
use Rattle.claims.proofs.Same.{once}

-- ---- rows

pub row_free : OneResult 0 Free.Kinds.ps Free.Kinds.r Free.Reads.Post
row_free κs a e f x y p q = once p q

pub row_taken_by : OneResult 0 TakenBy.Kinds.ps TakenBy.Kinds.r TakenBy.Reads.Post
row_taken_by κs a e f x y p q = once p q

pub row_vacated : OneResult 0 Vacated.Kinds.ps Vacated.Kinds.r Vacated.Reads.Post
row_vacated κs a e f x y p q = once p q

pub row_is_of : OneResult 0 IsOf.Kinds.ps IsOf.Kinds.r IsOf.Reads.Post
row_is_of κs a e f x y p q = once p q

pub row_advance : OneResult 0 RowAdvance.Kinds.ps RowAdvance.Kinds.r RowAdvance.Reads.Post
row_advance κs a e f x y p q = once p.0 q.0

pub row_hear : OneResult 0 Hear.Kinds.ps Hear.Kinds.r Hear.Reads.Post
row_hear κs a e f x y p q = once p.0 q.0

pub row_place_of : OneResult 0 PlaceOf.Kinds.ps PlaceOf.Kinds.r PlaceOf.Reads.Post
row_place_of κs a e f x y p q = once p q

pub row_free_place : OneResult 0 FreePlace.Kinds.ps FreePlace.Kinds.r FreePlace.Reads.Post
row_free_place κs a e f x y p q = once p q

pub row_hear_all : OneResult 0 HearAll.Kinds.ps HearAll.Kinds.r HearAll.Reads.Post
row_hear_all κs a e f x y p q = once p q

pub row_tick_all : OneResult 0 TickAll.Kinds.ps TickAll.Kinds.r TickAll.Reads.Post
row_tick_all κs a e f x y p q = once p.0 q.0

-- of rows that are lent: whatever they hold at exit, if the promise allows it, it is this list
pub row_tick : {M : Type 1} {𝓤 : Ura M} (𝓛 : Logic 𝓤) (at_mem : Memory → SProp 𝓤) (run : Routine → Fun 𝓤) (κs : Lfts 1) (a : Args (TickRows.ended).signature κs)
    (r : Res (TickRows.ended).signature κs) (e : AtExit TickRows.ended κs)
    → ent 𝓤 ((TickRows.clauses 𝓛 at_mem run κs a).ensures tt r e) (fact 𝓤 (e.0.now ≡ ticked a.1.0 a.0.now))
row_tick {𝓤 = 𝓤} 𝓛 at_mem run κs a r e =
    fst∗ 𝓤 (fact 𝓤 (e.0.now ≡ ticked a.1.0 a.0.now)) (fact 𝓤 (ValidRows e.0.now))

-- ---- the table

pub table_start : OneResult 0 Start.Kinds.ps Start.Kinds.r Start.Reads.Post
table_start κs a e f x y p q = once p.0 q.0

pub table_join : OneResult 0 Join.Kinds.ps Join.Kinds.r Join.Reads.Post
table_join κs a e f x y p q = once p.0 q.0

pub table_leave : OneResult 0 Leave.Kinds.ps Leave.Kinds.r Leave.Reads.Post
table_leave κs a e f x y p q = once p.0 q.0

pub table_tick : OneResult 0 Tick.Kinds.ps Tick.Kinds.r Tick.Reads.Post
table_tick κs a e f x y p q = once p.0 q.0

pub table_take : OneResult 1 Take.Kinds.ps Take.Kinds.r Take.Reads.Post
table_take κs a e f x y p q = once p.0 q.0

pub table_ask : OneResult 0 Ask.Kinds.ps Ask.Kinds.r Ask.Reads.Post
table_ask κs a e f x y p q = once p q

pub asked_number_lem : OneResult 0 Number.Kinds.ps Number.Kinds.r Number.Reads.Post
asked_number_lem κs a e f x y p q = once p q

pub table_tpc : OneOutcome 2 Tpc.Kinds.ps Tpc.Kinds.r Tpc.Reads.Post (λ κs e. e.1.1.1.0.now)
table_tpc κs a e f x y p q = replied_once p q

pub table_measurement : OneOutcome 2 Measurement.Kinds.ps Measurement.Kinds.r Measurement.Reads.Post (λ κs e. e.1.1.1.1.0.now)
table_measurement κs a e f x y p q = replied_once p q
