-- After a start that is not forbidden any calls of a table can be made (02, Six). Assumes nothing.
use Rattle.std.specs.Prelude.{Ok, IfOk}
use mathlib.Core.Bool.{true, false}
use mathlib.Core.List.{List, []}
use mathlib.Core.Path.{◌≡◌, refl, sym, subst}
use Prim.Native.Nat.{ℕ}
use borrow.Fn.Kinds.{ended_of}
use denote.Triple.Clauses.{at_exit}
use Rattle.answer.specs.Checks.{Outcome, checked, and_then}
use Rattle.octets.specs.Writing.{wrote}
use Rattle.reply.specs.Replies.{left_by, Replied}
use Rattle.table.proofs.StaysValid.{valid_empty}
use Rattle.table.proofs.Table.ask as Ask
use Rattle.table.proofs.Table.join as Join
use Rattle.table.proofs.Table.leave as Leave
use Rattle.table.proofs.Table.reply_to_measurement_request as Measurement
use Rattle.table.proofs.Table.reply_to_tpc_request as Tpc
use Rattle.table.proofs.Table.start as Start
use Rattle.table.proofs.Table.take as Take
use Rattle.table.proofs.Table.tick as Tick
use Rattle.table.specs.Replies.{tpc_reply_of, measurement_reply_of}
use Rattle.table.specs.Tables.{empty, start_forbids, start_means, join_of, leave_of, tick_of, take_of, ask_means}
use Rattle.table.specs.Validity.{ValidTable}
use Rattle.table.specs.declared.Table.{Table}
use Rattle.claims.specs.Runs.{CanRun}
use Rattle.claims.specs.TableRuns.{TableCall, join, leave, tick, take, question, tpc, measurement, started_with, TableStarts, Does, table}
use Rattle.claims.proofs.RunsExist.{can_run_exactly, lent, lent_mut}
use Rattle.claims.proofs.TableMeans.{table_answers, table_after, valid_after, table_meets}

module _ (ap' : List ℕ) (b : ℕ) (may : start_forbids ap' b ≡ false) where
  accepts : start_means ap' b ≡ Ok (empty ap' b)
  unfolding start_means checked
  accepts = simp may

  starts_can : TableStarts (started_with ap' b) (empty ap' b)
  starts_can = (
    tt,
    (ap', (b, tt)),
    start_means ap' b,
    at_exit (ended_of 0 Start.Kinds.ps Start.Kinds.r) tt (ap', (b, tt)) (tt, (tt, tt)),
    (refl, subst (λ (o : Outcome Table). IfOk o ValidTable) (sym accepts) (valid_empty ap' b may)),
    (refl, refl, accepts),
  )

replied_can : (o : Outcome (List ℕ)) (buffer : List ℕ) → Replied o buffer (and_then o (λ os. wrote true os 0 buffer)) (left_by o buffer)
replied_can o buffer = record { answers = refl; leaves = refl }

does_can : (t : Table) → ValidTable t → (c : TableCall) → Does t c (table_answers t c) (table_after t c)
does_can t v (join own channel) = (
  tt,
  (t, (own, (channel, tt))),
  join_of t own channel,
  at_exit (ended_of 0 Join.Kinds.ps Join.Kinds.r) tt (t, (own, (channel, tt))) (tt, (tt, (tt, tt))),
  (refl, valid_after t v (join own channel)),
  (refl, refl, refl, refl, refl),
)
does_can t v (leave own) = (
  tt,
  (t, (own, tt)),
  leave_of t own,
  at_exit (ended_of 0 Leave.Kinds.ps Leave.Kinds.r) tt (t, (own, tt)) (tt, (tt, tt)),
  (refl, valid_after t v (leave own)),
  (refl, refl, refl, refl),
)
does_can t v (tick n) = (
  tt,
  (t, (n, tt)),
  tick_of t n,
  at_exit (ended_of 0 Tick.Kinds.ps Tick.Kinds.r) tt (t, (n, tt)) (tt, (tt, tt)),
  (refl, valid_after t v (tick n)),
  (refl, refl, refl, refl),
)
does_can t v (take f) = (
  ([], tt),
  (t, (lent f, tt)),
  take_of t f,
  at_exit (ended_of 1 Take.Kinds.ps Take.Kinds.r) ([], tt) (t, (lent f, tt)) (tt, (tt, tt)),
  (refl, valid_after t v (take f)),
  (refl, refl, refl, refl),
)
does_can t v (question own n) = (
  tt,
  (t, (own, (n, tt))),
  ask_means t own n,
  at_exit (ended_of 0 Ask.Kinds.ps Ask.Kinds.r) tt (t, (own, (n, tt))) (tt, (tt, (tt, tt))),
  refl,
  (refl, refl, refl, refl, refl),
)
does_can t v (tpc f report buffer) =
    let o = tpc_reply_of t report f in (
      ([], ([], tt)),
      (t, (lent f, (report, (lent_mut buffer, tt)))),
      and_then o (λ os. wrote true os 0 buffer),
      at_exit (ended_of 2 Tpc.Kinds.ps Tpc.Kinds.r) ([], ([], tt)) (t, (lent f, (report, (lent_mut buffer, tt)))) (tt, (tt, (tt, (left_by o buffer, tt)))),
      replied_can o buffer,
      (refl, refl, refl, refl, refl, refl),
    )
does_can t v (measurement f index readings buffer) =
    let o = measurement_reply_of t index readings f in (
      ([], ([], tt)),
      (t, (lent f, (index, (readings, (lent_mut buffer, tt))))),
      and_then o (λ os. wrote true os 0 buffer),
      at_exit (ended_of 2 Measurement.Kinds.ps Measurement.Kinds.r) ([], ([], tt)) (t, (lent f, (index, (readings, (lent_mut buffer, tt))))) (tt, (tt, (tt, (tt, (left_by o buffer, tt))))),
      replied_can o buffer,
      (refl, refl, refl, refl, refl, refl, refl),
    )

pub table_runs : (ap' : List ℕ) (b : ℕ) → start_forbids ap' b ≡ false → (cs : List TableCall) → CanRun table (started_with ap' b) cs
table_runs ap' b may cs = can_run_exactly (table_meets ap' b) does_can (empty ap' b) (starts_can ap' b may) cs
