-- Isolation (02, Six): "Two runs that agree on the table's start, a station's joining, the advances, the frames to all ones and the frames, questions and readings for
-- that station, in one order, give it the same answers, replies and row contents until it leaves." The other calls of either run are any at all, and so is which row it
-- sits in. Assumes nothing.
use Rattle.std.specs.Prelude.{Ok}
use mathlib.Core.List.{List, []}
use mathlib.Core.Path.{◌≡◌, sym, ap, ap₂, ◌∙◌}
use Prim.Native.Nat.{ℕ}
use Rattle.table.specs.Tables.{station_of}
use Rattle.table.specs.declared.Table.{Table}
use Rattle.claims.specs.Histories.{clock_after}
use Rattle.claims.specs.Records.{record_from}
use Rattle.claims.specs.Runs.{calls_of}
use Rattle.claims.specs.TableHistories.{made_for, calls_for, advances_of, Stay, joined_at, settings_of}
use Rattle.claims.specs.TableRuns.{TableCall, TableMade}
use Rattle.claims.proofs.RunsMeant.{kept_after, made_after}
use Rattle.claims.proofs.TableStays.{row_means, followed}

module _ (ap' : List ℕ) (b : ℕ) (own : List ℕ) (channel : ℕ) where
  -- two runs with the same start and the same joining; until the joining they need agree on the advances alone
  module _
      (before before' after after' : List TableMade)
      (t t' : Table)
      (one : Stay ap' b own channel before after t)
      (other : Stay ap' b own channel before' after' t')
      (same-advances : advances_of (calls_of before) ≡ advances_of (calls_of before'))
      (same-calls : calls_for own after ≡ calls_for own after')
    where
      same_moment : joined_at before ≡ joined_at before'
      same_moment = ap clock_after same-advances

      -- each call for it got the same answer, and each reply put the same octets into the same buffer
      pub same_answers : made_for own after ≡ made_for own after'
      same_answers =
          (followed ap' b own channel before after t one).told
          ∙ ap₂ (λ (m : ℕ) (cs : List TableCall). made_after row_means (record_from m (settings_of ap' b own channel) []) cs) same_moment same-calls
          ∙ sym (followed ap' b own channel before' after' t' other).told

      -- and its row holds the same
      pub same_contents : station_of t own ≡ station_of t' own
      same_contents =
          (followed ap' b own channel before after t one).row
          ∙ ap₂ (λ (m : ℕ) (cs : List TableCall). Ok (kept_after row_means (record_from m (settings_of ap' b own channel) []) cs)) same_moment same-calls
          ∙ sym (followed ap' b own channel before' after' t' other).row
