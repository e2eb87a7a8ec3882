-- A frame of an IBSS with the pair of its element 41 at an index.
use Rattle.std.specs.Prelude.{ℕ, Ok, option_map}
use Rattle.answer.specs.Checks.{and_then}
use Rattle.answer.specs.Faults.{Placed}
use Rattle.beacon.specs.Laid.{dfs_heard}
use Rattle.frame.specs.IbssFrames.{SentInIbss}
use Rattle.frame.specs.Laid.{received, frame_of, quiets_of}
use Rattle.frame.specs.declared.ibss.HeardInIbss.{HeardInIbss}

abbrev pub heard_laid : ℕ → Placed SentInIbss → Placed HeardInIbss
heard_laid i o =
    and_then o (λ s. Ok (record { received = received (frame_of s.sent.kind) s.sent.to_all (quiets_of s.sent.kind); dfs = option_map (dfs_heard i) s.dfs }))
