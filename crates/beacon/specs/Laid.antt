-- What a body says, as the code hands it out: Quiet elements in slots, the rest of which are blank, and element 41 with one pair of it.
use Rattle.std.specs.Prelude.{List, ◌++◌, ℕ, ◌-◌, length, replicate, Ok, Err, Some, option_map}
use Rattle.answer.specs.Faults.{Placed}
use Rattle.element.specs.IbssDfs.{Dfs, dfs_fields}
use Rattle.element.specs.declared.quiet.Quiet.{Quiet}
use Rattle.beacon.specs.Beacons.{quiet_limit}
use Rattle.beacon.specs.IbssBeacons.{ToldInIbss, pair_in}
use Rattle.beacon.specs.declared.Heard.{Heard}
use Rattle.beacon.specs.declared.HeardDfs.{HeardDfs}

abbrev pub no_quiet : Quiet
no_quiet = record { count = 0; period = 0; duration = 0; offset = 0 }

abbrev pub slots : List Quiet → List Quiet
slots qs = qs ++ replicate (quiet_limit - length qs) no_quiet

-- what element 41 says, with the pair at an index
abbrev pub dfs_heard : ℕ → Dfs → HeardDfs
dfs_heard i d = record { dfs = dfs_fields d; pair = pair_in i (Some d) }

abbrev pub heard_with : ℕ → ToldInIbss → Heard
heard_with i t =
    record {
      notice = t.told.notice;
      quiets = slots t.told.quiets;
      count = length t.told.quiets;
      dfs = option_map (dfs_heard i) t.dfs;
    }

abbrev pub laid : ℕ → Placed ToldInIbss → Placed Heard
laid i (Err x) = Err x
laid i (Ok t) = Ok (heard_with i t)
