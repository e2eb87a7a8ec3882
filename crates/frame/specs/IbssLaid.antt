-- A frame of an IBSS as the code hands it out. A frame that is refused has no sender, and names no owner.
use Rattle.std.specs.Prelude.{replicate, None, Ok, Err, option_map}
use Rattle.answer.specs.Faults.{Placed}
use Rattle.element.specs.IbssDfs.{dfs_fields}
use Rattle.frame.specs.IbssFrames.{SentInIbss}
use Rattle.frame.specs.Laid.{frame_laid}
use Rattle.frame.specs.declared.ibss.ReceivedInIbss.{ReceivedInIbss}

-- of a refused frame the sender is no one, and no owner is named
abbrev pub ibss_laid : Placed SentInIbss → ReceivedInIbss
ibss_laid (Err x) = record { received = Err x; sender = replicate 6 0; dfs = None }
ibss_laid (Ok s) = record { received = frame_laid (Ok s.sent); sender = s.sender; dfs = option_map dfs_fields s.dfs }
