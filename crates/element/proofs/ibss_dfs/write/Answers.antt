-- `ibss_dfs::write` meets its contract: the head and the pairs are put together, and then written as one.
-- Assumes nothing.
use Rattle.std.proofs.Common.{rules, sym, ◌∙◌}
use Rattle.octets.proofs.Overwriting.{written_as}
use Rattle.octets.proofs.Storing.{not_written}
use Rattle.element.specs.IbssDfs.{dfs_of}
use Rattle.element.proofs.DfsContents.{put_together, its_octets}
use Rattle.element.proofs.ibss_dfs.write.Goals as goal

pub returns-then-not-may_write : goal.returns-then-not-may_write
returns-then-not-may_write c = not_written _ _ _ (sym c.may_write.ensures ∙ search rules)

pub returns : goal.returns
returns c =
    let a = c.args in
    let d = dfs_of a.owner a.recovery a.pairs.now in
    written_as (search rules)
    (put_together _ a.pairs.now _ _ c.copy_from_slice.ensures.after c.copy_from_slice-2.ensures.after ∙ its_octets d (search rules))
    c.put.ensures
