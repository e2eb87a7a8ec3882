-- What an accepted beacon of an IBSS says, over the plain list of its elements (02, Five). The code's walk and the folds over it have no part in this.
use Rattle.std.specs.Prelude.{List, [], ◌∷◌, ℕ, Some, None, Option}
use Rattle.beacon.specs.IbssBeacons.{ToldInIbss}
use Rattle.element.specs.IbssDfs.{Dfs, dfs_means}
use Rattle.claims.specs.FilteredFrames.{NoticeOf}
use Rattle.claims.specs.Filters.{of_id, ReadAs}

abbrev pub any_dfs : Option Dfs → List Dfs
any_dfs None = []
any_dfs (Some d) = d ∷ []

-- as in 01, and of element 41 there is none or one
pub record IbssNoticeOf (b : ℕ) (body : List ℕ) (t : ToldInIbss) : Type 0 where
  pub notice_is : NoticeOf b body t.told
  pub dfs_is : ReadAs dfs_means (of_id 41 notice_is.items) (any_dfs t.dfs)
