-- Element 41 as the code reads it and adds it: of those before it, it is known whether there is one.
use Rattle.std.specs.Prelude.{Bool, ◌&&◌, List, [], ◌∷◌, ℕ, eqb, Ok, Err}
use Rattle.answer.specs.Checks.{Outcome, pick, ◌⇒◌, judged, and_then}
use Rattle.answer.specs.declared.Refusal.{Refusal}
use Rattle.element.specs.IbssDfs.{Dfs, dfs_means}
use Rattle.beacon.specs.IbssBeacons.{ToldInIbss, takes_dfs, takes_too}
use Rattle.beacon.specs.Laid.{dfs_heard}
use Rattle.beacon.specs.declared.HeardDfs.{HeardDfs}

-- whether an element is read as element 41
abbrev pub reads_dfs : Bool → ℕ → Bool
reads_dfs ibss id = ibss && eqb id 41

-- one element more, in an IBSS or not
unfoldable pub takes_where : Bool → ℕ → ℕ → List ℕ → ToldInIbss → Outcome ToldInIbss
takes_where ibss b id c t = pick (reads_dfs ibss id) (takes_dfs c t) (takes_too b id c t)

-- contents of element 41, after another one or not
abbrev pub first_dfs : Bool → List ℕ → Outcome Dfs
first_dfs names c = and_then (dfs_means c) (λ d. judged (names ⇒ Refusal.Repeated ∷ []) d)

-- as it is handed out, with the pair at an index
abbrev pub naming_laid : ℕ → Outcome Dfs → Outcome HeardDfs
naming_laid i (Err r) = Err r
naming_laid i (Ok d) = Ok (dfs_heard i d)
