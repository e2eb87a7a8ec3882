-- `held_dfs` meets its contract where there is an element 41: its owner, octet by octet, its recovery interval and its pairs.
use Rattle.std.proofs.Common.{List, ap, length, rules, sym, ℕ, ◌++◌, ◌∙◌, ◌∷◌, ◌≡◌}
use Rattle.octets.proofs.JoinSplit.{all_from}
use Rattle.octets.specs.Numbers.{split, octets_from}
use Rattle.boundary.proofs.ibss_fields.held_dfs.Goals as goal

pub returns-in-Some : goal.returns-in-Some
returns-in-Some c =
    let d = c.in-Some.dfs in
    let six : length d.owner ≡ 6 = search rules in
    let owner : c.copy_from_slice.new.self ≡ octets_from 6 0 d.owner = c.copy_from_slice.ensures.after ∙ sym (all_from 6 d.owner six) in
    let pairs : c.copy_from_slice-in-Some.new.self ≡ split 8 d.pairs = c.copy_from_slice-in-Some.ensures.after ∙ c.octets64.ensures in
    rw (owner, pairs, c.in-Some.is) (ap (λ (os : List ℕ). 1 ∷ (os ++ (d.recovery ∷ split 8 d.pairs))) (all_from 6 d.owner six))
