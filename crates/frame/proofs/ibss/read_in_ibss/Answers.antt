-- `read_in_ibss` meets its contract.
use Rattle.std.proofs.Common.{Ok, ap₂, ◌∙◌, ◌≡◌, arith, List, ℕ}
use Rattle.std.proofs.lemmas.Grind.{common_steps}
use Rattle.std.specs.Prelude.{Option, option_map}
use Rattle.beacon.specs.declared.HeardDfs.{HeardDfs}
use Rattle.element.specs.declared.ibss_dfs.IbssDfs.{IbssDfs}
use Rattle.frame.specs.declared.ibss.ReceivedInIbss.{ReceivedInIbss}
use Rattle.frame.proofs.ReadInIbss.{handed_out}
use Rattle.frame.proofs.ibss.read_in_ibss.Goals as goal

pub returns-in-Ok : goal.returns-in-Ok
returns-in-Ok c =
    let a = c.args in
    let named : c.map.result ≡ option_map (λ (n : HeardDfs). n.dfs) c.in-Ok.heard.dfs = grind (arith, common_steps) in
    let made : List ℕ → Option IbssDfs → ReceivedInIbss = λ s d. record { received = Ok c.in-Ok.heard.received; sender = s; dfs = d } in
    ap₂ made c.sender-sender.ensures named ∙ handed_out a.own a.bssid a.interval a.frame.now c.in-Ok.ensures
