-- `read_request` meets its contract: what is found, and what is read there.
use Rattle.std.proofs.Common.{Ok, ap, ◌∙◌}
use Rattle.frame.proofs.Indexing.{asked}
use Rattle.frame.proofs.index.read_request.Goals as goal

pub returns : goal.returns
returns c =
    let a = c.args in
    ap (λ r. Ok (record { frame = c.in_ok-found.found.frame; request = r })) c.request_there.ensures ∙ asked a.body.now a.index c.in_ok-found.ensures
