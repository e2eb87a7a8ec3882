-- What was found in a frame lies in its body.
use Rattle.std.proofs.Common.{◌≡◌, Ok, arith}
use Rattle.std.proofs.lemmas.Grind.{common_steps}
use Rattle.header.specs.Headers.{body_of}
use Rattle.frame.specs.CodeTerms.Located.{located_in, kind_means}
use Rattle.frame.proofs.Indexing.{request_placed}
use Rattle.frame.proofs.index.request_at.Goals as goal

pub request_there-requires : goal.request_there-requires
request_there-requires c =
    let a = c.args in
    let f = a.frame.now in
    let found : Ok c.in_ok-found.found ≡ located_in a.index (body_of f) (kind_means a.own a.ap a.interval f) = grind (arith, common_steps) in
    request_placed a.own a.ap a.interval f a.index c.body.ensures found
