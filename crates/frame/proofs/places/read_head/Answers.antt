-- A header that is heard has a frame behind it that is not too long.
use Rattle.std.proofs.Common.{◌≡◌, rules}
use Rattle.answer.specs.Faults.{nowhere}
use Rattle.header.specs.Headers.{header_means}
use Rattle.frame.proofs.Within.{head_short}
use Rattle.frame.proofs.places.read_head.Goals as goal

pub returns-clause-short : goal.returns-clause-short
returns-clause-short c =
    let a = c.args in
    let e : c.map_err.result ≡ nowhere (header_means a.cell a.own a.bssid a.frame.now) = search rules in
    head_short a.cell a.own a.bssid a.frame.now e
