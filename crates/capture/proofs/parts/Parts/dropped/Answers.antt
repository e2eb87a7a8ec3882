-- `Parts::dropped` meets its contract: the parts are those without a station.
use Rattle.std.proofs.Common.{◌∙◌, ap}
use Rattle.capture.specs.CodeTerms.Parts.{lister_of}
use Rattle.capture.specs.declared.noting.Noted.{Noted}
use Rattle.capture.specs.declared.parts.Parts.{Parts}
use Rattle.capture.proofs.parts.Parts.dropped.Goals as goal

pub returns-clause-same : goal.returns-clause-same
returns-clause-same c n d = ap (λ (q : Parts). lister_of q n d) (ap (λ (x : Noted). x.parts) c.told.ensures) ∙ c.without.ensures.same n d
