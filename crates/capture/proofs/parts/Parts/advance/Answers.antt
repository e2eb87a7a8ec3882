-- `Parts::advance` meets its contract: what the station's advance answers.
use Rattle.std.proofs.Common.{ℕ, ◌∙◌, ap, ap₂}
use Rattle.pen.specs.declared.words.Word.{Word}
use Rattle.station.specs.Clock.{advance_of}
use Rattle.station.specs.declared.Station.{Station}
use Rattle.capture.specs.CodeTerms.Parts.{lister_of}
use Rattle.capture.specs.Lists.{stepped}
use Rattle.capture.specs.declared.response.Response.{Response}
use Rattle.capture.proofs.Answering.{an_advance}
use Rattle.capture.proofs.Telling.{followed}
use Rattle.capture.proofs.parts.Parts.advance.Goals as goal

pub returns : goal.returns
returns c n contents =
    let a = c.args in
    let l = lister_of a.self n a.columns.now in
    let x = c.advance-stepped in
    followed a.self n a.columns.now Word.Advance (Response.Call x.result.answer) x.result.station
    (ap (stepped l) (x.ensures.value ∙ ap₂ (λ (s : Station) (k : ℕ). advance_of s k) c.whole.ensures c.from.ensures) ∙ an_advance l c.requires.started a.units)
    x.ensures.kept c.followed.ensures
