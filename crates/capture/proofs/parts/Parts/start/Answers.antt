-- `Parts::start` meets its contract: what the station's start answers.
use Rattle.std.specs.Prelude.{Ok}
use Rattle.std.proofs.Common.{◌∙◌, ap}
use Rattle.capture_record.specs.declared.entry.Settings.{Settings}
use Rattle.pen.specs.declared.words.Word.{Word}
use Rattle.station.specs.Starting.{start_means}
use Rattle.capture.specs.CodeTerms.Parts.{lister_of}
use Rattle.capture.specs.Lists.{noted, started}
use Rattle.capture.specs.declared.response.Response.{Response}
use Rattle.capture.proofs.Telling.{dropped, followed}
use Rattle.capture.proofs.parts.Parts.start.Goals as goal

pub returns-in-Ok : goal.returns-in-Ok
unfolding noted
returns-in-Ok c n =
    let a = c.args in
    followed a.self n a.columns.now Word.Start (Response.Call (Ok tt)) c.in-Ok.station
    (ap (started (lister_of a.self n a.columns.now))
    (c.in-Ok.ensures.value ∙ ap (λ (x : Settings). start_means x.own x.ap x.interval x.channel) c.settings_in-settings.ensures))
    c.in-Ok.ensures.valid c.followed.ensures

pub returns-in-Err : goal.returns-in-Err
unfolding noted
returns-in-Err c n =
    let a = c.args in
    dropped a.self n a.columns.now Word.Start c.in-Err.refusal
    (ap (started (lister_of a.self n a.columns.now))
    (c.in-Err.ensures.value ∙ ap (λ (x : Settings). start_means x.own x.ap x.interval x.channel) c.settings_in-settings.ensures))
    c.dropped.ensures.told c.dropped.ensures.same c.dropped.ensures.no_schedule
