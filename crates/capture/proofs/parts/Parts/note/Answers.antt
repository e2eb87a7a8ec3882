-- `Parts::note` meets its contract, record by record.
use Rattle.std.proofs.Common.{◌≡◌, ap, sym, subst}
use Rattle.answer.specs.declared.Refusal.{Refusal}
use Rattle.capture_record.specs.Entries.{entry_told}
use Rattle.capture_record.specs.declared.entry.Entry.{Entry}
use Rattle.pen.specs.declared.words.Word.{Word}
use Rattle.capture.specs.CodeTerms.Parts.{lister_of, NotedAs}
use Rattle.capture.specs.Lists.{noted, no_station}
use Rattle.capture.proofs.Answering.{no_advance, no_frame, no_ask}
use Rattle.capture.proofs.Telling.{dropped, unstarted, asked_told}
use Rattle.capture.proofs.parts.Parts.note.Goals as goal

pub returns-in-Malformed : goal.returns-in-Malformed
unfolding noted
returns-in-Malformed c n =
    let a = c.args in
    let e = c.malformed.ensures in
    dropped a.self n a.columns.now Word.Record Refusal.RecordMalformed
    (ap (λ (y : Entry). noted (lister_of a.self n a.columns.now) (entry_told a.contents.now y)) (sym c.in-Malformed.is))
    e.told e.same e.no_schedule

pub advance-requires-clause-valid : goal.advance-requires-clause-valid
advance-requires-clause-valid c = (c.requires.sound 0).followed c.if-self.true

pub ask-requires : goal.ask-requires
ask-requires c = (c.requires.sound 0).followed c.if-self-2.true

pub returns-in-Ask : goal.returns-in-Ask
returns-in-Ask c n =
    let a = c.args in
    let e = c.ask.ensures in
    subst (λ (y : Entry). NotedAs (lister_of a.self n a.columns.now) a.contents.now y c.ask.result a.columns.now) (sym c.in-Ask.is)
    (asked_told a.self n a.columns.now c.requires.few (c.requires.sound n) c.if-self-2.true e.asked e.clears)

pub returns-in-Advance-2 : goal.returns-in-Advance-2
returns-in-Advance-2 c n =
    let a = c.args in
    let l = lister_of a.self n a.columns.now in
    let idle = c.if-self.false in
    unstarted a.self n a.columns.now c.requires.few (c.requires.sound n) idle Word.Advance
    (subst (λ (y : Entry). no_station l Word.Advance ≡ noted l (entry_told a.contents.now y)) (sym c.in-Advance-2.is) (no_advance l idle _))
    c.unstarted.ensures

pub returns-in-Ask-2 : goal.returns-in-Ask-2
returns-in-Ask-2 c n =
    let a = c.args in
    let l = lister_of a.self n a.columns.now in
    let idle = c.if-self-2.false in
    unstarted a.self n a.columns.now c.requires.few (c.requires.sound n) idle Word.Ask
    (subst (λ (y : Entry). no_station l Word.Ask ≡ noted l (entry_told a.contents.now y)) (sym c.in-Ask-2.is) (no_ask l idle _))
    c.unstarted-in-Ask-2.ensures

pub returns-in-Frame : goal.returns-in-Frame
returns-in-Frame c n =
    let a = c.args in
    let l = lister_of a.self n a.columns.now in
    let idle = c.requires.unheard c.in-Frame.is in
    unstarted a.self n a.columns.now c.requires.few (c.requires.sound n) idle Word.Frame
    (subst (λ (y : Entry). no_station l Word.Frame ≡ noted l (entry_told a.contents.now y)) (sym c.in-Frame.is) (no_frame l idle _))
    c.unstarted-in-Frame.ensures
