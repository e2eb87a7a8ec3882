-- `advance` meets its contract: a refused one leaves the octets, and another changes those of the clock, and at a switch those of the channel and of the
-- state. Assumes nothing.
use Rattle.std.specs.Prelude.{Ok, Err, None, Option}
use Rattle.std.proofs.Common.{List, [], ap, ap₂, false, rules, sym, ℕ, ◌∙◌, ◌∷◌, ◌≡◌}
use Rattle.answer.specs.Checks.{Outcome, answer_of}
use Rattle.answer.specs.declared.Refusal.{Refusal}
use Rattle.octets.specs.Numbers.{Octets, number}
use Rattle.octets.specs.Writing.{over}
use Rattle.pending.specs.declared.Switch.{Switch}
use Rattle.station.specs.Clock.{clock_advance}
use Rattle.station.specs.declared.Station.{Station}
use Rattle.station_record.specs.Calls.{relaid, advanced_in}
use Rattle.station_record.specs.Held.{pending_at, no_record}
use Rattle.station_record.specs.Records.{state_octets}
use Rattle.station_record.proofs.Advancing.{refused, goes, switches}
use Rattle.station_record.proofs.InPlace.{told_in_place, switched_in_place}
use Rattle.station_record.proofs.stepping.advance.Goals as goal
use Rattle.station_record.proofs.stepping.advance.Goals.{After-advance_clock}

-- the octets hold a station, and its clock and its pending switch decide
holds : (c : After-advance_clock) → no_record c.args.memory.now ≡ false
holds c = sym c.is_broken.ensures ∙ c.if-is_broken.false

each : (c : After-advance_clock) → Octets c.args.memory.now
each c i = search rules

decided : (c : After-advance_clock) → c.advance_clock.result ≡ clock_advance (number 4 4 c.args.memory.now) (pending_at c.args.memory.now) c.args.units
decided c =
    c.advance_clock.ensures
    ∙ ap₂ (λ (t : ℕ) (p : Option Switch). clock_advance t p c.args.units) c.number32-clock.ensures c.pending_in-pending.ensures

-- ---- refused

none : (c : After-advance_clock) {r : Refusal} → c.advance_clock.result ≡ Err r → advanced_in c.args.units c.args.memory.now ≡ Err r
none c e = refused c.args.units c.args.memory.now (holds c) (decided c) e

pub returns-in_err-moment-clause-value : goal.returns-in_err-moment-clause-value
returns-in_err-moment-clause-value c =
    let told : c.from_residual.result ≡ Err c.in_err-moment.field-0.0 = search rules in
    told ∙ ap answer_of (sym (none (goal.at.returns-in_err-moment-clause-value c).After-advance_clock c.in_err-moment.was))

pub returns-in_err-moment-clause-memory_after : goal.returns-in_err-moment-clause-memory_after
returns-in_err-moment-clause-memory_after c =
    ap (λ (o : Outcome Station). relaid c.args.memory.now o) (sym (none (goal.at.returns-in_err-moment-clause-memory_after c).After-advance_clock c.in_err-moment.was))

-- ---- accepted

pub returns-in-Goes-clause-memory_after : goal.returns-in-Goes-clause-memory_after
returns-in-Goes-clause-memory_after c =
    let k = (goal.at.returns-in-Goes-clause-memory_after c).After-advance_clock in
    let os = c.args.memory.now in
    c.tell.ensures
    ∙ told_in_place os (each k) (holds k) c.in-Goes.moment
    ∙ ap (λ (o : Outcome Station). relaid os o) (sym (goes c.args.units os (holds k) (sym (c.in_ok-moment.was ∙ ap Ok c.in-Goes.is) ∙ decided k)))

pub returns-in-Switches-clause-memory_after : goal.returns-in-Switches-clause-memory_after
returns-in-Switches-clause-memory_after c =
    let k = (goal.at.returns-in-Switches-clause-memory_after c).After-advance_clock in
    let os = c.args.memory.now in
    let s = c.in-Switches in
    c.switch.ensures
    ∙ ap (λ (b : List ℕ). over (over b 1 (s.channel ∷ [])) 20 (state_octets None None 0 0)) c.tell-in-Switches.ensures
    ∙ switched_in_place os (each k) (holds k) s.moment s.channel
    ∙ ap (λ (o : Outcome Station). relaid os o) (sym (switches c.args.units os (holds k) (sym (c.in_ok-moment.was ∙ ap Ok s.is) ∙ decided k)))
