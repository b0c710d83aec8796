-- An event comes to the tape, where nothing has stopped the session.
use Rattle.std.proofs.Common.{◌∙◌, ap, refl, sym}
use Rattle.std.specs.Prelude.{is_some}
use Rattle.rewind.specs.Tape.{TapeState}
use Rattle.console_spec.specs.declared.Event.TheVariants.{Keys, Pulse}
use Rattle.rewind.proofs.EventLaws.{keyed_same}
use Rattle.chip_debug.specs.Standing.{SessionState, count_in}
use Rattle.chip_debug.proofs.Halts.{none_of}
use Rattle.chip_debug.proofs.Placing.{event_uncounted, happened_at}
use Rattle.chip_debug.proofs.session.Session.happen.Goals as goal

pub returns-in-Keys-clause-at : goal.returns-in-Keys-clause-at
returns-in-Keys-clause-at g c = λ scene stands.
    let there = rw (← c.self.view_is) at stands in
    let runs = sym c.is_some.ensures ∙ c.if-is_some.false in
    let none = none_of c.self.inside.halt runs in
    let tape = c.keys.ensures.tape in
    rw c.in-Keys.is
    (happened_at _ _ _ _ _ scene there none runs (c.self.invariant.goes none) (c.keys.ensures.taped scene.first there.taped)
    (keyed_same c.in-Keys.port c.in-Keys.byte c.self.inside.tape.machine c.keys.new.self.machine
    (ap (λ (t : TapeState). t.machine) tape)).chain (ap (λ (t : TapeState). t.fill) tape) (ap (λ (t : TapeState). t.powers) tape)
    (ap (λ (t : TapeState). t.mode) tape) (ap (λ (t : TapeState). t.log.played) tape) refl refl)

pub returns-in-Pulse-clause-at : goal.returns-in-Pulse-clause-at
returns-in-Pulse-clause-at g c = λ scene stands.
    let there = rw (← c.self.view_is) at stands in
    let runs = sym c.is_some.ensures ∙ c.if-is_some.false in
    let none = none_of c.self.inside.halt runs in
    let tape = c.pulse.ensures.tape in
    rw c.in-Pulse.is
    (happened_at _ _ _ _ _ scene there none runs (c.self.invariant.goes none) (c.pulse.ensures.taped scene.first there.taped)
    (ap (λ (t : TapeState). t.machine.chain) tape) (ap (λ (t : TapeState). t.fill) tape) (ap (λ (t : TapeState). t.powers) tape)
    (ap (λ (t : TapeState). t.mode) tape) (ap (λ (t : TapeState). t.log.played) tape) refl refl)

pub returns-in-Keys-clause-count : goal.returns-in-Keys-clause-count
returns-in-Keys-clause-count g c =
    event_uncounted _ _ (Keys c.in-Keys.port c.in-Keys.byte) (ap (λ (t : TapeState). t.log.played) c.keys.ensures.tape)
    ∙ ap (λ (s : SessionState). count_in s) c.self.view_is

pub returns-in-Pulse-clause-count : goal.returns-in-Pulse-clause-count
returns-in-Pulse-clause-count g c =
    event_uncounted _ _ (Pulse c.in-Pulse.chip) (ap (λ (t : TapeState). t.log.played) c.pulse.ensures.tape)
    ∙ ap (λ (s : SessionState). count_in s) c.self.view_is
