-- Power-on and reset once more.
use Rattle.std.proofs.Common.{◌∙◌, ap, refl, subst, sym}
use Rattle.rewind.specs.Tape.{TapeState}
use Rattle.chip_debug.specs.Carried.{restarted}
use Rattle.chip_debug.specs.Standing.{IsAt, SessionState}
use Rattle.chip_debug.proofs.Placing.{begun_asks, begun_at, begun_played}
use Rattle.chip_debug.proofs.session.Session.restart.Goals as goal

pub invariant_of-self : goal.invariant_of-self
invariant_of-self g c =
    let tape = c.power-outcome.ensures.tape in
    begun_played (record { tape = c.power-outcome.new.self; halt = c.halt_of-self-inside.result; breaks = c.self.inside.breaks })
    c.power-outcome.result (ap (λ (t : TapeState). t.mode) tape) c.halt_of-self-inside.ensures
    (ap (λ (t : TapeState). t.log.played) tape) (ap (λ (t : TapeState). t.log.left) tape)

pub returns-clause-at : goal.returns-clause-at
returns-clause-at g c = λ scene stands.
    let there = rw (← c.self.view_is) at stands in
    let tape = c.power-outcome.ensures.tape in
    begun_at (record { tape = c.power-outcome.new.self; halt = c.halt_of-self-inside.result; breaks = c.self.inside.breaks })
    c.power-outcome.result (ap (λ (t : TapeState). t.mode) tape) c.halt_of-self-inside.ensures
    (ap (λ (t : TapeState). t.log.played) tape) (ap (λ (t : TapeState). t.log.left) tape) _ (restarted c.args.fill scene)
    (c.power-outcome.ensures.taped scene.first there.taped) (c.power-outcome.ensures.outcome scene.first there.taped)
    (c.power-outcome.ensures.chain ∙ there.chain) (ap (λ (t : TapeState). t.fill) tape)
    (ap (λ (t : TapeState). t.powers) tape ∙ there.powers) refl refl there.breaks

pub returns-clause-asked : goal.returns-clause-asked
returns-clause-asked g c = λ scene stands.
    let there = rw (← c.self.view_is) at stands in
    let tape = c.power-outcome.ensures.tape in
    begun_asks _ _ c.power-outcome.new.self (restarted c.args.fill scene) (c.power-outcome.ensures.chain ∙ there.chain)
    (ap (λ (t : TapeState). t.fill) tape) (ap (λ (t : TapeState). t.powers) tape ∙ there.powers) refl refl
    (c.power-outcome.ensures.asked scene.first there.taped)
