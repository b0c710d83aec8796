-- Clocks with a step in them keep the expiries.
use Rattle.f8_timer.proofs.AtPlaces.{placed, keeps-full}
use Rattle.f8_timer.proofs.clock.Timer.pass.Goals as goal

pub returns-clause-expiries : goal.returns-clause-expiries
returns-clause-expiries c = rw (c.step.ensures.state, c.step.ensures.expires, ← c.self.view_is)
    (keeps-full c.args.phi (placed c.self.inside.place c.self.inside.phase) c.requires c.if-since-lt-STEP_PHI.false)
