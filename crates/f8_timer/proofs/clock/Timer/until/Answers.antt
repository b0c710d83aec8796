-- The steps to the expiry, in clocks.
use Rattle.std.proofs.Common.{◌≡◌, refl, sym, ap, ◌∙◌}
use Rattle.std.specs.Prelude.{Some}
use Rattle.f8_spec.specs.ShiftTimer.{clocks_to_expiry, cycle_period, steps_to_expiry, timer_loaded}
use Rattle.f8_spec.proofs.TimerExpiry.{tells-next_expiry}
use Rattle.f8_timer.proofs.AtPlaces.{clocks-none, clocks-some}
use Rattle.f8_timer.proofs.clock.Timer.until.Goals as goal

-- FE is a whole cycle before the expiry
whole_cycle : clocks_to_expiry (timer_loaded 0xFE) ≡ Some cycle_period
unfolding steps_to_expiry
whole_cycle = refl

pub returns-then-self-eq0-clause-value : goal.returns-then-self-eq0-clause-value
returns-then-self-eq0-clause-value c = rw (← c.self.view_is) (sym (clocks-none c.self.inside.place c.self.inside.phase c.if-self-eq0.true))

pub returns-then-self-eq0-clause-expiry : goal.returns-then-self-eq0-clause-expiry
returns-then-self-eq0-clause-expiry c = λ byte loaded time as_loaded.
    returns-then-self-eq0-clause-value c ∙ tells-next_expiry c.args.self.now byte loaded time as_loaded

pub returns-clause-value : goal.returns-clause-value
returns-clause-value c = rw (← c.self.view_is, c.from.ensures, c.from-2.ensures, c.from-3.ensures)
    (sym (clocks-some c.self.inside.place c.self.inside.phase c.self.invariant.0 c.if-self-eq0.false))

pub returns-clause-expiry : goal.returns-clause-expiry
returns-clause-expiry c = λ byte loaded time as_loaded.
    returns-clause-value c ∙ tells-next_expiry c.args.self.now byte loaded time as_loaded

pub returns-then-self-eq0-clause-cycle : goal.returns-then-self-eq0-clause-cycle
returns-then-self-eq0-clause-cycle c = λ fresh. returns-then-self-eq0-clause-value c ∙ ap clocks_to_expiry fresh ∙ whole_cycle

pub returns-clause-cycle : goal.returns-clause-cycle
returns-clause-cycle c = λ fresh. returns-clause-value c ∙ ap clocks_to_expiry fresh ∙ whole_cycle
