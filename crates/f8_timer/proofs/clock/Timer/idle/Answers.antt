-- FF at power-on, and no expiry from any time on.
use Rattle.std.proofs.Common.{refl}
use Rattle.f8_spec.proofs.TimerExpiry.{expires-idle}
use Rattle.f8_timer.specs.CyclePlace.{state_at}
use Rattle.f8_timer.proofs.clock.Timer.idle.Goals as goal

pub returns-clause-state : goal.returns-clause-state
unfolding state_at
returns-clause-state c = refl

pub returns-clause-expiries : goal.returns-clause-expiries
unfolding state_at
returns-clause-expiries c = expires-idle
