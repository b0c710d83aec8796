-- The state at the place of a byte is that byte.
use Rattle.std.proofs.Common.{refl}
use Rattle.f8_spec.proofs.TimerExpiry.{expires-loaded}
use Rattle.f8_timer.proofs.Tables.{state_back}
use Rattle.f8_timer.proofs.clock.Timer.load.Goals as goal

pub returns-clause-state : goal.returns-clause-state
returns-clause-state c = rw (c.place_of_state-self-inside.ensures, state_back c.args.byte c.ranges.byte.fits) refl

pub returns-clause-expiries : goal.returns-clause-expiries
returns-clause-expiries c = λ time.
    rw (c.place_of_state-self-inside.ensures, state_back c.args.byte c.ranges.byte.fits) (expires-loaded c.args.byte time c.ranges.byte.fits)
