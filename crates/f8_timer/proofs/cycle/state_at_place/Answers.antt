-- The table holds the state at each place.
use Rattle.f8_timer.proofs.Tables.{state-in_table}
use Rattle.f8_timer.proofs.cycle.state_at_place.Goals as goal

pub returns : goal.returns
returns c = state-in_table c.args.place _ c.ranges.place.fits
