-- The table holds the place of each state.
use Rattle.f8_timer.proofs.Tables.{place-in_table}
use Rattle.f8_timer.proofs.cycle.place_of_state.Goals as goal

pub returns : goal.returns
returns c = place-in_table c.args.state _ c.ranges.state.fits
