-- What power-on leaves of a chip's counters.
use Rattle.std.proofs.Common.{◌<◌, rules}
use Rattle.bus_rows.proofs.Indexed.{powered_counted}
use Rattle.bus_rows.proofs.bus.power_at.Goals as goal

pub returns : goal.returns
returns g c = let small : c.args.start < 65536 = search rules in powered_counted c.args.start _ _ small c.power.ensures.0
