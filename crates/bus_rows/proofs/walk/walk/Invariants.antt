-- After each step the index stands for the rack and the probe.
use Rattle.std.proofs.Common.{map}
use Rattle.bus_rows.specs.Indexed.{FitsIndexed}
use Rattle.bus_rows.proofs.walk.walk.Given as goal

abbrev pub invariant-loop-line : goal.invariant-loop-line
invariant-loop-line g l = FitsIndexed l.bus.index l.bus.probe (map (λ b. (goal.Chip-dyn g (b.vtable, b.value)).state b.value) l.rack.items)
