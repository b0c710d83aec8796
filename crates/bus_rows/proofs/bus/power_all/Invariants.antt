-- The chips that were reached are powered, and the others are as they were.
use Rattle.std.proofs.Common.{map}
use Rattle.data_bus.proofs.Racks.{ChangedBelow}
use Rattle.bus_rows.specs.Indexed.{HasAddresses}
use Rattle.bus_rows.proofs.bus.power_all.Given as goal

abbrev pub invariant-loop-socket : goal.invariant-loop-socket
invariant-loop-socket g l = ChangedBelow HasAddresses l.socket
    (map (λ b. (goal.Chip-dyn g (b.vtable, b.value)).state b.value) l.initial.chip-items)
    (map (λ b. (goal.Chip-dyn g (b.vtable, b.value)).state b.value) l.chip-items)
