use Rattle.f8_spec.specs.BusArbitration.{seat_has_data_port}
use Rattle.memory_map.proofs.PortCounts.{Tallied}
use Rattle.memory_map.proofs.ports.readers.Given as goal

abbrev pub invariant-loop-chip : goal.invariant-loop-chip
invariant-loop-chip l = Tallied (λ s. seat_has_data_port s l.port) l.chips l.count l.chip-index
