use Rattle.f8_spec.specs.BusArbitration.{seat_has_port}
use Rattle.memory_map.proofs.PortCounts.{Tallied}
use Rattle.memory_map.proofs.ports.takers.Given as goal

abbrev pub invariant-loop-chip : goal.invariant-loop-chip
invariant-loop-chip l = Tallied (λ s. seat_has_port s l.port) l.chips l.count l.chip-index
