use Rattle.f8_isa.specs.KeptMemory.{AreFirstBytes, placed_fill}
use Rattle.f8_isa.proofs.flat_memory.first_bytes.Given as goal

abbrev pub invariant-loop-at : goal.invariant-loop-at
invariant-loop-at l = AreFirstBytes l.map (placed_fill l.fill l.powers) l.bytes.items l.at
