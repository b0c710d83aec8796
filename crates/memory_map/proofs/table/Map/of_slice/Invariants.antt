use Rattle.memory_map.proofs.Mapping.{Mapped}
use Rattle.memory_map.proofs.table.Map.of_slice.Given as goal

abbrev pub invariant-loop-number : goal.invariant-loop-number
invariant-loop-number l = Mapped l.chips l.pages l.bytes.items l.number
