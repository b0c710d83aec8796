use Rattle.std.proofs.Common.{arith}
use Rattle.std.proofs.lemmas.Grind.{common_steps}
use Rattle.std.proofs.lemmas.List.Elements.{filter_map-append}
use Rattle.memory_map.proofs.chips.told_vectors.Goals as goal

pub loop-chip-preserved : goal.loop-chip-preserved
loop-chip-preserved c = grind (arith, common_steps, filter_map-append)
