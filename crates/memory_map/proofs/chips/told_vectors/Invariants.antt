-- The vectors of the chips so far.
use Rattle.std.proofs.Common.{◌≡◌, ◌≤◌, length, take}
use Rattle.std.specs.Prelude.{filter_map, None}
use Rattle.chip_face.specs.Fitting.{fitted}
use Rattle.memory_map.specs.MapKinds.{told_vector}
use Rattle.memory_map.proofs.chips.told_vectors.Given as goal

abbrev pub invariant-loop-chip : goal.invariant-loop-chip
invariant-loop-chip l = record {
  each : l.vectors.items ≡ filter_map (λ chip. told_vector (fitted None chip)) (take l.chip-index l.chips);
  few : length l.vectors.items ≤ l.chip-index;
}
