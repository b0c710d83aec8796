-- The chips that were reached have heard the step, and the others are as they were. No question is put.
use Rattle.std.proofs.Common.{◌≡◌, map}
use Rattle.data_bus.specs.Racks.{SettlesStep}
use Rattle.data_bus.proofs.Racks.{ChangedBelow}
use Rattle.data_bus.proofs.settle.settle_all.Given as goal

abbrev pub invariant-loop-i : goal.invariant-loop-i
invariant-loop-i g l = record {
  settled : ChangedBelow (SettlesStep l.romc l.long l.first l.byte) l.i
      (map (λ b. (goal.Chip-dyn g (b.vtable, b.value)).state b.value) l.initial.chip-items)
      (map (λ b. (goal.Chip-dyn g (b.vtable, b.value)).state b.value) l.chip-items);
  asked : map (λ b. (goal.Chip-dyn g (b.vtable, b.value)).queries b.value) l.chip-items
      ≡ map (λ b. (goal.Chip-dyn g (b.vtable, b.value)).queries b.value) l.initial.chip-items;
}
