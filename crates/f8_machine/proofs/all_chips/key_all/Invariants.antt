-- The chips that were reached have the key byte, and the others are as they were.
use Rattle.std.proofs.Common.{◌≡◌, map}
use Rattle.data_bus.proofs.Racks.{ChangedBelow}
use Rattle.f8_machine.specs.Keying.{KeysInSocket}
use Rattle.f8_machine.proofs.all_chips.key_all.Given as goal

abbrev pub invariant-loop-chip : goal.invariant-loop-chip
invariant-loop-chip g l = record {
  changed : ChangedBelow (KeysInSocket l.port l.byte) l.chip-index
      (map (λ b. (goal.Chip-dyn g (b.vtable, b.value)).state b.value) l.initial.chip-items)
      (map (λ b. (goal.Chip-dyn g (b.vtable, b.value)).state b.value) l.chip-items);
  asked : map (λ b. (goal.Chip-dyn g (b.vtable, b.value)).queries b.value) l.chip-items
      ≡ map (λ b. (goal.Chip-dyn g (b.vtable, b.value)).queries b.value) l.initial.chip-items;
}
