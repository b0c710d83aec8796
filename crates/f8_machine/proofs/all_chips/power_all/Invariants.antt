-- The chips that were reached are powered, and the others are as they were.
use Rattle.std.proofs.Common.{◌≡◌, map}
use Rattle.data_bus.proofs.Racks.{ChangedBelow}
use Rattle.console_spec.specs.Powering.{fill_in, start_in}
use Rattle.f8_machine.specs.Rounds.{PowersInSocket}
use Rattle.f8_machine.proofs.all_chips.power_all.Given as goal

abbrev pub invariant-loop-socket : goal.invariant-loop-socket
invariant-loop-socket g l = record {
  changed : ChangedBelow (PowersInSocket (fill_in l.fill l.chain l.powers) (start_in l.fill l.chain l.powers)) l.socket
      (map (λ b. (goal.Chip-dyn g (b.vtable, b.value)).state b.value) l.initial.chip-items)
      (map (λ b. (goal.Chip-dyn g (b.vtable, b.value)).state b.value) l.chip-items);
  asked : map (λ b. (goal.Chip-dyn g (b.vtable, b.value)).queries b.value) l.chip-items
      ≡ map (λ b. (goal.Chip-dyn g (b.vtable, b.value)).queries b.value) l.initial.chip-items;
}
