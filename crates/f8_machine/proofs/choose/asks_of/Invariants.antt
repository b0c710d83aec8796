-- The chips of the sockets so far were asked.
use Rattle.std.proofs.Common.{◌≡◌, length, map, take}
use Rattle.f8_machine.specs.Choosing.{asks_in}
use Rattle.f8_machine.proofs.choose.asks_of.Given as goal

abbrev pub invariant-loop-place : goal.invariant-loop-place
invariant-loop-place g l = record {
  size : length l.asks ≡ 16;
  asked : take l.place l.asks
      ≡ map (asks_in (map (λ b. (goal.Chip-dyn g (b.vtable, b.value)).state b.value) l.rack.items)) (take l.place l.sockets);
}
