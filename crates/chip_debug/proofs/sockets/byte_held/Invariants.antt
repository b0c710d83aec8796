-- The byte so far, with those of the chips that are left, are all that are held; and the rack stays.
use Rattle.std.proofs.Common.{◌≡◌, ◌+◌, ◌≤◌, ◌++◌, length, map}
use Rattle.std.specs.Prelude.{sum_by}
use Rattle.chip_debug.proofs.SocketLaws.{held_from, listed}
use Rattle.chip_debug.proofs.sockets.byte_held.Given as goal

abbrev pub invariant-loop-socket : goal.invariant-loop-socket
invariant-loop-socket g l =
    let states = map (λ b. (goal.Chip-dyn g (b.vtable, b.value)).state b.value) l.fn.rack.items in
    record {
      rest : held_from l.at 0 states ≡ listed l.held ++ held_from l.at l.socket states;
      stays : map (λ b. (goal.Chip-dyn g (b.vtable, b.value)).state b.value) l.rack.items ≡ states;
      asked : sum_by (λ b. (goal.Chip-dyn g (b.vtable, b.value)).queries b.value) l.rack.items
          ≤ sum_by (λ b. (goal.Chip-dyn g (b.vtable, b.value)).queries b.value) l.fn.rack.items + l.socket;
      chips : length l.rack.items ≡ length l.fn.rack.items;
    }
