-- No chip of the chain so far parts, and the rack stays.
use Rattle.std.proofs.Common.{◌≡◌, ◌+◌, ◌≤◌, false, length, map, take}
use Rattle.std.specs.Prelude.{sum_by}
use Rattle.std.specs.List.{list_any}
use Rattle.chip_debug.proofs.SocketLaws.{parts_in}
use Rattle.chip_debug.proofs.sockets.are_apart.Given as goal

abbrev pub invariant-loop-socket : goal.invariant-loop-socket
invariant-loop-socket g l =
    let states = map (λ b. (goal.Chip-dyn g (b.vtable, b.value)).state b.value) l.fn.rack.items in
    record {
      none : list_any (parts_in l.reference states) (take l.socket-index l.socket-items) ≡ false;
      stays : map (λ b. (goal.Chip-dyn g (b.vtable, b.value)).state b.value) l.rack.items ≡ states;
      asked : sum_by (λ b. (goal.Chip-dyn g (b.vtable, b.value)).queries b.value) l.rack.items
          ≤ sum_by (λ b. (goal.Chip-dyn g (b.vtable, b.value)).queries b.value) l.fn.rack.items + l.socket-index;
      chips : length l.rack.items ≡ length l.fn.rack.items;
    }
