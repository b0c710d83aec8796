-- The lines of the chips so far are put, and the rack stays.
use Rattle.std.proofs.Common.{◌≡◌, ◌+◌, ◌≤◌, length, map}
use Rattle.std.specs.Prelude.{sum_by}
use Rattle.outside.proofs.SinkLaws.{PutSoFar}
use Rattle.chip_debug.proofs.SocketLaws.{lines_from}
use Rattle.chip_debug.proofs.telling.put_fitted.Given as goal

abbrev pub invariant-loop-socket : goal.invariant-loop-socket
invariant-loop-socket g l =
    let states = map (λ b. (goal.Chip-dyn g (b.vtable, b.value)).state b.value) l.fn.rack.items in
    record {
      so_far : PutSoFar (g.K.Sink.output l.fn.sink) (g.K.Sink.output l.sink) (lines_from l.chain 0 states)
          (lines_from l.chain l.socket states);
      stays : map (λ b. (goal.Chip-dyn g (b.vtable, b.value)).state b.value) l.rack.items ≡ states;
      asked : sum_by (λ b. (goal.Chip-dyn g (b.vtable, b.value)).queries b.value) l.rack.items
          ≤ sum_by (λ b. (goal.Chip-dyn g (b.vtable, b.value)).queries b.value) l.fn.rack.items + l.socket;
      chips : length l.rack.items ≡ length l.fn.rack.items;
    }
