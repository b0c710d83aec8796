-- No socket so far is of the kind and free.
use Rattle.std.proofs.Common.{◌≡◌, map, drop}
use Rattle.rack_run.specs.Seating.{kinds_of}
use Rattle.rack_run.specs.Sockets.{free_socket}
use Rattle.rack_run.proofs.sockets.free_socket.Given as goal

abbrev pub invariant-loop-socket : goal.invariant-loop-socket
invariant-loop-socket g l =
    let kinds = kinds_of (map (λ b. (goal.Chip-dyn g (b.vtable, b.value)).state b.value) l.rack.items) in
    free_socket l.kind l.chain l.socket (drop l.socket kinds) ≡ free_socket l.kind l.chain 0 kinds
