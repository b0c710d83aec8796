-- The socket is free, or it is of another kind or in the chain.
use Rattle.std.proofs.Common.{◌<◌, ◌∙◌, length, sym}
use Rattle.rack_run.proofs.Counts.{free_here, free_other, free_held}
use Rattle.rack_run.proofs.sockets.free_socket.Goals.{else-is_of-via-then-is_of+else-not-contains}
use Rattle.rack_run.proofs.sockets.free_socket.Goals.{else-is_of-via-else-is_of}
use Rattle.rack_run.proofs.sockets.free_socket.Goals as goal

pub returns-then-not-contains-clause-socket : goal.returns-then-not-contains-clause-socket
returns-then-not-contains-clause-socket g c =
    let within : c.loop-socket.socket < length c.args.rack.now.items =
    rw c.deref-chip-items.ensures.value at c.loop-socket-test.true in
    let here = rw c.deref-chip-items.ensures.value at c.chip-item.is in
    sym
    (free_here (λ b. (goal.Chip-dyn g (b.vtable, b.value)).state b.value) c.args.kind c.args.rack.now.items c.loop-socket.socket
    c.chip-item.result c.args.chain.now within here (sym c.is_of.ensures ∙ c.if-is_of.true)
    (sym c.contains.ensures ∙ c.if-not-contains.true))
    ∙ c.loop-socket.invariant

pub loop-socket-preserved : goal.loop-socket-preserved
loop-socket-preserved g c =
    let within : c.loop-socket.socket < length c.args.rack.now.items =
    rw c.deref-chip-items.ensures.value at c.loop-socket-test.true in
    let here = rw c.deref-chip-items.ensures.value at c.chip-item.is in
    elim c.else-is_of.branch [
      | else-is_of-via-then-is_of+else-not-contains w ↦
          sym
          (free_held (λ b. (goal.Chip-dyn g (b.vtable, b.value)).state b.value) c.args.kind c.args.rack.now.items c.loop-socket.socket
          c.chip-item.result c.args.chain.now within here (sym w.contains.ensures ∙ w.if-not-contains.false))
          ∙ c.loop-socket.invariant
      | else-is_of-via-else-is_of w ↦
          sym
          (free_other (λ b. (goal.Chip-dyn g (b.vtable, b.value)).state b.value) c.args.kind c.args.rack.now.items c.loop-socket.socket
          c.chip-item.result c.args.chain.now within here (sym c.is_of.ensures ∙ w.if-is_of.false))
          ∙ c.loop-socket.invariant
    ]
