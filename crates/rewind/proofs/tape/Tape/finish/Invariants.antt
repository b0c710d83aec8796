-- Events were played up to here.
use Rattle.std.proofs.Common.{length, map}
use Rattle.rewind.proofs.TapeForward.{ArePassing}
use Rattle.rewind.proofs.tape.Tape.finish.Given as goal

abbrev pub invariant-loop-event : goal.invariant-loop-event
invariant-loop-event g l =
    ArePassing l.fn.self
    (record {
      machine = l.self-inside.machine;
      fill = l.self-inside.fill;
      powers = l.self-inside.powers;
      log = l.self-inside.log;
      mode = l.self-inside.mode;
    })
    (map (λ b. (goal.Chip-dyn g (b.vtable, b.value)).state b.value) l.fn.rack.items)
    (map (λ b. (goal.Chip-dyn g (b.vtable, b.value)).state b.value) l.rack.items)
    (map (λ b. (goal.Chip-dyn g (b.vtable, b.value)).queries b.value) l.fn.rack.items)
    (map (λ b. (goal.Chip-dyn g (b.vtable, b.value)).queries b.value) l.rack.items)

abbrev pub decreases-loop-event : goal.decreases-loop-event
decreases-loop-event g l = length l.self-inside.log.left
