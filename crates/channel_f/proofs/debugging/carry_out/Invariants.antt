-- Some commands were carried out and told, and the others are left.
use Rattle.std.proofs.Common.{◌≡◌, ◌≤◌, ◌+◌, drop, length, map}
use Rattle.std.specs.Prelude.{sum_by}
use Rattle.f8_machine.specs.Fitting.{Fits}
use Rattle.rewind.specs.Standing.{patches}
use Rattle.chip_debug.specs.Limits.{AreCommands, rooms_of, total_of}
use Rattle.chip_debug.specs.Scenes.{Scene}
use Rattle.chip_debug.specs.Standing.{IsAt, count_in}
use Rattle.channel_f.proofs.Debuggings.{Along}
use Rattle.channel_f.proofs.debugging.carry_out.Given as goal

abbrev pub invariant-loop-command : goal.invariant-loop-command
invariant-loop-command g l =
    let olds = map (λ b. (goal.Chip-dyn g (b.vtable, b.value)).state b.value) l.fn.rack.items in
    let nows = map (λ b. (goal.Chip-dyn g (b.vtable, b.value)).state b.value) l.rack.items in
    record {
      along : (scene : Scene) → IsAt l.fn.session olds scene →
          Along l.commands (drop l.command-index l.commands) scene l.session nows (g.K.Sink.output l.fn.sink)
          (g.K.Sink.output l.sink) (sum_by (λ b. (goal.Chip-dyn g (b.vtable, b.value)).queries b.value) l.fn.rack.items)
          (sum_by (λ b. (goal.Chip-dyn g (b.vtable, b.value)).queries b.value) l.rack.items);
      same : patches nows ≡ patches olds;
      ranges : AreCommands (drop l.command-index l.commands);
      counted : count_in l.session + total_of (drop l.command-index l.commands) ≤ total_of l.commands;
      room : rooms_of (drop l.command-index l.commands) ≤ l.session.tape.log.spare;
      fits : Fits l.session.tape.machine nows;
      chips : length l.rack.items ≡ length l.fn.rack.items;
    }
