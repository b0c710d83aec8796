-- The instructions that are left lead from here to where all of them do.
use Rattle.std.proofs.Common.{◌≡◌, ◌≤◌, ◌+◌, length, map, None}
use Rattle.std.specs.Prelude.{sum_by}
use Rattle.f8_machine.specs.Fitting.{Fits}
use Rattle.chip_debug.specs.Scenes.{Scene}
use Rattle.rewind.specs.Standing.{patches}
use Rattle.chip_debug.specs.Standing.{IsAt, count_in}
use Rattle.chip_debug.proofs.GoingLaws.{Reached}
use Rattle.chip_debug.proofs.session.Session.go.Given as goal

abbrev pub invariant-loop-done : goal.invariant-loop-done
invariant-loop-done g l =
    let olds = map (λ b. (goal.Chip-dyn g (b.vtable, b.value)).state b.value) l.fn.rack.items in
    let nows = map (λ b. (goal.Chip-dyn g (b.vtable, b.value)).state b.value) l.rack.items in
    record {
      reached : (scene : Scene) → IsAt l.fn.self olds scene → Reached l.heeds l.fn.count scene l.done l.self nows
          (sum_by (λ b. (goal.Chip-dyn g (b.vtable, b.value)).queries b.value) l.fn.rack.items)
          (sum_by (λ b. (goal.Chip-dyn g (b.vtable, b.value)).queries b.value) l.rack.items);
      same : patches nows ≡ patches olds;
      running : l.self.halt ≡ None;
      fits : Fits l.self.tape.machine nows;
      chips : length l.rack.items ≡ length l.fn.rack.items;
      spare : l.self.tape.log.spare ≡ l.fn.self.tape.log.spare;
      counted : count_in l.self ≤ count_in l.fn.self + l.done;
    }
