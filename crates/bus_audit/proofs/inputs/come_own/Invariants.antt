-- The key bytes so far have come.
use Rattle.std.proofs.Common.{◌≡◌, length, map, take}
use Rattle.f8_machine.specs.Fitting.{Fits}
use Rattle.bus_audit.specs.Inputs.{Comes}
use Rattle.bus_audit.proofs.ComingLaws.{own_at}
use Rattle.bus_audit.proofs.inputs.come_own.Given as goal

abbrev pub invariant-loop-at : goal.invariant-loop-at
invariant-loop-at g l =
    let olds = map (λ b. (goal.Chip-dyn g (b.vtable, b.value)).state b.value) l.fn.rack.items in
    let nows = map (λ b. (goal.Chip-dyn g (b.vtable, b.value)).state b.value) l.rack.items in
    record {
      comes : Comes l.fn.machine l.machine olds nows (own_at l.frame (take l.at-index l.events));
      fits : Fits l.machine nows;
      asked : map (λ b. (goal.Chip-dyn g (b.vtable, b.value)).queries b.value) l.rack.items
          ≡ map (λ b. (goal.Chip-dyn g (b.vtable, b.value)).queries b.value) l.fn.rack.items;
      chips : length l.rack.items ≡ length l.fn.rack.items;
    }
