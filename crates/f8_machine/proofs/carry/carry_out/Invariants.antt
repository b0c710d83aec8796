-- The rack has heard the steps told so far, and what is left of the instruction leads from here to its end.
use Rattle.std.proofs.Common.{◌≡◌, ◌+◌, ◌≤◌, length, drop, map}
use Rattle.f8_spec.specs.Instructions.{row_of}
use Rattle.f8_spec.specs.declared.instructions.Op.{Op}
use Rattle.console_spec.specs.Run.{Position, gets_all_at}
use Rattle.cpu3850.specs.CpuSteps.{planned}
use Rattle.cpu3850.specs.Keeping.{IsRestorable}
use Rattle.cpu3850.specs.Reaching.{done}
use Rattle.f8_machine.specs.Carrying.{HoldsInstruction}
use Rattle.f8_machine.specs.MachineState.{probe_after_steps}
use Rattle.data_bus.specs.PageIndex.{StandsFor}
use Rattle.f8_machine.specs.Questions.{Counts}
use Rattle.f8_machine.specs.Rounds.{RackRuns}
use Rattle.f8_machine.proofs.Remains.{Remaining}
use Rattle.f8_machine.proofs.StepTests.{ArePlain}
use Rattle.f8_machine.proofs.Starts.{instruction_aim}
use Rattle.f8_machine.proofs.carry.carry_out.Given as goal

abbrev pub invariant-loop-index : goal.invariant-loop-index
invariant-loop-index g l = record {
  short : length l.before ≤ 4;
  chips : length l.rack.items ≡ length l.fn.rack.items;
  count : length l.steps ≡ l.index;
  within : l.index ≤ length l.before;
  plain : ArePlain (drop l.index l.before);
  plan : planned l.cpu ≡ planned l.fn.cpu;
  longer : length l.before + 1 ≡ length (planned l.fn.cpu);
  opcode : l.cpu.opcode ≡ l.fn.cpu.opcode;
  restorable : IsRestorable l.fn.cpu l.cpu;
  ran : RackRuns l.steps
      (map (λ b. (goal.Chip-dyn g (b.vtable, b.value)).state b.value) l.fn.rack.items)
      (map (λ b. (goal.Chip-dyn g (b.vtable, b.value)).state b.value) l.rack.items);
  reference : l.bus.probe ≡ probe_after_steps l.steps l.fn.bus.probe;
  stands : StandsFor l.bus.index l.bus.probe (map (λ b. (goal.Chip-dyn g (b.vtable, b.value)).state b.value) l.rack.items);
  counted : Counts (λ b. (goal.Chip-dyn g (b.vtable, b.value)).queries b.value) l.fn.rack.items l.rack.items l.fn.bus l.bus l.fn.steps l.steps;
  left : (op : Op) (x : Position) → HoldsInstruction l.fn.cpu l.fn.bus.probe
      (map (λ b. (goal.Chip-dyn g (b.vtable, b.value)).state b.value) l.fn.rack.items) l.chain op x →
      Remaining (row_of op) x (gets_all_at op x) (instruction_aim op x)
      (done op (gets_all_at op x) l.fn.cpu) l.before l.index l.cpu l.bus.probe
      (map (λ b. (goal.Chip-dyn g (b.vtable, b.value)).state b.value) l.rack.items) l.steps;
}
