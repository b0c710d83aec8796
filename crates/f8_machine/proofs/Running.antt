-- Whether a machine runs, or has stopped at the opcode of its position.
use Rattle.std.proofs.Common.{◌≡◌, Some, refl, sym, ap, ◌∙◌}
use Rattle.f8_spec.specs.Instructions.{decoded}
use Rattle.f8_spec.specs.declared.instructions.Op.{Op}
use Rattle.console_spec.specs.Run.{Position, opcode_at}
use Rattle.f8_machine.specs.MachineState.{IsReset}
use Rattle.f8_machine.specs.Refinement.{RunsTo}
use Rattle.f8_machine.specs.declared.outcome.Mode.{Mode}
use Rattle.f8_machine.specs.declared.outcome.Mode.TheVariants.{Powered, Running, Stopped}
use Rattle.f8_machine.specs.declared.outcome.StoppedBy.{StoppedBy}
use Rattle.f8_machine.specs.declared.outcome.StoppedBy.TheVariants.{Fault as ByFault, Reserved as ByOpcode}

-- an instruction has the opcode: it runs
pub runs_with : (x : Position) (mode : Mode) (op : Op) → decoded (opcode_at x) ≡ Some op → RunsTo x mode → mode ≡ Running
runs_with x Powered op held runs = absurd runs
runs_with x Running op held runs = refl
runs_with x (Stopped (ByFault fault long)) op held runs = absurd runs
runs_with x (Stopped (ByOpcode at code)) op held runs = let none = runs.reserved in cc

-- reset has been, and nothing has stopped it: it runs
pub runs_on : (mode : Mode) → IsReset mode → ((why : StoppedBy) → mode ≡ Stopped why → ⊥) → mode ≡ Running
runs_on Powered reset going = absurd reset
runs_on Running reset going = refl
runs_on (Stopped why) reset going = absurd (going why refl)

-- another position with the same opcode at the same address
pub runs_alike : (x y : Position) → opcode_at y ≡ opcode_at x → y.flat.state.flow.p ≡ x.flat.state.flow.p → (mode : Mode) →
    RunsTo x mode → RunsTo y mode
runs_alike x y opcode address Powered runs = absurd runs
runs_alike x y opcode address Running runs = tt
runs_alike x y opcode address (Stopped (ByFault fault long)) runs = absurd runs
runs_alike x y opcode address (Stopped (ByOpcode at code)) runs = record {
  reserved = ap decoded opcode ∙ runs.reserved;
  address = runs.address ∙ sym address;
  opcode = runs.opcode ∙ sym opcode;
}
