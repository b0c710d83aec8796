-- The bus steps of an instruction on a machine and its rack.
use Rattle.std.specs.Prelude.{◌≡◌, ℕ, ◌<◌, Bool, List, [], map, Option, Some, None}
use Rattle.f8_spec.specs.ChipState.{ChipState}
use Rattle.f8_spec.specs.Instructions.{decoded, row_of}
use Rattle.f8_spec.specs.MicroSteps.{steps_before_fetch}
use Rattle.f8_spec.specs.declared.instructions.Op.{Op}
use Rattle.console_spec.specs.CounterCopies.{fetched}
use Rattle.console_spec.specs.BusTrace.{TracedStep}
use Rattle.console_spec.specs.Processor.{Registers, is_taken, vectored_by}
use Rattle.console_spec.specs.Run.{Position, instruction_fault, instruction_course, position_after, gets_all_at}
use Rattle.cpu3850.specs.declared.steps.Step.{Step}
use Rattle.cpu3850.specs.CpuSteps.{CpuState, AreInRange, bus_step}
use Rattle.cpu3850.specs.Reaching.{done}
use Rattle.probe.specs.ProbeState.{ProbeState}
use Rattle.data_bus.specs.declared.fault.BusFault.{BusFault}
use Rattle.f8_machine.specs.Faults.{fault_of}
use Rattle.f8_machine.specs.Rounds.{heard_of}
use Rattle.f8_machine.specs.Refinement.{RackStands, Holds}
use Rattle.f8_machine.specs.declared.heard.Heard.{Heard}

-- the steps of the instruction held before the last fetch, and none where its opcode is reserved
abbrev pub planned_before_as : Option Op → Registers → List Step
planned_before_as None m = []
planned_before_as (Some op) m = map bus_step (steps_before_fetch (row_of op) (is_taken op m))

abbrev pub planned_before : CpuState → List Step
planned_before c = planned_before_as (decoded c.opcode) c.registers

-- the processor where an interrupt is taken, or none: it clears the interrupt control bit
abbrev pub vectored : Option ℕ → CpuState → CpuState
vectored chosen c = record c { registers = vectored_by chosen c.registers }

-- the processor holds an instruction, and stands with the probe and the chips at a position, by whose chain interrupts are chosen
pub record HoldsInstruction (cpu : CpuState) (probe : ProbeState) (states : List ChipState) (chain : List ℕ) (op : Op)
    (x : Position) : Type 0 where
  pub instruction : decoded cpu.opcode ≡ Some op
  pub byte : cpu.opcode < 256
  pub range : AreInRange cpu.registers
  pub holds : Holds fetched cpu probe states x
  pub chain_is : chain ≡ x.chain

-- all its steps were served: the processor, the probe and the chips are where the instruction leads, with the interrupt at its end
pub record IsCarriedOut (start cpu : CpuState) (probe : ProbeState) (states : List ChipState) (steps : List Heard)
    (chosen : Option ℕ) (op : Op) (x : Position) : Type 0 where
  pub chosen_is : chosen ≡ (gets_all_at op x).chosen
  pub processor : cpu ≡ vectored chosen (done op (gets_all_at op x) start)
  pub rack : RackStands fetched probe states (position_after op x)
  pub served : instruction_fault op x ≡ None
  pub so_far : List TracedStep
  pub recorded : steps ≡ map heard_of so_far
  pub trace : instruction_course op x ≡ record { steps = so_far; fault = None }

-- a step was not served
pub record IsCutShort (steps : List Heard) (fault : BusFault) (long : Bool) (op : Op) (x : Position) : Type 0 where
  pub unserved : instruction_fault op x ≡ Some (fault_of fault)
  pub so_far : List TracedStep
  pub recorded : steps ≡ map heard_of so_far
  pub trace : instruction_course op x ≡ record { steps = so_far; fault = Some (fault_of fault, long) }
