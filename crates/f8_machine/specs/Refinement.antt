-- A machine with its rack stands for the flat machine with copies of its counters, one in each chip. Nothing says that the copies agree.
use Rattle.std.specs.Prelude.{◌≡◌, ℕ, ◌-◌, ◌<◌, ◌≤◌, Bool, List, [], ◌∷◌, length, map, slice_get, Option, Some, None}
use Rattle.f8_spec.specs.BusCodes.{Count}
use Rattle.f8_spec.specs.ChipState.{ChipState, IsWhole}
use Rattle.f8_spec.specs.Instructions.{decoded}
use Rattle.console_spec.specs.AddressSpace.{byte_at}
use Rattle.console_spec.specs.Processor.{Flow, State, with_write, history_of}
use Rattle.console_spec.specs.declared.PortWrite.{PortWrite}
use Rattle.console_spec.specs.CounterCopies.{Copy, fetched, unreset}
use Rattle.console_spec.specs.BusTrace.{Course}
use Rattle.console_spec.specs.Run.{Position, Unserved as UnservedStop, Reserved as ReservedStop, Turn, Goes, Stops}
use Rattle.console_spec.specs.Run.{goes_unless, next, opcode_at, seats_of, turn_course, reset_fault, reset_course}
use Rattle.console_spec.specs.Run.{position_after_reset}
use Rattle.probe.specs.ProbeState.{ProbeState}
use Rattle.data_bus.specs.Racks.{views}
use Rattle.data_bus.specs.declared.fault.BusFault.{BusFault}
use Rattle.cpu3850.specs.CpuSteps.{CpuState}
use Rattle.cpu3850.specs.OwnWrites.{own_ports, LeaveOwnPorts}
use Rattle.f8_machine.specs.RackViews.{HoldsFlat, HoldsPorts, AreCopies}
use Rattle.f8_machine.specs.RequestsHeld.{IsInTime, IsSettledBy}
use Rattle.f8_machine.specs.Faults.{fault_of}
use Rattle.f8_machine.specs.Rounds.{heard_of}
use Rattle.f8_machine.specs.MachineState.{MachineState, halted}
use Rattle.f8_machine.specs.declared.heard.Heard.{Heard}
use Rattle.f8_machine.specs.declared.outcome.Mode.{Mode}
use Rattle.f8_machine.specs.declared.outcome.Mode.TheVariants.{Powered, Running, Stopped}
use Rattle.f8_machine.specs.declared.outcome.StoppedBy.TheVariants.{Fault as ByFault, Reserved as ByOpcode}
use Rattle.f8_machine.specs.declared.outcome.Outcome.{Outcome}
use Rattle.f8_machine.specs.declared.outcome.Outcome.TheVariants.{Done, Fault as FaultOutcome, Reserved}

-- the counters are addresses
pub record AreAddresses (c : Flow) : Type 0 where
  pub p : c.p < 65536
  pub p1 : c.p1 < 65536
  pub d0 : c.d0 < 65536
  pub d1 : c.d1 < 65536

-- the memory is 65,536 bytes
pub record IsMemory (memory : List ℕ) : Type 0 where
  pub whole : length memory ≡ 65536
  pub bytes : (at : ℕ) → byte_at memory at < 256

-- The probe and the chips of a rack stand at a position: the counters of the probe and of each chip are those of the flat machine and of
-- the copies, as a function of them; the chips hold its memory and its ports; and their timers and requests are as its history says.
pub record RackStands (now : Flow → Count) (probe : ProbeState) (states : List ChipState) (x : Position) : Type 0 where
  pub reference : probe.count ≡ now x.flat.state.flow
  pub copies : AreCopies (λ second c. now c) probe.last x.copies (views states)
  pub flat : HoldsFlat x.flat.memory (views states)
  pub ports : HoldsPorts x.flat.state.keys x.flat.state.writes (views states)
  pub in_time : IsInTime x.flat.state.phi (history_of x.flat.state) (views states)

-- And so does the processor. The ports of its own are the flat machine's ports 0 and 1, which no chip has.
pub record Holds (now : Flow → Count) (cpu : CpuState) (probe : ProbeState) (states : List ChipState)
    (x : Position) : Type 0 where
  pub registers : cpu.registers ≡ x.flat.state.registers
  pub own : cpu.ports ≡ own_ports x.flat.state
  pub rack : RackStands now probe states x
  pub free : LeaveOwnPorts (seats_of x.copies)
  pub memory : IsMemory x.flat.memory
  pub addresses : AreAddresses x.flat.state.flow

-- What a machine and its rack have of a position, before reset and after it
pub record Stands (now : Flow → Count) (m : MachineState) (states : List ChipState) (x : Position) : Type 0 where
  pub holds : Holds now m.cpu m.probe states x
  pub flow : m.flow ≡ x.flat.state.flow
  pub phi : m.phi ≡ x.flat.state.phi
  pub chain : m.chain ≡ x.chain
  pub keys : length x.flat.state.keys ≡ 256

-- Between instructions the last write and the last acknowledgement lie 4 Φ back, so that a pulse now is later than both.
pub record IsSettled (s : State) : Type 0 where
  pub begun : 4 ≤ s.phi
  pub back : IsSettledBy (s.phi - 4) (history_of s)

-- the opcode of a position, with its address, is one that no instruction has
pub record IsReservedAt (x : Position) (at code : ℕ) : Type 0 where
  pub reserved : decoded (opcode_at x) ≡ None
  pub address : at ≡ x.flat.state.flow.p
  pub opcode : code ≡ opcode_at x

-- a machine that was reset runs, or has stopped at the reserved opcode of its position; no fault has stopped it
abbrev pub RunsTo : Position → Mode → Type 0
RunsTo x Powered = ⊥
RunsTo x Running = Unit {0}
RunsTo x (Stopped (ByFault fault long)) = ⊥
RunsTo x (Stopped (ByOpcode at code)) = IsReservedAt x at code

-- after reset, as long as no fault stops the machine
pub record Represents (m : MachineState) (states : List ChipState) (x : Position) : Type 0 where
  pub stands : Stands fetched m states x
  pub settled : IsSettled x.flat.state
  pub opcode : m.cpu.opcode ≡ opcode_at x
  pub mode : RunsTo x m.mode

-- every copy will be at 0 after reset
abbrev pub AreAtZero : List Copy → Type 0
AreAtZero [] = Unit {0}
AreAtZero (c ∷ copies) = (c.flow.p ≡ 0) × AreAtZero copies

-- before reset
pub record IsPowered (m : MachineState) (states : List ChipState) (x : Position) : Type 0 where
  pub stands : Stands unreset m states x
  pub unwritten : x.flat.state.writes ≡ []
  pub unacknowledged : x.flat.state.acknowledged ≡ []
  pub at_zero : x.flat.state.flow.p ≡ 0
  pub copies_at_zero : AreAtZero x.copies
  pub powered : m.mode ≡ Powered

-- ---- an instruction

-- done: the machine runs and stands for the next position, the write told is the one that the flat machine has more, with the clocks at
-- the end, and the steps are those of the definitions
pub record IsDone (m : MachineState) (states : List ChipState) (turn : Turn) (course : Course) (writes : List PortWrite)
    (wrote : Option PortWrite) (steps : List Heard) : Type 0 where
  pub after : Position
  pub turns : turn ≡ Goes after
  pub represents : Represents m states after
  pub running : m.mode ≡ Running
  pub written : after.flat.state.writes ≡ with_write wrote writes
  pub trace : course ≡ record { steps = course.steps; fault = None }
  pub recorded : steps ≡ map heard_of course.steps

-- not done: the fault is that of the first access which is not served; the registers, the counters and the clocks stay as they were
pub record IsFaulted (before after : MachineState) (turn : Turn) (course : Course) (fault : BusFault) (long : Bool)
    (steps : List Heard) : Type 0 where
  pub turns : turn ≡ Stops (UnservedStop (fault_of fault))
  pub trace : course ≡ record { steps = course.steps; fault = Some (fault_of fault, long) }
  pub recorded : steps ≡ map heard_of course.steps
  pub kept : after ≡ halted (ByFault fault long) after.probe after.index before

-- an opcode that stops the run: nothing is done, and the machine goes on standing for the position
pub record StopsAtReserved (before after : MachineState) (states : List ChipState) (x : Position) (at code : ℕ) : Type 0 where
  pub turns : next x ≡ Stops (ReservedStop at code)
  pub kept : after ≡ halted (ByOpcode at code) before.probe before.index before
  pub represents : Represents after states x

-- what an instruction answers, where the machine and its rack stand for a position
abbrev pub Refines : Outcome → MachineState → MachineState → List ChipState → Position → Type 0
Refines (Done wrote steps) before after states x =
    IsDone after states (next x) (turn_course x) x.flat.state.writes wrote steps
Refines (FaultOutcome fault long steps) before after states x =
    IsFaulted before after (next x) (turn_course x) fault long steps
Refines (Reserved at code) before after states x = StopsAtReserved before after states x at code

-- what reset answers, on a machine that is powered
abbrev pub ResetRefines : Outcome → MachineState → MachineState → List ChipState → Position → Type 0
ResetRefines (Done wrote steps) before after states x =
    IsDone after states (goes_unless (reset_fault x) (position_after_reset x))
    (reset_course x) x.flat.state.writes wrote steps
ResetRefines (FaultOutcome fault long steps) before after states x =
    IsFaulted before after (goes_unless (reset_fault x) (position_after_reset x)) (reset_course x) fault long steps
ResetRefines (Reserved at code) before after states x = ⊥

-- every chip has 256 bytes for each of its pages
abbrev pub AreWhole : List ChipState → Type 0
AreWhole states = (place : ℕ) (s : ChipState) → slice_get states place ≡ Some s → IsWhole s.view
