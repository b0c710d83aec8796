-- When a machine and its rack are where power-on, reset and what was done since have led.
use Rattle.std.specs.Prelude.{ℕ, ◌≡◌, ◌+◌, List, [], ◌∷◌, map, Option, Some, None}
use Rattle.f8_spec.specs.ChipState.{ChipState, HeardStep, told_step}
use Rattle.f8_spec.specs.BusArbitration.{seat_of}
use Rattle.console_spec.specs.Run.{Position, Stop, Unserved, Reserved}
use Rattle.cpu3850.specs.OwnWrites.{LeaveOwnPorts}
use Rattle.data_bus.specs.KnownAgreement.{no_marks}
use Rattle.data_bus.specs.Racks.{views}
use Rattle.data_bus.specs.declared.index.Index.{Index}
use Rattle.f8_machine.specs.Faults.{fault_of}
use Rattle.f8_machine.specs.Questions.{codes_of, followed_all}
use Rattle.f8_machine.specs.MachineState.{MachineState}
use Rattle.f8_machine.specs.Refinement.{Represents, AreWhole}
use Rattle.f8_machine.specs.Rounds.{heard_in}
use Rattle.f8_machine.specs.declared.heard.Heard.{Heard}
use Rattle.f8_machine.specs.declared.outcome.Mode.{Mode}
use Rattle.f8_machine.specs.declared.outcome.Mode.TheVariants.{Powered, Running, Stopped}
use Rattle.f8_machine.specs.declared.outcome.StoppedBy.{StoppedBy}
use Rattle.f8_machine.specs.declared.outcome.StoppedBy.TheVariants.{Fault as ByFault, Reserved as ByOpcode}
use Rattle.rack_run.specs.Machines.{machine_readout}
use Rattle.rack_run.specs.Turns.{readout_of}
use Rattle.rewind.specs.Reached.{Reached}

-- the byte in the ROM of each chip of a rack that isn't as described, where it has one
abbrev pub patches : List ChipState → List (Option (ℕ × ℕ))
patches states = map (λ s. s.patch) states

-- an index has followed some bus steps since power-on, when nothing was known of the chips' counters
pub record HasFollowed (steps : List Heard) (index : Index) : Type 0 where
  pub first : Index
  pub unknown : first.marks ≡ no_marks
  pub is : index ≡ followed_all (codes_of steps) first

-- what a machine is stopped by, as it is told of a run
abbrev pub stop_by : StoppedBy → Stop
stop_by (ByFault fault long) = Unserved (fault_of fault)
stop_by (ByOpcode at code) = Reserved at code

abbrev pub IsStoppedBy : Stop → Mode → Type 0
IsStoppedBy stop Powered = ⊥
IsStoppedBy stop Running = ⊥
IsStoppedBy stop (Stopped why) = stop_by why ≡ stop

-- a machine is stopped by this, and tells the state of a position
pub record StopsAt (stop : Stop) (m : MachineState) (x : Position) : Type 0 where
  pub reads : machine_readout m ≡ readout_of x.flat.state
  pub stopped : IsStoppedBy stop m.mode

-- The machine represents the position as long as nothing stopped it, and then it tells the state before.
abbrev pub MachineAt : Option Stop → MachineState → List ChipState → Position → Type 0
MachineAt None m states x = Represents m states x
MachineAt (Some stop) m states x = StopsAt stop m x

-- every chip has 256 bytes for each of its pages, and none has the port 0 or 1
pub record IsReady (states : List ChipState) : Type 0 where
  pub whole : AreWhole states
  pub free : LeaveOwnPorts (map seat_of (views states))

-- where the chip in a socket tells what it heard since power-on, it heard these steps and nothing else
abbrev pub HasHeard : List Heard → ℕ → ChipState → Type 0
HasHeard steps socket s =
    (told : List HeardStep) → s.heard_steps ≡ Some told → told ≡ map (λ h. told_step (heard_in socket h)) steps

-- and so it is with the chips from a socket on
abbrev pub HaveHeard : List Heard → ℕ → List ChipState → Type 0
HaveHeard steps socket [] = Unit {0}
HaveHeard steps socket (s ∷ states) = HasHeard steps socket s × HaveHeard steps (socket + 1) states

-- a machine with its rack is there
pub record HasReached (m : MachineState) (states : List ChipState) (r : Reached) : Type 0 where
  pub machine : MachineAt r.stop m states r.position
  pub chain : m.chain ≡ r.position.chain
  pub probe : m.probe ≡ r.probe
  pub chips : views states ≡ r.chips
  pub heard : HaveHeard r.heard 0 states
  pub index : HasFollowed r.heard m.index
  pub ready : IsReady states
