-- The bus steps of reset on a machine and its rack.
use Rattle.std.specs.Prelude.{◌≡◌, ℕ, Bool, List, length, map, Some, None}
use Rattle.f8_spec.specs.ChipState.{ChipState}
use Rattle.console_spec.specs.AddressSpace.{byte_at}
use Rattle.console_spec.specs.CounterCopies.{fetched, unreset}
use Rattle.console_spec.specs.BusTrace.{TracedStep}
use Rattle.console_spec.specs.Run.{Position, reset_fault, reset_course, position_after_reset}
use Rattle.probe.specs.ProbeState.{ProbeState}
use Rattle.data_bus.specs.declared.fault.BusFault.{BusFault}
use Rattle.f8_machine.specs.Faults.{fault_of}
use Rattle.f8_machine.specs.Refinement.{RackStands}
use Rattle.f8_machine.specs.Rounds.{heard_of}
use Rattle.f8_machine.specs.declared.heard.Heard.{Heard}

-- the probe and the chips stand where power-on left them
pub record IsAtPower (probe : ProbeState) (states : List ChipState) (x : Position) : Type 0 where
  pub rack : RackStands unreset probe states x
  pub whole : length x.flat.memory ≡ 65536

-- the opcode at 0 was fetched, every counter set goes on from there, and the clocks of reset have passed
pub record IsFetched (opcode : ℕ) (probe : ProbeState) (states : List ChipState) (steps : List Heard)
    (x : Position) : Type 0 where
  pub opcode_is : opcode ≡ byte_at x.flat.memory 0
  pub rack : RackStands (λ c. fetched (record c { p = 0 })) probe states (position_after_reset x)
  pub served : reset_fault x ≡ None
  pub so_far : List TracedStep
  pub recorded : steps ≡ map heard_of so_far
  pub trace : reset_course x ≡ record { steps = so_far; fault = None }

-- a step was not served
pub record IsNotFetched (steps : List Heard) (fault : BusFault) (long : Bool) (x : Position) : Type 0 where
  pub unserved : reset_fault x ≡ Some (fault_of fault)
  pub so_far : List TracedStep
  pub recorded : steps ≡ map heard_of so_far
  pub trace : reset_course x ≡ record { steps = so_far; fault = Some (fault_of fault, long) }
