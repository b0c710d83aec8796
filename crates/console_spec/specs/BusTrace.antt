-- The bus steps of an instruction: who drove the byte, and who took it, up to the first step that is not served, which stands beside them as
-- the fault.
use Rattle.std.specs.Prelude.{ℕ, Bool, true, false, ◌==◌, if◌then◌else◌, List, [], ◌∷◌, ◌++◌, Option, Some, None}
use Rattle.f8_spec.specs.BusCodes.{driver_of}
use Rattle.f8_spec.specs.MicroSteps.{Source, PortNumber, Step, steps_before_fetch, last_fetch, interrupt_steps}
use Rattle.f8_spec.specs.BusArbitration.{Ruling, Served, Conflict as ConflictRuling, Undriven as UndrivenRuling, Astray as AstrayRuling}
use Rattle.f8_spec.specs.BusArbitration.{rule_of}
use Rattle.f8_spec.specs.declared.bus.Driver.{Driver}
use Rattle.f8_spec.specs.declared.instructions.Row.{Row}
use Rattle.f8_spec.specs.declared.bus.Driver.TheVariants.{Memory, CounterByte, Vector as VectorDriver, Port, Cpu as CpuDriver}
use Rattle.f8_spec.specs.declared.bus.Driver.TheVariants.{Nobody as NobodyDriver}
use Rattle.f8_spec.specs.declared.bus.BusRule.{BusRule}
use Rattle.f8_spec.specs.declared.bus.BusRule.TheVariants.{Read, Store, PortRead, PortWrite, Vector, NoChip}
use Rattle.console_spec.specs.Processor.{Flow, Inputs, byte_of}
use Rattle.console_spec.specs.CounterCopies.{Copy}
use Rattle.console_spec.specs.BusAccesses.{Access}
use Rattle.console_spec.specs.Services.{Fault, access_ruling}
use Rattle.console_spec.specs.declared.Who.{Who}
use Rattle.console_spec.specs.declared.Who.TheVariants.{Cpu, Socket, Nobody}

-- ---- one step

pub record TracedStep : Type 0 where
  pub romc : ℕ
  pub long : Bool
  pub byte : ℕ
  -- who drove the byte
  pub who : Who
  -- the socket of the chip that took it in a store or a port write
  pub taker : Option ℕ

abbrev pub socket_or_nobody : Option ℕ → Who
socket_or_nobody None = Nobody
socket_or_nobody (Some socket) = Socket socket

abbrev pub who_by : Driver → Option ℕ → Who
who_by Memory socket = socket_or_nobody socket
who_by CounterByte socket = socket_or_nobody socket
who_by VectorDriver socket = socket_or_nobody socket
who_by Port socket = socket_or_nobody socket
who_by CpuDriver socket = Cpu
who_by NobodyDriver socket = Nobody

-- Who drives in a step: in the code 1C the CPU where the byte is the number of a port, and else nobody; in every other code by the table.
abbrev pub driver_idling : Source → Driver
driver_idling PortNumber = CpuDriver
driver_idling source = NobodyDriver

abbrev pub driver_in : Step → Driver
driver_in s = if s.romc == 0x1C then driver_idling s.source else driver_of s.romc

abbrev pub taker_by : BusRule → Option ℕ → Option ℕ
taker_by Read socket = None
taker_by Store socket = socket
taker_by PortRead socket = None
taker_by PortWrite socket = socket
taker_by Vector socket = None
taker_by NoChip socket = None

-- a served step, by the socket of the chip that drove the byte or took it
abbrev pub traced : Inputs → Step → Option ℕ → TracedStep
traced i s socket = record {
  romc = s.romc;
  long = s.long;
  byte = byte_of i s.source;
  who = who_by (driver_in s) socket;
  taker = taker_by (rule_of s.romc) socket;
}

-- ---- the steps of an instruction

-- at its end comes the fetch of the next opcode, or the steps of an interrupt, which end with that fetch
abbrev pub ending_steps : Row → Option ℕ → List Step
ending_steps row None = last_fetch row ∷ []
ending_steps row (Some socket) = interrupt_steps

abbrev pub steps_with : Row → Inputs → List Step
steps_with row i = steps_before_fetch row i.taken ++ ending_steps row i.chosen

-- the steps that are served; and where one is not, why, and whether it is a long one
pub record Course : Type 0 where
  pub steps : List TracedStep
  pub fault : Option (Fault × Bool)

abbrev pub with_step : TracedStep → Course → Course
with_step step rest = record rest { steps = step ∷ rest.steps }

abbrev pub stopped_by : Fault → Bool → Course
stopped_by fault long = record { steps = []; fault = Some (fault, long) }

-- a step by the ruling on its access, with the steps behind it
abbrev pub course_by : Inputs → Step → Ruling → Course → Course
course_by i s (Served socket) rest = with_step (traced i s socket) rest
course_by i s (ConflictRuling parties) rest = stopped_by (Fault.Conflict s.romc parties) s.long
course_by i s (UndrivenRuling at) rest = stopped_by (Fault.Undriven s.romc at) s.long
course_by i s (AstrayRuling socket at reference) rest = stopped_by (Fault.Astray s.romc socket at reference) s.long

-- chips drive the byte or take it, so that the step is one of the accesses
abbrev pub is_access : BusRule → Bool
is_access Read = true
is_access Store = true
is_access PortRead = true
is_access PortWrite = true
is_access Vector = false
is_access NoChip = false

-- the chip that drives in a step without an access: the one that is chosen gives its vector
abbrev pub unaccessed : BusRule → Inputs → Option ℕ
unaccessed Read i = None
unaccessed Store i = None
unaccessed PortRead i = None
unaccessed PortWrite i = None
unaccessed Vector i = i.chosen
unaccessed NoChip i = None

abbrev pub with_unaccessed : Inputs → Step → Course → Course
with_unaccessed i s rest = with_step (traced i s (unaccessed (rule_of s.romc) i)) rest

-- The steps go along with the accesses, each in its order, on the counters before the instruction.
abbrev pub course_of : Inputs → Flow → List Copy → List Step → List Access → Course
course_of i c copies [] accesses = record { steps = []; fault = None }
course_of i c copies (s ∷ later) [] = with_unaccessed i s (course_of i c copies later [])
course_of i c copies (s ∷ later) (a ∷ accesses) =
    if is_access (rule_of s.romc)
    then course_by i s (access_ruling c copies a) (course_of i c copies later accesses)
    else with_unaccessed i s (course_of i c copies later (a ∷ accesses))
