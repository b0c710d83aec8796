-- A bus step as a printed trace tells it: its code, its length, its byte and who drove that, or that it was not served. Which chip took the
-- byte of a store or of a port write is not printed.
use Rattle.std.specs.Prelude.{◌<◌, Bool, true, false, ◌&&◌, ◌==◌, if◌then◌else◌, List, [], ◌∷◌, ◌++◌, map, Option, Some, None}
use Rattle.std.specs.List.{AllByRecursion}
use Rattle.console_spec.specs.Services.{Fault}
use Rattle.console_spec.specs.BusTrace.{TracedStep, Course}
use Rattle.console_spec.specs.Telling.{code_of}
use Rattle.console_spec.specs.declared.Who.{Who}
use Rattle.console_spec.specs.declared.Who.TheVariants.{Cpu, Socket, Nobody}
use Rattle.bus_audit.specs.declared.step.TraceStep.{TraceStep}
use Rattle.bus_audit.specs.declared.step.TraceWhat.{TraceWhat}
use Rattle.bus_audit.specs.declared.step.TraceWhat.TheVariants.{Byte, Fault as Faulted}

-- ---- a step

-- a served step without its taker
abbrev pub plain : TracedStep → TraceStep
plain s = record { romc = s.romc; long = s.long; what = Byte s.byte s.who }

abbrev pub plain_fault : Option (Fault × Bool) → List TraceStep
plain_fault None = []
plain_fault (Some x) = record { romc = code_of x.0; long = x.1; what = Faulted } ∷ []

-- the record of an instruction or of reset: the steps that are served, and the one that is not as the last
abbrev pub plain_course : Course → List TraceStep
plain_course course = map plain course.steps ++ plain_fault course.fault

-- ---- the bytes of a trace are bytes

abbrev pub HasByte : TraceWhat → Type 0
HasByte (Byte byte who) = byte < 256
HasByte Faulted = Unit {0}

abbrev pub HaveBytes : List TraceStep → Type 0
HaveBytes trace = AllByRecursion (λ (s : TraceStep). HasByte s.what) trace

-- ---- whether two steps are the same

abbrev pub same_who : Who → Who → Bool
same_who Cpu Cpu = true
same_who Cpu (Socket socket) = false
same_who Cpu Nobody = false
same_who (Socket socket) Cpu = false
same_who (Socket socket) (Socket other) = socket == other
same_who (Socket socket) Nobody = false
same_who Nobody Cpu = false
same_who Nobody (Socket socket) = false
same_who Nobody Nobody = true

abbrev pub same_what : TraceWhat → TraceWhat → Bool
same_what (Byte byte who) (Byte other driver) = (byte == other) && same_who who driver
same_what (Byte byte who) Faulted = false
same_what Faulted (Byte byte who) = false
same_what Faulted Faulted = true

abbrev pub same_length : Bool → Bool → Bool
same_length true true = true
same_length true false = false
same_length false true = false
same_length false false = true

abbrev pub same_step : TraceStep → TraceStep → Bool
same_step s t = (s.romc == t.romc) && same_length s.long t.long && same_what s.what t.what

-- ---- what stands next in a trace

-- what stands behind some steps where these stand first, and nothing where they do not
abbrev pub behind : List TraceStep → List TraceStep → Option (List TraceStep)
behind [] trace = Some trace
behind (s ∷ steps) [] = None
behind (s ∷ steps) (t ∷ trace) = if same_step s t then behind steps trace else None
