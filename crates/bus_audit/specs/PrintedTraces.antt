-- Reading is the other way round of printing: the law of what is read of a text, by the lines that a run prints.
use Rattle.std.specs.Prelude.{◌≡◌, ◌↔◌, ℕ, ◌<◌, Bool, List, [], ◌∷◌, ◌++◌, codes, flat_map, Some, None, Result, Ok, Err}
use Rattle.std.specs.List.{AllByRecursion}
use Rattle.console_spec.specs.BusTrace.{TracedStep}
use Rattle.console_spec.specs.RunText.{bus_line, bus_fault_line, telling_lines, text_of}
use Rattle.console_spec.specs.Telling.{Told, Traced, TracedFault, Wrote, Shown, Telling, told_in}
use Rattle.console_spec.specs.declared.VerdictWord.{VerdictWord}
use Rattle.console_spec.specs.declared.Who.{Who}
use Rattle.console_spec.specs.declared.Who.TheVariants.{Cpu, Socket, Nobody}
use Rattle.bus_audit.specs.declared.step.TraceStep.{TraceStep}
use Rattle.bus_audit.specs.declared.step.TraceWhat.{TraceWhat}
use Rattle.bus_audit.specs.declared.step.TraceWhat.TheVariants.{Byte, Fault}
use Rattle.bus_audit.specs.declared.read.TraceFault.{TraceFault}
use Rattle.bus_audit.specs.Answers.{Trace, steps_of}
use Rattle.bus_audit.specs.PlainSteps.{plain}
use Rattle.bus_audit.specs.TraceText.{read_in, trace_of}

-- ---- steps that can be

-- there are sockets 0 to 15
abbrev pub FitsWho : Who → Type 0
FitsWho Cpu = Unit {0}
FitsWho (Socket socket) = socket < 16
FitsWho Nobody = Unit {0}

abbrev pub FitsWhat : TraceWhat → Type 0
FitsWhat (Byte byte who) = (byte < 256) × FitsWho who
FitsWhat Fault = Unit {0}

-- a code, a byte and a socket that there are
pub record FitsStep (s : TraceStep) : Type 0 where
  pub code : s.romc < 32
  pub what : FitsWhat s.what

-- ---- their lines

-- the line that a run prints of a step, with its LF. Which chip took the byte isn't printed
abbrev pub printed_by : ℕ → Bool → TraceWhat → List ℕ
printed_by romc long (Byte byte who) = bus_line (record { romc = romc; long = long; byte = byte; who = who; taker = None })
printed_by romc long Fault = bus_fault_line romc long

abbrev pub printed : TraceStep → List ℕ
printed s = printed_by s.romc s.long s.what

-- ---- a printed run

-- the steps that are told as a run goes
abbrev pub steps_in : Told → List TraceStep
steps_in (Traced s) = plain s ∷ []
steps_in (TracedFault romc long) = record { romc = romc; long = long; what = Fault } ∷ []
steps_in (Wrote write) = []
steps_in (Shown frame phi writes) = []

abbrev pub told_steps : Telling → List TraceStep
told_steps t = flat_map steps_in (told_in t.moments)

-- a text is a trace of these steps
abbrev pub IsTraceOf : List TraceStep → Result Trace TraceFault → Type 0
IsTraceOf steps (Ok trace) = steps_of trace.told ≡ steps
IsTraceOf steps (Err fault) = ⊥

-- ---- the law

pub record PrintedLaw : Type 0 where
  -- a line tells of a step where it is the line that is printed of that, and nowhere else
  pub exact : (line : List ℕ) (s : TraceStep) → (read_in line ≡ Some (Some s)) ↔ (FitsStep s × (line ++ codes "\n" ≡ printed s))
  -- the line of a step that a run tells, whichever chip took its byte
  pub traced : (s : TracedStep) → bus_line s ≡ printed (plain s)
  -- the whole text of a run is a trace, of all steps that it tells, where these are ones that there are
  pub whole : (verdict : VerdictWord) (t : Telling) → AllByRecursion FitsStep (told_steps t) →
      IsTraceOf (told_steps t) (trace_of (text_of (telling_lines verdict t)))
