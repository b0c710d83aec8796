-- What becomes of reset and of an instruction by the steps that stand next in a trace. This project's own.
use Rattle.std.specs.Prelude.{◌≡◌, ℕ, ◌+◌, ◌<◌, Bool, true, false, List, [], ◌++◌, length, map, drop, Some, None, is_some}
use Rattle.f8_spec.specs.Instructions.{decoded}
use Rattle.f8_spec.specs.MicroSteps.{reset_steps}
use Rattle.f8_spec.specs.declared.instructions.Op.{Op}
use Rattle.console_spec.specs.Run.{Position, opcode_at, instruction_course, instruction_fault, position_after}
use Rattle.console_spec.specs.Run.{position_after_reset, reset_course, reset_fault}
use Rattle.console_spec.specs.Scripts.{Script}
use Rattle.console_spec.specs.Services.{Fault}
use Rattle.console_spec.specs.Telling.{with_events}
use Rattle.f8_machine.specs.Faults.{fault_of}
use Rattle.f8_machine.specs.HeardSteps.{step_of}
use Rattle.f8_machine.specs.declared.heard.Heard.{Heard}
use Rattle.f8_machine.specs.declared.outcome.Outcome.{Outcome}
use Rattle.f8_machine.specs.declared.outcome.Outcome.TheVariants.{Done, Fault as FaultOutcome, Reserved}
use Rattle.bus_audit.specs.FreeRuns.{Setup, own_begun, own_behind}
use Rattle.bus_audit.specs.PlainSteps.{plain, plain_course, plain_fault, behind}
use Rattle.bus_audit.specs.ReadInputs.{read_inputs, read_key}
use Rattle.bus_audit.specs.declared.step.TraceStep.{TraceStep}
use Rattle.bus_audit.specs.declared.matching.Turn.{Turn}
use Rattle.bus_audit.specs.declared.matching.Turn.TheVariants.{Onward, Over}

-- ---- an outcome

abbrev pub heard_told : List Heard → List TraceStep
heard_told steps = map (λ h. plain (step_of h)) steps

-- the steps of an outcome as a trace tells them, with the one that is not served as the last
abbrev pub outcome_told : Outcome → List TraceStep
outcome_told (Done wrote steps) = heard_told steps
outcome_told (FaultOutcome fault long steps) = heard_told steps ++ plain_fault (Some (fault_of fault, long))
outcome_told (Reserved at code) = []

abbrev pub stand_next : List TraceStep → List TraceStep → Bool
stand_next steps trace = is_some (behind steps trace)

-- it goes on where it is done and its steps are what stands next; where they are not, none of them counts
abbrev pub judged : Outcome → Bool → Turn
judged (Done wrote steps) true = Onward (length steps)
judged (Done wrote steps) false = Over 0
judged (FaultOutcome fault long steps) true = Over (length steps + 1)
judged (FaultOutcome fault long steps) false = Over 0
judged (Reserved at code) stand = Over 0

-- how many steps of the trace count
abbrev pub told_by : Turn → ℕ
told_by (Onward told) = told
told_by (Over told) = told

-- ---- an instruction

-- It is done, its steps are what stands next, so many of them, and this holds of the position behind it.
pub record GoesOnward (After : Position → Type 0) (x : Position) (trace : List TraceStep) (told : ℕ) : Type 0 where
  pub op : Op
  pub is : decoded (opcode_at x) ≡ Some op
  pub served : instruction_fault op x ≡ None
  pub next : behind (plain_course (instruction_course op x)) trace ≡ Some (drop told trace)
  pub some : 0 < told
  pub at : After (position_after op x)

-- Or the run is over: the opcode is reserved; its steps are not what stands next; or they are, and the last of them is not served.
pub data IsOver (x : Position) (trace : List TraceStep) : ℕ → Type 0 where
  reserved : decoded (opcode_at x) ≡ None → IsOver x trace 0
  apart : (op : Op) → decoded (opcode_at x) ≡ Some op → behind (plain_course (instruction_course op x)) trace ≡ None → IsOver x trace 0
  cut : (op : Op) (fault : Fault) (told : ℕ) → decoded (opcode_at x) ≡ Some op → instruction_fault op x ≡ Some fault →
      behind (plain_course (instruction_course op x)) trace ≡ Some (drop told trace) → IsOver x trace told

abbrev pub Turns : Turn → (Position → Type 0) → Position → List TraceStep → Type 0
Turns (Onward told) After x trace = GoesOnward After x trace told
Turns (Over told) After x trace = IsOver x trace told

-- with the inputs that come behind it: the key bytes of ports 0 and 1, and what is read off the rest of the trace
abbrev pub TurnsReading : Turn → Script → (Position → Type 0) → Position → List TraceStep → Type 0
TurnsReading (Onward told) script After x trace =
    GoesOnward (λ y. After (with_events (read_inputs x.chain (drop told trace)) (own_behind script x y))) x trace told
TurnsReading (Over told) script After x trace = IsOver x trace told

-- ---- reset

-- the position before it, with the key byte that is read
abbrev pub read_begun : Setup → List TraceStep → Position
read_begun setup trace = with_events (read_key (drop (length reset_steps) trace)) (own_begun setup)

pub record BeginsOnward (After : Position → Type 0) (x : Position) (trace : List TraceStep) (told : ℕ) : Type 0 where
  pub served : reset_fault x ≡ None
  pub next : behind (plain_course (reset_course x)) trace ≡ Some (drop told trace)
  pub at : After (position_after_reset x)

pub data IsOverFirst (x : Position) (trace : List TraceStep) : ℕ → Type 0 where
  apart : behind (plain_course (reset_course x)) trace ≡ None → IsOverFirst x trace 0
  cut : (fault : Fault) (told : ℕ) → reset_fault x ≡ Some fault → behind (plain_course (reset_course x)) trace ≡ Some (drop told trace) →
      IsOverFirst x trace told

abbrev pub TurnsFirst : Turn → (Position → Type 0) → Position → List TraceStep → Type 0
TurnsFirst (Onward told) After x trace = BeginsOnward After x trace told
TurnsFirst (Over told) After x trace = IsOverFirst x trace told
