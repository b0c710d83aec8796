-- The run that a trace dictates: it goes on as long as the record of reset, and then of each instruction, is what stands next in the trace.
-- This project's own.
use Rattle.std.specs.Prelude.{◌≡◌, ℕ, zero, suc, ◌+◌, List, length, drop, Option, Some, None}
use Rattle.f8_spec.specs.Instructions.{decoded}
use Rattle.f8_spec.specs.MicroSteps.{reset_steps}
use Rattle.f8_spec.specs.declared.instructions.Op.{Op}
use Rattle.console_spec.specs.Run.{Position, opcode_at, instruction_course, instruction_fault, position_after}
use Rattle.console_spec.specs.Run.{position_after_reset, reset_course, reset_fault}
use Rattle.console_spec.specs.Scripts.{Script}
use Rattle.console_spec.specs.Services.{Fault}
use Rattle.bus_audit.specs.PlainSteps.{plain_course, behind}
use Rattle.bus_audit.specs.declared.step.TraceStep.{TraceStep}
use Rattle.bus_audit.specs.FreeRuns.{Setup, own_begun, own_behind}
use Rattle.bus_audit.specs.Choices.{with_choice}

-- The run goes on from a position, or it is over; with what stands behind its steps in the trace. At the position the inputs for its next
-- instruction have come.
pub data Next : Type 0 where
  Onward : Position → List TraceStep → Next
  Over : List TraceStep → Next

-- By why a course isn't served and what stands behind its record: where the record is not what stands next, nothing of it counts. Where it
-- is, the step that is not served counts too.
abbrev pub next_by : Option Fault → Option (List TraceStep) → (List TraceStep → Position) → List TraceStep → Next
next_by fault None onward trace = Over trace
next_by None (Some rest) onward trace = Onward (onward rest) rest
next_by (Some fault) (Some rest) onward trace = Over rest

-- an instruction by its opcode; a reserved one ends the run without a step
abbrev pub next_for : Option Op → Script → Position → List TraceStep → Next
next_for None script x trace = Over trace
next_for (Some op) script x trace =
    next_by (instruction_fault op x) (behind (plain_course (instruction_course op x)) trace)
    (λ rest. with_choice rest (own_behind script x (position_after op x))) trace

abbrev pub next_dictated : Script → Position → List TraceStep → Next
next_dictated script x trace = next_for (decoded (opcode_at x)) script x trace

-- the position at power-on, with what the trace dictates for the first instruction: its steps stand behind those of reset
abbrev pub dictated_begun : Setup → List TraceStep → Position
dictated_begun setup trace = with_choice (drop (length reset_steps) trace) (own_begun setup)

abbrev pub start_dictated : Setup → List TraceStep → Next
start_dictated setup trace =
    let x = dictated_begun setup trace in
    next_by (reset_fault x) (behind (plain_course (reset_course x)) trace) (λ rest. position_after_reset x) trace

-- after so many instructions, with what stands behind all steps so far
abbrev pub IsDictatedAt : Setup → List TraceStep → ℕ → Position → List TraceStep → Type 0
IsDictatedAt setup trace zero x rest = start_dictated setup trace ≡ Onward x rest
IsDictatedAt setup trace (suc n) x rest =
    (y : Position) × (before : List TraceStep) × IsDictatedAt setup trace n y before
    × (next_dictated setup.script y before ≡ Onward x rest)

-- ---- its end

-- how many instructions are done, and what of the trace is left; reset and an instruction that is not served are not counted
pub record DictatedEnd : Type 0 where
  pub count : ℕ
  pub rest : List TraceStep

abbrev pub end_by : ℕ → Next → (Position → List TraceStep → DictatedEnd) → DictatedEnd
end_by count (Over rest) onward = record { count = count; rest = rest }
end_by count (Onward x rest) onward = onward x rest

-- with at most so many instructions more
unfoldable pub dictated_from : Script → ℕ → ℕ → Position → List TraceStep → DictatedEnd
dictated_from script count zero x trace = record { count = count; rest = trace }
dictated_from script count (suc more) x trace =
    end_by count (next_dictated script x trace) (λ y rest. dictated_from script (count + 1) more y rest)

-- The whole dictated run. Each instruction has a step, so that the trace has at least as many steps as the run has instructions.
abbrev pub dictated : Setup → List TraceStep → DictatedEnd
dictated setup trace = end_by 0 (start_dictated setup trace) (λ x rest. dictated_from setup.script 0 (length trace) x rest)
