-- What an audit answers: a trace that has a step is accepted where the run that it dictates leaves nothing of it, and else it is rejected
-- at the line of the first step that is left. This project's own.
use Rattle.std.specs.Prelude.{ℕ, zero, suc, ◌-◌, List, [], ◌∷◌, length, map}
use Rattle.f8_spec.specs.ChipState.{ChipView}
use Rattle.f8_spec.specs.declared.chips.PowerOn.{PowerOn}
use Rattle.console_spec.specs.Scripts.{Script}
use Rattle.bus_audit.specs.FreeRuns.{Setup}
use Rattle.bus_audit.specs.DictatedRuns.{DictatedEnd}
use Rattle.bus_audit.specs.declared.answers.AuditAnswer.{AuditAnswer}
use Rattle.bus_audit.specs.declared.answers.AuditAnswer.TheVariants.{Accept, Reject}
use Rattle.bus_audit.specs.declared.step.TraceStep.{TraceStep}
use Rattle.bus_audit.specs.declared.trace.ToldLine.{ToldLine}

-- a trace: its lines that tell of steps, and the line behind the last line of its text
pub record Trace : Type 0 where
  pub told : List ToldLine
  pub after : ℕ

abbrev pub steps_of : List ToldLine → List TraceStep
steps_of told = map (λ l. l.step) told

-- the line of the step that has so many before it, and the one behind the text where there is no such step
abbrev pub line_at : List ToldLine → ℕ → ℕ → ℕ
line_at [] after at = after
line_at (l ∷ later) after zero = l.line
line_at (l ∷ later) after (suc at) = line_at later after at

-- what is left of the steps decides; a trace that has none is rejected behind its text
abbrev pub answer_by : Trace → ℕ → List TraceStep → List ToldLine → AuditAnswer
answer_by trace count rest [] = Reject trace.after
answer_by trace count [] (l ∷ later) = Accept count
answer_by trace count (s ∷ rest) (l ∷ later) = Reject (line_at trace.told trace.after (length trace.told - length (s ∷ rest)))

abbrev pub answer_in : Trace → DictatedEnd → AuditAnswer
answer_in trace end = answer_by trace end.count end.rest trace.told

-- what a free run of a trace is given: the chips of a rack, fitted for a cartridge, and the script
abbrev pub setup_of : List ChipView → List ℕ → List PowerOn → Script → Setup
setup_of chips chain powers script = record { chips = chips; chain = chain; powers = powers; script = script }
