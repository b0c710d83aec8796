-- What becomes of the chips of a rack in an audit, and how many questions have been put to them. All of it is this project's own.
use Rattle.std.specs.Prelude.{◌≡◌, ℕ, ◌+◌, ◌<◌, ◌≤◌, ◌⊎◌, Bool, not, List, [], ◌∷◌, ◌++◌, length, map, filter, flat_map, drop, Some}
use Rattle.f8_spec.specs.ChipState.{ChipState}
use Rattle.f8_spec.specs.MicroSteps.{reset_steps}
use Rattle.f8_spec.specs.declared.chips.PowerOn.{PowerOn}
use Rattle.console_spec.specs.BusTrace.{TracedStep}
use Rattle.console_spec.specs.Services.{Fault}
use Rattle.console_spec.specs.Telling.{Moment}
use Rattle.console_spec.specs.declared.Event.{Event}
use Rattle.data_bus.specs.declared.index.Index.{Index}
use Rattle.f8_machine.specs.Questions.{allowances}
use Rattle.f8_machine.specs.Rounds.{RackPowers, RackRuns, heard_of}
use Rattle.f8_machine.specs.declared.record.TheConstants.{MOST_HEARD}
use Rattle.rack_run.specs.Asking.{AsksOn, AsksWithin, heard_codes, run_allowed, served_codes}
use Rattle.rack_run.specs.Lives.{Lives}
use Rattle.bus_audit.specs.FreeRuns.{is_own_key}
use Rattle.bus_audit.specs.PlainSteps.{plain, plain_fault}
use Rattle.bus_audit.specs.ReadInputs.{read_key, read_inputs}
use Rattle.bus_audit.specs.declared.answers.AuditAnswer.{AuditAnswer}
use Rattle.bus_audit.specs.declared.answers.AuditAnswer.TheVariants.{Accept, Reject}
use Rattle.bus_audit.specs.declared.matching.Turn.{Turn}
use Rattle.bus_audit.specs.declared.matching.Turn.TheVariants.{Onward, Over}
use Rattle.bus_audit.specs.declared.step.TraceStep.{TraceStep}

-- ---- reset or an instruction

abbrev pub AsksBy : Turn → (chips : ℕ) (old new : Index) (before after : ℕ) → List TracedStep → Type 0
AsksBy (Onward told) chips old new before after steps =
    AsksOn (λ codes. allowances chips old codes) (λ codes. allowances chips new codes) before after (served_codes steps)
AsksBy (Over told) chips old new before after steps =
    (unserved : List ℕ) × (length unserved ≤ 1)
    × AsksWithin (λ codes. allowances chips old codes) before after (served_codes steps ++ unserved)

-- Where the run is over, none of the trace's steps count, or those that were heard do and behind them one that is not served.
abbrev pub BeginsBy : Turn → (steps trace : List TraceStep) → Type 0
BeginsBy (Onward told) steps trace = steps ++ drop told trace ≡ trace
BeginsBy (Over told) steps trace =
    (told ≡ 0) ⊎ ((failed : Fault × Bool) × (steps ++ (plain_fault (Some failed) ++ drop told trace) ≡ trace))

-- The chips hear some steps, no more than one instruction has, which stand first in the trace where the run goes on or where steps of the trace
-- count; and they are asked no more than is allowed for these, and for one that is not served.
pub record Hears (turn : Turn) (chips : ℕ) (old new : Index) (olds news : List ChipState) (before after : ℕ) (trace : List TraceStep) : Type 0 where
  pub steps : List TracedStep
  pub short : length steps ≤ MOST_HEARD
  pub ran : RackRuns (map heard_of steps) olds news
  pub begins : BeginsBy turn (map plain steps) trace
  pub asks : AsksBy turn chips old new before after steps

-- ---- the inputs of moments whose steps stand first in a trace

-- a key byte of port 0 or 1 comes to the processor, and no chip has these ports
abbrev pub is_outer : Event → Bool
is_outer event = not (is_own_key event)

-- Behind each instruction come those that are read of the steps behind it.
abbrev pub TakeRead : List ℕ → List Moment → List TraceStep → Type 0
TakeRead chain [] trace = Unit {0}
TakeRead chain (m ∷ later) trace =
    (filter is_outer m.events ≡ read_inputs chain (drop (length m.heard) trace)) × TakeRead chain later (drop (length m.heard) trace)

-- none come behind reset
abbrev pub TakeFromReset : List ℕ → List Moment → List TraceStep → Type 0
TakeFromReset chain [] trace = Unit {0}
TakeFromReset chain (reset ∷ later) trace = (reset.events ≡ []) × TakeRead chain later (drop (length reset.heard) trace)

-- The first moment is power-on, and behind it comes the key byte that is read of the steps behind those of reset.
abbrev pub TakeFromPower : List ℕ → List Moment → List TraceStep → Type 0
TakeFromPower chain [] trace = ⊥
TakeFromPower chain (power ∷ later) trace =
    (power.heard ≡ []) × (filter is_outer power.events ≡ read_key (drop (length reset_steps) trace)) × TakeFromReset chain later trace

-- ---- a whole audit

-- What it begins with: the power byte, the sockets of the chips described and what is said of their power-on, the trace, the chips of the rack,
-- fitted, and how many questions have been put to them.
pub record Beginning : Type 0 where
  pub power : ℕ
  pub chain : List ℕ
  pub powers : List PowerOn
  pub trace : List TraceStep
  pub fitted : List ChipState
  pub asked : ℕ

abbrev pub beginning : ℕ → List ℕ → List PowerOn → List TraceStep → List ChipState → ℕ → Beginning
beginning power chain powers trace fitted asked =
    record { power = power; chain = chain; powers = powers; trace = trace; fitted = fitted; asked = asked }

abbrev pub heard_steps : List Moment → List TracedStep
heard_steps moments = flat_map (λ m. m.heard) moments

abbrev pub events_taken : List Moment → List Event
events_taken moments = flat_map (λ m. m.events) moments

-- A trace that is accepted has nothing behind the moments, or the steps of the one that was tried and the step in which that failed.
abbrev pub EndsBy : AuditAnswer → List Moment → List TraceStep → Type 0
EndsBy (Reject line) tried rest = Unit {0}
EndsBy (Accept count) [] rest = rest ≡ []
EndsBy (Accept count) (m ∷ later) rest = (failed : Fault × Bool) × (rest ≡ map plain m.heard ++ plain_fault (Some failed))

-- The chips are powered as the script and the description say. They live through moments whose bus steps stand first in the trace, with the
-- inputs that are read off it, and through one more at most, whose steps need not where the trace is rejected. That one has no more steps than
-- reset or one instruction, and no input comes behind it. The most are 9: DCI has four before its last fetch, and an interrupt puts five in the
-- place of that. The chips were put no more than 512 questions each, and the allowances of all these steps and of one that was tried and not
-- served.
pub record Audits (first : Beginning) (answer : AuditAnswer) (news : List ChipState) (asked : ℕ) : Type 0 where
  pub powered : List ChipState
  pub power_on : RackPowers first.power first.chain first.powers first.fitted powered
  pub moments : List Moment
  pub rest : List TraceStep
  pub told : map plain (heard_steps moments) ++ rest ≡ first.trace
  pub taken : TakeFromPower first.chain moments first.trace
  pub tried : List Moment
  pub one : length tried ≤ 1
  pub short : length (heard_steps tried) ≤ MOST_HEARD
  pub still : events_taken tried ≡ []
  pub ends : EndsBy answer tried rest
  pub lived : Lives first.chain (moments ++ tried) powered news
  pub unserved : List ℕ
  pub most : length unserved ≤ 1
  pub asks : AsksWithin (run_allowed first.fitted) first.asked asked (heard_codes (moments ++ tried) ++ unserved)

-- ---- on the way

-- So many steps of the trace are told. What else may be asked goes by the machine's index.
pub record LivesUpTo (first : Beginning) (count chips : ℕ) (index : Index) (nows : List ChipState) (asked : ℕ) : Type 0 where
  pub powered : List ChipState
  pub power_on : RackPowers first.power first.chain first.powers first.fitted powered
  pub moments : List Moment
  pub lived : Lives first.chain moments powered nows
  pub told : map plain (heard_steps moments) ++ drop count first.trace ≡ first.trace
  pub taken : TakeFromPower first.chain moments first.trace
  pub asks : AsksOn (run_allowed first.fitted) (λ codes. allowances chips index codes) first.asked asked (heard_codes moments)

-- and reset has been
abbrev pub LivesSoFar : Beginning → (count chips : ℕ) → Index → List ChipState → ℕ → Type 0
LivesSoFar first count chips index nows asked = (lives : LivesUpTo first count chips index nows asked) × (2 ≤ length lives.moments)

-- An answer that accepts leaves nothing of these steps, behind so many of them, and there are some.
abbrev pub LeavesNone : AuditAnswer → List TraceStep → ℕ → Type 0
LeavesNone (Accept count) steps told = (some : 0 < length steps) × (drop told steps ≡ [])
LeavesNone (Reject line) steps told = Unit {0}

-- the run goes on behind so many steps more, or it is over, whatever is then answered
abbrev pub LivesBy : Turn → (first : Beginning) (count chips : ℕ) (index : Index) (nows : List ChipState) (asked : ℕ) → Type 0
LivesBy (Onward told) first count chips index nows asked = LivesSoFar first (count + told) chips index nows asked
LivesBy (Over told) first count chips index nows asked =
    (answer : AuditAnswer) → LeavesNone answer (drop count first.trace) told → Audits first answer nows asked
