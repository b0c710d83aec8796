-- What becomes of one instruction of a run, and of all of them, where a player stands at a position and goes on by a way. What the player
-- is comes in as `At`, the positions that it stands at. On the flat instruction set alone the rack has no chips, and hears nothing.
use Rattle.std.specs.Prelude.{◌≡◌, ◌≢◌, ℕ, ◌+◌, List, [], map, Option}
use Rattle.f8_spec.specs.ChipState.{ChipState}
use Rattle.console_spec.specs.declared.PortWrite.{PortWrite}
use Rattle.console_spec.specs.declared.Regs.{Regs}
use Rattle.console_spec.specs.Processor.{Flow, Registers, State, told_regs, with_write}
use Rattle.console_spec.specs.Run.{Position, Goes, Stops}
use Rattle.console_spec.specs.Scripts.{Script, most_instructions}
use Rattle.console_spec.specs.Telling.{Way, with_events, events_behind, told_steps, moment_of, Telling, telling}
use Rattle.console_spec.specs.Telling.{told_in}
use Rattle.f8_machine.specs.Rounds.{RackRuns, heard_of}
use Rattle.outside.specs.SinkRules.{Output, Adds, AddsPart}
use Rattle.rack_run.specs.Asking.{codes_up_to}
use Rattle.rack_run.specs.Endings.{stop_of, TellsEnd, CutShort}
use Rattle.rack_run.specs.Lives.{LivesMoment, Lives, Come}
use Rattle.rack_run.specs.Progressing.{ProgressState, Keeps}
use Rattle.rack_run.specs.Texts.{text_in}
use Rattle.rack_run.specs.declared.detail.Detail.{Detail}
use Rattle.rack_run.specs.declared.ending.Cut.{Cut}
use Rattle.rack_run.specs.declared.ending.Cut.TheVariants.{Halt as Halts, Sink}
use Rattle.rack_run.specs.declared.ending.Ending.{Ending}
use Rattle.rack_run.specs.declared.ending.Halt.{Halt}

-- ---- what a player tells

-- its counters, registers and clocks, in Φ
pub record Readout : Type 0 where
  pub flow : Flow
  pub registers : Registers
  pub phi : ℕ

-- those of a state
abbrev pub readout_of : State → Readout
readout_of s = record { flow = s.flow; registers = s.registers; phi = s.phi }

-- the registers as a run tells them
abbrev pub regs_of : Readout → Regs
regs_of r = told_regs (record {
  flow = r.flow;
  registers = r.registers;
  keys = [];
  writes = [];
  acknowledged = [];
  pulses = [];
  count = 0;
  phi = 0;
})

-- ---- an instruction, up to its bus steps

-- what is told of its bus steps, as bytes
abbrev pub steps_text : Detail → Way → Position → List ℕ
steps_text detail way x = text_in detail (told_steps way.traced (way.course x))

-- it is done, with its write: the player stands at the next position, and the steps were heard and told
pub record StepsDone (detail : Detail) (way : Way) (At : Position → Type 0) (wrote : Option PortWrite)
    (olds news : List ChipState) (old new : Output) (x : Position) : Type 0 where
  pub there : Position
  pub turns : way.step x ≡ Goes there
  pub at : At there
  pub same_chain : there.chain ≡ x.chain
  pub counts : there.flat.state.count ≡ x.flat.state.count + 1
  pub writes : there.flat.state.writes ≡ with_write wrote x.flat.state.writes
  pub heard : RackRuns (map heard_of (way.course x).steps) olds news
  pub lines : Adds old new (steps_text detail way x)

-- it stops the run: the player tells the state before it, and the steps were heard and told
pub record StepsHalt (detail : Detail) (way : Way) (readout : Readout) (olds news : List ChipState) (old new : Output)
    (x : Position) (halt : Halt) : Type 0 where
  pub turns : way.step x ≡ Stops (stop_of halt)
  pub state : readout ≡ readout_of x.flat.state
  pub heard : RackRuns (map heard_of (way.course x).steps) olds news
  pub lines : Adds old new (steps_text detail way x)

-- the sink failed at a line of its steps, which were heard
pub record StepsFail (detail : Detail) (way : Way) (olds news : List ChipState) (old new : Output)
    (x : Position) : Type 0 where
  pub heard : RackRuns (map heard_of (way.course x).steps) olds news
  pub some : steps_text detail way x ≢ []
  pub part : AddsPart old new (steps_text detail way x)

-- why it doesn't lead on
abbrev pub StepsCut : Detail → Way → Readout → (olds news : List ChipState) → (old new : Output) → Position → Cut →
    Type 0
StepsCut detail way readout olds news old new x (Halts halt) = StepsHalt detail way readout olds news old new x halt
StepsCut detail way readout olds news old new x Sink = StepsFail detail way olds news old new x

-- ---- an instruction, with its end

-- the position that a run comes to behind an instruction, with the events of a frame that falls there
abbrev pub position_behind : Script → Position → Position → Position
position_behind script x y = with_events (events_behind script x (Goes y)) y

-- the events behind an instruction that is done
pub record HappenBehind (script : Script) (At : Position → Type 0) (olds news : List ChipState)
    (x y : Position) : Type 0 where
  pub at : At (position_behind script x y)
  pub came : Come y.chain (events_behind script x (Goes y)) olds news

-- all that is told of it, as bytes
abbrev pub moment_text : Detail → Way → Script → Position → List ℕ
moment_text detail way script x = text_in detail (moment_of way script x (way.step x)).told

-- it is done: the player stands at the next position, and its moment was lived through and told
pub record GoesOn (detail : Detail) (way : Way) (script : Script) (At : Position → Type 0) (p : ProgressState)
    (olds news : List ChipState) (old new : Output) (x : Position) : Type 0 where
  pub there : Position
  pub turns : way.step x ≡ Goes there
  pub at : At (position_behind script x there)
  pub same_chain : there.chain ≡ x.chain
  pub keeps : Keeps p (position_behind script x there).flat.state
  pub lived : LivesMoment x.chain (moment_of way script x (way.step x)) olds news
  pub lines : Adds old new (moment_text detail way script x)

-- it stops the run: the player tells the state before it, and its moment was lived through and told
pub record StopsAt (detail : Detail) (way : Way) (script : Script) (readout : Readout) (p : ProgressState)
    (olds news : List ChipState) (old new : Output) (x : Position) (halt : Halt) : Type 0 where
  pub turns : way.step x ≡ Stops (stop_of halt)
  pub state : readout ≡ readout_of x.flat.state
  pub keeps : Keeps p x.flat.state
  pub lived : LivesMoment x.chain (moment_of way script x (way.step x)) olds news
  pub lines : Adds old new (moment_text detail way script x)

-- the sink failed at one of its lines: its served steps were heard
pub record FailsAt (detail : Detail) (way : Way) (script : Script) (olds news : List ChipState) (old new : Output)
    (x : Position) : Type 0 where
  pub heard : RackRuns (map heard_of (way.course x).steps) olds news
  pub some : moment_text detail way script x ≢ []
  pub part : AddsPart old new (moment_text detail way script x)

-- what cuts the run short there
abbrev pub CutsAt : Detail → Way → Script → Readout → ProgressState → (olds news : List ChipState) →
    (old new : Output) → Position →
    Cut → Type 0
CutsAt detail way script readout p olds news old new x (Halts halt) =
    StopsAt detail way script readout p olds news old new x halt
CutsAt detail way script readout p olds news old new x Sink = FailsAt detail way script olds news old new x

-- ---- all instructions

abbrev pub rest_on : Way → Script → Position → Telling
rest_on way script x = telling way script (most_instructions script.end) x

-- the rest of a run, to its end
pub record RunsOut (detail : Detail) (way : Way) (script : Script) (told : Ending) (olds news : List ChipState)
    (old new : Output) (x : Position) : Type 0 where
  pub tells : TellsEnd told (rest_on way script x).ending
  pub lived : Lives x.chain (rest_on way script x).moments olds news
  pub lines : Adds old new (text_in detail (told_in (rest_on way script x).moments))

-- the same, cut short, with what was asked by then
pub record RunsShort (Asks : List ℕ → Type 0) (detail : Detail) (way : Way) (script : Script) (olds news : List ChipState)
    (old new : Output) (x : Position) : Type 0 where
  pub cut : CutShort detail x.chain (rest_on way script x).moments olds news old new
  pub asks : Asks (codes_up_to cut.before cut.at cut.behind (rest_on way script x).ending.stop)
