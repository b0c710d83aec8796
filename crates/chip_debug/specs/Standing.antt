-- A session as contracts see it, and what it and its rack stand for.
use Rattle.std.specs.Prelude.{ℕ, ◌≡◌, ◌≤◌, ◌+◌, ◌&&◌, Bool, true, false, if◌then◌else◌, List, [], Option, Some, None, option_map, is_some}
use Rattle.f8_spec.specs.ChipState.{ChipState}
use Rattle.f8_machine.specs.declared.outcome.Outcome.{Outcome}
use Rattle.f8_machine.specs.declared.outcome.Outcome.TheVariants.{Done as DoneOutcome, Fault as FaultOutcome, Reserved as ReservedOutcome}
use Rattle.rack_run.specs.Endings.{stop_of}
use Rattle.rack_run.specs.declared.ending.Halt.{Halt}
use Rattle.rack_run.specs.declared.ending.Halt.TheVariants.{Fault, Reserved}
use Rattle.rewind.specs.Asking.{allowed_since_power}
use Rattle.rewind.specs.LogEntries.{instructions_in}
use Rattle.rewind.specs.Standing.{HasReached}
use Rattle.rewind.specs.Tape.{TapeState, IsTaped}
use Rattle.rewind.specs.declared.tape_mode.TapeMode.TheVariants.{Going}
use Rattle.chip_debug.specs.Asking.{behind_allowed, going_allowed}
use Rattle.chip_debug.specs.declared.breaks.Breaks.{Breaks}
use Rattle.chip_debug.specs.Scenes.{Scene, entered, going, is_met, reached, stepped, stops}
use Rattle.chip_debug.specs.declared.session.Came.{Came}
use Rattle.chip_debug.specs.declared.session.Came.TheVariants.{Done, Met, Stopped}
use Rattle.chip_debug.specs.declared.session.Ran.{Ran}

-- the tape, what stopped the session since power-on, if anything did, and the breaks
pub record SessionState : Type 0 where
  pub tape : TapeState
  pub halt : Option Halt
  pub breaks : Breaks

-- All entries of the tape were played, and it goes on as long as nothing stopped the session.
pub record IsPlayed (tape : TapeState) (halt : Option Halt) : Type 0 where
  pub left : tape.log.left ≡ []
  pub goes : halt ≡ None → tape.mode ≡ Going

-- the instructions that were done since power-on
abbrev pub count_in : SessionState → ℕ
count_in s = instructions_in s.tape.log.played

-- a command asks for so many instructions before it at most
abbrev pub most_done : ℕ
most_done = 4000000000

-- what stops a session by an outcome, if it does
abbrev pub halt_in : Outcome → Option Halt
halt_in (DoneOutcome wrote steps) = None
halt_in (FaultOutcome fault long steps) = Some (Fault fault)
halt_in (ReservedOutcome at code) = Some (Reserved at code)

-- ---- where it stands

-- A session with its rack is at a scene: its machine and the chips are where the scene's entries lead, and the tape would lead there again.
pub record IsAt (s : SessionState) (states : List ChipState) (scene : Scene) : Type 0 where
  pub there : HasReached s.tape.machine states (reached scene)
  pub taped : IsTaped s.tape states scene.first
  pub chain : s.tape.machine.chain ≡ scene.chain
  pub fill : s.tape.fill ≡ scene.fill
  pub powers : s.tape.powers ≡ scene.powers
  pub entries : s.tape.log.played ≡ scene.entries
  pub stop : option_map stop_of s.halt ≡ (reached scene).stop
  pub stopped : scene.stopped ≡ true → is_some (reached scene).stop ≡ true
  pub went : scene.stopped ≡ true → (entered scene).stop ≡ None
  pub breaks : s.breaks ≡ scene.breaks

-- ---- instructions

-- what comes of the next instruction of a scene
abbrev pub came_of : Bool → Scene → Came
came_of heeds scene =
    if stops scene then Stopped else
    if heeds && is_met scene then Met else
    Done

-- how many questions are put behind it, where so many are put behind one that is done
abbrev pub behind : Came → ℕ → ℕ
behind Done each = each
behind Met each = each
behind Stopped each = 0

-- The instruction leads there, and asks no more than the allowances of its bus steps and what is asked behind it.
pub record IsTurned (heeds : Bool) (came : Came) (s : SessionState) (states : List ChipState) (scene : Scene)
    (before after : ℕ) : Type 0 where
  pub at : IsAt s states (stepped scene)
  pub is : came ≡ came_of heeds scene
  pub asked :
      after + allowed_since_power (reached scene)
      ≤ before + allowed_since_power (reached (stepped scene)) + behind came (behind_allowed heeds scene.breaks scene.chain)

-- and of so many
pub record IsGone (heeds : Bool) (count : ℕ) (ran : Ran) (s : SessionState) (states : List ChipState)
    (scene : Scene) (before after : ℕ) : Type 0 where
  pub at : IsAt s states (going heeds count scene).scene
  pub counted : ran.count ≡ (going heeds count scene).ran
  pub met : ran.broke ≡ (going heeds count scene).broke
  pub asked : after ≤ before + going_allowed heeds count scene
