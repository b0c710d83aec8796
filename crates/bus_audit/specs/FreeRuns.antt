-- Free runs: those of a rack with a script's power byte and its key bytes of ports 0 and 1, which are the processor's own. The key bytes of
-- all other ports and the pulses are free. Nothing else of the script counts, its end neither. What is free and what counts of a script is
-- this project's own.
use Rattle.std.specs.Prelude.{◌≡◌, ℕ, zero, suc, ◌<◌, ◌≤◌, Bool, false, nat_lt, List, [], ◌++◌, map, filter, Option, Some, None}
use Rattle.std.specs.List.{AllByRecursion}
use Rattle.f8_spec.specs.ChipState.{ChipView}
use Rattle.f8_spec.specs.Instructions.{decoded}
use Rattle.f8_spec.specs.declared.chips.PowerOn.{PowerOn}
use Rattle.f8_spec.specs.declared.instructions.Op.{Op}
use Rattle.console_spec.specs.BusTrace.{TracedStep}
use Rattle.console_spec.specs.Run.{Position, opcode_at, instruction_course, instruction_fault, position_after, power_position}
use Rattle.console_spec.specs.Run.{position_after_reset, reset_course, reset_fault}
use Rattle.console_spec.specs.Scripts.{Script, events_at}
use Rattle.console_spec.specs.Services.{Fault}
use Rattle.console_spec.specs.Telling.{fallen, with_events}
use Rattle.console_spec.specs.declared.Event.{Event}
use Rattle.console_spec.specs.declared.Event.TheVariants.{Keys, Pulse}
use Rattle.bus_audit.specs.PlainSteps.{plain, plain_course}
use Rattle.bus_audit.specs.declared.step.TraceStep.{TraceStep}

-- what a run is given besides free inputs: the chips of the rack, fitted; the sockets of those described, in the order of the description;
-- what is said of how these are powered on; and the script
pub record Setup : Type 0 where
  pub chips : List ChipView
  pub chain : List ℕ
  pub powers : List PowerOn
  pub script : Script

-- ---- inputs

-- a free input: a key byte of a port that is not the processor's own, or a pulse
abbrev pub IsFree : Event → Type 0
IsFree (Keys port byte) = (2 ≤ port) × (byte < 256)
IsFree (Pulse chip) = Unit {0}

abbrev pub AreFree : List Event → Type 0
AreFree events = AllByRecursion IsFree events

-- what counts of a script: the key bytes of ports 0 and 1
abbrev pub is_own_key : Event → Bool
is_own_key (Keys port byte) = nat_lt port 2
is_own_key (Pulse chip) = false

abbrev pub own_events : Script → ℕ → List Event
own_events script frame = filter is_own_key (events_at frame script.events)

abbrev pub own_fallen : Script → Option ℕ → List Event
own_fallen script None = []
own_fallen script (Some frame) = own_events script frame

-- behind an instruction, those of the frame that falls at its end
abbrev pub own_behind : Script → Position → Position → Position
own_behind script before after = with_events (own_fallen script (fallen before.flat.state after.flat.state)) after

-- behind power-on, those of frame 0
abbrev pub own_begun : Setup → Position
own_begun setup =
    with_events (own_events setup.script 0) (power_position setup.chips setup.chain setup.powers setup.script.power)

-- ---- a free run, where it may be broken off

-- Behind reset, with the steps of reset: free inputs come before it, and it is served.
pub record BeginsFreely (setup : Setup) (x : Position) (steps : List TracedStep) : Type 0 where
  pub free : List Event
  pub are_free : AreFree free
  pub served : reset_fault (with_events free (own_begun setup)) ≡ None
  pub at : x ≡ position_after_reset (with_events free (own_begun setup))
  pub told : steps ≡ (reset_course (with_events free (own_begun setup))).steps

-- One instruction further, with its steps behind the earlier ones: it is served, and free inputs come at its end.
pub record GoesFreely (script : Script) (y x : Position) (earlier steps : List TracedStep) : Type 0 where
  pub op : Op
  pub is : decoded (opcode_at y) ≡ Some op
  pub served : instruction_fault op y ≡ None
  pub free : List Event
  pub are_free : AreFree free
  pub at : x ≡ with_events free (own_behind script y (position_after op y))
  pub told : steps ≡ earlier ++ (instruction_course op y).steps

-- after so many instructions, with all steps so far
abbrev pub IsFreelyAt : Setup → ℕ → Position → List TracedStep → Type 0
IsFreelyAt setup zero x steps = BeginsFreely setup x steps
IsFreelyAt setup (suc n) x steps =
    (y : Position) × (earlier : List TracedStep) × IsFreelyAt setup n y earlier × GoesFreely setup.script y x earlier steps

-- ---- its record

-- The whole record of a free run with so many instructions that are done: of one that is broken off behind reset or an instruction, or of one
-- that a fault stops, whose step is the last. One that stops at a reserved opcode has the record of one that is broken off there.
pub data IsRecord (setup : Setup) : ℕ → List TraceStep → Type 0 where
  broken_off : (n : ℕ) (x : Position) (steps : List TracedStep) → IsFreelyAt setup n x steps → IsRecord setup n (map plain steps)
  reset_cut : (free : List Event) (fault : Fault) → AreFree free → reset_fault (with_events free (own_begun setup)) ≡ Some fault →
      IsRecord setup zero (plain_course (reset_course (with_events free (own_begun setup))))
  cut : (n : ℕ) (x : Position) (steps : List TracedStep) (op : Op) (fault : Fault) → IsFreelyAt setup n x steps →
      decoded (opcode_at x) ≡ Some op → instruction_fault op x ≡ Some fault →
      IsRecord setup n (map plain steps ++ plain_course (instruction_course op x))
