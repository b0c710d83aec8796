-- Where a machine and its chips come to, from power-on and reset through what was done since, entry by entry.
use Rattle.std.specs.Prelude.{ℕ, ◌==◌, if◌then◌else◌, List, [], ◌∷◌, ◌++◌, map, slice_get, Option, Some, None}
use Rattle.std.specs.List.{enumerate_from}
use Rattle.f8_spec.specs.ChipState.{ChipView, powered as powered_view, keyed, pulsed}
use Rattle.f8_spec.specs.declared.chips.PowerOn.{PowerOn}
use Rattle.console_spec.specs.BusTrace.{Course}
use Rattle.console_spec.specs.Powering.{fill_in, start_in}
use Rattle.console_spec.specs.Run.{Position, Turn, Goes, Stops, Stop, goes_unless, next, turn_course, power_position}
use Rattle.console_spec.specs.Run.{position_after_reset, reset_course, reset_fault}
use Rattle.console_spec.specs.Telling.{with_event}
use Rattle.console_spec.specs.declared.Event.{Event}
use Rattle.console_spec.specs.declared.Event.TheVariants.{Keys, Pulse}
use Rattle.probe.specs.ProbeState.{ProbeState, new_probe}
use Rattle.f8_machine.specs.Keying.{is_own}
use Rattle.f8_machine.specs.MachineState.{probe_after_steps}
use Rattle.f8_machine.specs.Rounds.{after_steps, heard_of}
use Rattle.f8_machine.specs.declared.heard.Heard.{Heard}
use Rattle.rewind.specs.declared.entry.Entry.{Entry}
use Rattle.rewind.specs.declared.entry.Entry.TheVariants.{Happens, Instruction}

-- Where the flat machine and the copies of its counters stand after the last instruction that was done, or after power-on where reset was
-- not; the chips and the probe as they are now, after all served steps, and these steps themselves since power-on; and what stopped the
-- machine, if anything did.
pub record Reached : Type 0 where
  pub position : Position
  pub chips : List ChipView
  pub probe : ProbeState
  pub heard : List Heard
  pub stop : Option Stop

-- ---- bus steps

-- the steps of a course that are served, as a machine tells them
abbrev pub served_steps : Course → List Heard
served_steps course = map heard_of course.steps

-- the chips after some bus steps, each in its socket
abbrev pub chips_after : List Heard → List ChipView → List ChipView
chips_after steps vs = map (λ x. after_steps x.0 steps x.1) (enumerate_from 0 vs)

-- the chips and the probe hear the steps
abbrev pub hearing : List Heard → Reached → Reached
hearing steps r =
    record r { chips = chips_after steps r.chips; probe = probe_after_steps steps r.probe; heard = r.heard ++ steps }

-- and the flat machine goes on, or it is stopped
abbrev pub led_by : Turn → Reached → Reached
led_by (Goes y) r = record r { position = y }
led_by (Stops stop) r = record r { stop = Some stop }

-- ---- power-on and reset

-- power-on of the chips, each in its socket, with the chain of those described and what is said of each
abbrev pub chips_powered : ℕ → List ℕ → List PowerOn → List ChipView → List ChipView
chips_powered fill chain powers vs =
    map (λ x. powered_view (fill_in fill chain powers x.0) (start_in fill chain powers x.0) x.1) (enumerate_from 0 vs)

abbrev pub powered_on : ℕ → List ℕ → List PowerOn → List ChipView → Reached
powered_on fill chain powers vs = record {
  position = power_position vs chain powers fill;
  chips = chips_powered fill chain powers vs;
  probe = new_probe;
  heard = [];
  stop = None;
}

abbrev pub reset_of : Reached → Reached
reset_of r =
    led_by (goes_unless (reset_fault r.position) (position_after_reset r.position))
    (hearing (served_steps (reset_course r.position)) r)

-- power-on and reset of these chips, with the chain of those described and what is said of each
abbrev pub started : ℕ → List ℕ → List PowerOn → List ChipView → Reached
started fill chain powers vs = reset_of (powered_on fill chain powers vs)

-- ---- events

abbrev pub pulsed_in : Option ℕ → List ChipView → List ChipView
pulsed_in None vs = vs
pulsed_in (Some socket) vs = map (λ x. if socket == x.0 then pulsed x.1 else x.1) (enumerate_from 0 vs)

-- A key byte of a port that the processor doesn't have itself comes to every chip, and a pulse to the chip that it names.
abbrev pub chips_with : List ℕ → Event → List ChipView → List ChipView
chips_with chain (Keys port byte) vs = if is_own port then vs else map (keyed port byte) vs
chips_with chain (Pulse chip) vs = pulsed_in (slice_get chain chip) vs

abbrev pub happening : Option Stop → Event → Reached → Reached
happening None event r =
    record r { position = with_event event r.position; chips = chips_with r.position.chain event r.chips }
happening (Some stop) event r = r

-- an event comes, unless the machine is stopped
abbrev pub happened : Event → Reached → Reached
happened event r = happening r.stop event r

-- ---- instructions

-- the bus steps of the next instruction that are served
abbrev pub next_steps : Reached → List Heard
next_steps r = served_steps (turn_course r.position)

-- the next instruction is done, or it stops the machine
abbrev pub turned : Reached → Reached
turned r = led_by (next r.position) (hearing (next_steps r) r)

-- ---- entries

abbrev pub entered : Entry → Reached → Reached
entered (Happens event) r = happened event r
entered Instruction r = turned r

-- one after another
abbrev pub reached_by : List Entry → Reached → Reached
reached_by [] r = r
reached_by (entry ∷ later) r = reached_by later (entered entry r)
