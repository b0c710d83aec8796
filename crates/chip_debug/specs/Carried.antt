-- What a command makes of a session, and what it tells.
use Rattle.std.specs.Prelude.{ℕ, ◌+◌, ◌%◌, Bool, true, false, List, [], ◌∷◌, ◌++◌, map, filter_map, Option, Some, None, is_some}
use Rattle.std.specs.List.{range_with_len}
use Rattle.f8_spec.specs.ChipState.{ChipView, held_byte}
use Rattle.f8_spec.specs.declared.bus.Counters.{Counters}
use Rattle.f8_spec.specs.declared.chips.PowerOn.{PowerOn}
use Rattle.console_spec.specs.declared.Regs.{Regs}
use Rattle.console_spec.specs.Processor.{State, told_regs}
use Rattle.console_spec.specs.Run.{Stop}
use Rattle.console_spec.specs.RunText.{regs_line, scratch_line, stop_line, total_line}
use Rattle.console_spec.specs.declared.Event.TheVariants.{Keys as KeysEvent, Pulse as PulseEvent}
use Rattle.probe.specs.ProbeState.{probe_counters}
use Rattle.chip_debug.specs.declared.command.Command.{Command}
use Rattle.chip_debug.specs.declared.command.Command.TheVariants.{Power, Keys, Pulse, Step, Run, BreakAt, BreakRomc}
use Rattle.chip_debug.specs.declared.command.Command.TheVariants.{BreakChip, BreakApart, Clear, ShowRegs, ShowChips, Mem}
use Rattle.chip_debug.specs.declared.command.Command.TheVariants.{Back, BackRun, Stored}
use Rattle.chip_debug.specs.declared.breaks.Breaks.{Breaks}
use Rattle.chip_face.specs.declared.specification.ChipSpec.{ChipSpec}
use Rattle.rack_run.specs.Sockets.{chain_of}
use Rattle.chip_debug.specs.Breaks.{breaks_after, fitted, no_breaks, own_counters}
use Rattle.chip_debug.specs.DebugText.{at_line, break_line, chip_line, mem_line, probe_line, ran_line, ready_line, stored_line}
use Rattle.chip_debug.specs.Scenes.{Scene, Going, going, happened, reached}
use Rattle.chip_debug.specs.Stepping.{back_by, back_to_break, gone_to, met_before, stored_by}

-- ---- what it makes of the session

abbrev pub with_breaks : Breaks → Scene → Scene
with_breaks breaks s = record s { breaks = breaks }

-- power-on and reset, with the same chips described, the same that is said of them, and the same breaks; what came before is dropped
abbrev pub restarted : ℕ → Scene → Scene
restarted fill s = record s { fill = fill; entries = []; stopped = false }

-- A command that sets breaks or clears them does so whether the session has stopped or not.
abbrev pub scene_after : Command → Scene → Scene
scene_after (Power fill) s = restarted fill s
scene_after (Keys port byte) s = happened (KeysEvent port byte) s
scene_after (Pulse chip) s = happened (PulseEvent chip) s
scene_after (Step count) s = (going false count s).scene
scene_after (Run count) s = (going true count s).scene
scene_after (BreakAt at) s = with_breaks (breaks_after (BreakAt at) s.breaks) s
scene_after (BreakRomc romc) s = with_breaks (breaks_after (BreakRomc romc) s.breaks) s
scene_after (BreakChip socket) s = with_breaks (breaks_after (BreakChip socket) s.breaks) s
scene_after BreakApart s = with_breaks (breaks_after BreakApart s.breaks) s
scene_after Clear s = with_breaks (breaks_after Clear s.breaks) s
scene_after ShowRegs s = s
scene_after ShowChips s = s
scene_after (Mem at count) s = s
scene_after (Back count) s = gone_to (back_by count s) s
scene_after (BackRun count) s = gone_to (back_to_break count s) s
scene_after (Stored at) s = s

-- ---- what it tells

-- what stopped the session, or that it is ready
abbrev pub start_lines : Option Stop → List (List ℕ)
start_lines None = ready_line ∷ []
start_lines (Some stop) = stop_line stop ∷ []

abbrev pub break_lines : Bool → List (List ℕ)
break_lines true = break_line ∷ []
break_lines false = []

-- what stopped it, or the break that ended the instructions, if one did
abbrev pub halt_lines : Option Stop → Bool → List (List ℕ)
halt_lines None broke = break_lines broke
halt_lines (Some stop) broke = stop_line stop ∷ []

abbrev pub going_lines : Going → List (List ℕ)
going_lines g = ran_line g.ran ∷ halt_lines (reached g.scene).stop g.broke

-- the rows of the scratchpad
abbrev pub scratchpad_lines : Regs → List (List ℕ)
scratchpad_lines regs = map (λ row. scratch_line regs row) (range_with_len 0 4)

-- the registers, the scratchpad, the instructions done and their clocks
abbrev pub registers_lines : Regs → ℕ → ℕ → List (List ℕ)
registers_lines regs count phi = regs_line regs ∷ scratchpad_lines regs ++ total_line count phi ∷ []

-- those of a state, which is that before the instruction that stopped the session
abbrev pub state_lines : State → List (List ℕ)
state_lines s = registers_lines (told_regs s) s.count s.phi

abbrev pub fitted_lines : List (ℕ × ChipView) → List (List ℕ)
fitted_lines chips = map (λ x. chip_line x.0 x.1.kind (own_counters x.1)) chips

-- the chips described, and then the probe
abbrev pub chips_lines : Counters → List ℕ → List ChipView → List (List ℕ)
chips_lines reference chain vs = fitted_lines (fitted chain vs) ++ probe_line reference ∷ []

-- the one of some bytes, where there is one alone
abbrev pub sole : List ℕ → Option ℕ
sole [] = None
sole (byte ∷ []) = Some byte
sole (byte ∷ (other ∷ more)) = None

-- the byte at an address that one chip alone holds, as that chip has it
abbrev pub byte_held : List ChipView → ℕ → Option ℕ
byte_held vs at = sole (filter_map (λ v. held_byte v at) vs)

-- the bytes from an address on, which comes to 0 behind the last one
abbrev pub bytes_held : List ChipView → ℕ → ℕ → List (Option ℕ)
bytes_held vs at count = map (λ place. byte_held vs ((at + place) % 65536)) (range_with_len 0 count)

abbrev pub lines_of : Command → Scene → List (List ℕ)
lines_of (Power fill) s = start_lines (reached (restarted fill s)).stop
lines_of (Keys port byte) s = []
lines_of (Pulse chip) s = []
lines_of (Step count) s = going_lines (going false count s)
lines_of (Run count) s = going_lines (going true count s)
lines_of (BreakAt at) s = []
lines_of (BreakRomc romc) s = []
lines_of (BreakChip socket) s = []
lines_of BreakApart s = []
lines_of Clear s = []
lines_of ShowRegs s = state_lines (reached s).position.flat.state
lines_of ShowChips s = chips_lines (probe_counters (reached s).probe) s.chain (reached s).chips
lines_of (Mem at count) s = mem_line at (bytes_held (reached s).chips at count) ∷ []
lines_of (Back count) s = at_line (back_by count s) ∷ []
lines_of (BackRun count) s = at_line (back_to_break count s) ∷ break_lines (is_some (met_before count s))
lines_of (Stored at) s = stored_line (stored_by at s) ∷ []

-- ---- one command after another

-- a session begins on some chips with the chain of those described and what is said of each: power-on with 00 and reset, and no break
abbrev pub scene_on : List ℕ → List PowerOn → List ChipView → Scene
scene_on chain powers vs = record {
  first = vs;
  chain = chain;
  fill = 0;
  powers = powers;
  entries = [];
  stopped = false;
  breaks = no_breaks;
}

-- so it does on chips that are fitted for a description
abbrev pub first_scene : List ChipSpec → List PowerOn → List ChipView → Scene
first_scene chips powers vs = scene_on (chain_of chips (map (λ v. v.kind) vs)) powers vs

abbrev pub scene_by : List Command → Scene → Scene
scene_by [] s = s
scene_by (command ∷ commands) s = scene_by commands (scene_after command s)

abbrev pub told_by : List Command → Scene → List (List ℕ)
told_by [] s = []
told_by (command ∷ commands) s = lines_of command s ++ told_by commands (scene_after command s)
