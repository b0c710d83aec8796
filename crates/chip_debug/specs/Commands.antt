-- What a line of a command file says: one of the commands, or its first fault in the order Word, Number, Range.
use Rattle.std.specs.Prelude.{ℕ, if◌then◌else◌, List, [], ◌∷◌, codes, bytes_eq, Option, Some, None, Result, Ok, Err}
use Rattle.line_words.specs.Drafts.{line_by}
use Rattle.line_words.specs.Numbers.{address_of, byte_of, number_of, spelled, within}
use Rattle.chip_debug.specs.declared.answers.DebugCause.{DebugCause}
use Rattle.chip_debug.specs.declared.answers.DebugCause.TheVariants.{Word, Number}
use Rattle.chip_debug.specs.declared.command.Command.{Command}
use Rattle.chip_debug.specs.declared.command.Command.TheVariants.{Power, Keys, Pulse, Step, Run, BreakAt, BreakRomc}
use Rattle.chip_debug.specs.declared.command.Command.TheVariants.{BreakChip, BreakApart, Clear, ShowRegs, ShowChips, Mem}
use Rattle.chip_debug.specs.declared.command.Command.TheVariants.{Back, BackRun, Stored}
use Rattle.chip_debug.specs.Answers.{made_of}

-- ---- two words

-- `power HH`
unfoldable pub power_of : List ℕ → Result Command DebugCause
power_of byte = made_of Power (spelled (byte_of byte))

-- `pulse C`
unfoldable pub pulse_of : List ℕ → Result Command DebugCause
pulse_of chip = made_of Pulse (within 0 15 (number_of chip))

-- `step N`
unfoldable pub step_of : List ℕ → Result Command DebugCause
step_of count = made_of Step (within 0 1000000 (number_of count))

-- `run N`
unfoldable pub run_of : List ℕ → Result Command DebugCause
run_of count = made_of Run (within 0 1000000 (number_of count))

-- `back run N`
unfoldable pub back_run : List ℕ → Result Command DebugCause
back_run count = made_of BackRun (within 1 1000000 (number_of count))

-- `back N`; the word `run` is no number
unfoldable pub back_of : List ℕ → Result Command DebugCause
back_of count = made_of Back (within 1 1000000 (number_of count))

-- `stored AAAA`
unfoldable pub stored_of : List ℕ → Result Command DebugCause
stored_of at = made_of Stored (spelled (address_of at))

-- `break apart`
abbrev pub bare_break : List ℕ → Result Command DebugCause
bare_break kind = if bytes_eq kind (codes "apart") then Ok BreakApart else Err Word

-- `show regs` and `show chips`
abbrev pub shown_of : List ℕ → Result Command DebugCause
shown_of what =
    if bytes_eq what (codes "regs") then Ok ShowRegs else
    if bytes_eq what (codes "chips") then Ok ShowChips else
    Err Word

-- ---- three words

abbrev pub keys_with : Option ℕ → Option ℕ → Result Command DebugCause
keys_with (Some port) (Some byte) = Ok (Keys port byte)
keys_with port byte = Err Number

-- `keys PP HH`
unfoldable pub keys_of : List ℕ → List ℕ → Result Command DebugCause
keys_of port byte = keys_with (byte_of port) (byte_of byte)

-- `break at AAAA`
unfoldable pub break_at : List ℕ → Result Command DebugCause
break_at at = made_of BreakAt (spelled (address_of at))

-- `break romc RR`
unfoldable pub break_romc : List ℕ → Result Command DebugCause
break_romc romc = made_of BreakRomc (within 0 31 (byte_of romc))

-- `break chip S`
unfoldable pub break_chip : List ℕ → Result Command DebugCause
break_chip socket = made_of BreakChip (within 0 15 (number_of socket))

-- `run N`, behind `back`
abbrev pub back_with : List ℕ → List ℕ → Result Command DebugCause
back_with kind count = if bytes_eq kind (codes "run") then back_run count else Err Word

-- a break with a number
abbrev pub break_of : List ℕ → List ℕ → Result Command DebugCause
break_of kind number =
    if bytes_eq kind (codes "at") then break_at number else
    if bytes_eq kind (codes "romc") then break_romc number else
    if bytes_eq kind (codes "chip") then break_chip number else
    Err Word

abbrev pub mem_with : Option ℕ → Option ℕ → Result Command DebugCause
mem_with None count = Err Number
mem_with (Some at) count = made_of (Mem at) (within 1 16 count)

-- `mem AAAA N`
unfoldable pub mem_of : List ℕ → List ℕ → Result Command DebugCause
mem_of at count = mem_with (address_of at) (number_of count)

-- ---- lines

-- one word
abbrev pub alone : List ℕ → Result Command DebugCause
alone name = if bytes_eq name (codes "clear") then Ok Clear else Err Word

-- a name and a word
abbrev pub with_one : List ℕ → List ℕ → Result Command DebugCause
with_one name word =
    if bytes_eq name (codes "power") then power_of word else
    if bytes_eq name (codes "pulse") then pulse_of word else
    if bytes_eq name (codes "step") then step_of word else
    if bytes_eq name (codes "run") then run_of word else
    if bytes_eq name (codes "break") then bare_break word else
    if bytes_eq name (codes "show") then shown_of word else
    if bytes_eq name (codes "back") then back_of word else
    if bytes_eq name (codes "stored") then stored_of word else
    Err Word

-- a name and two words
abbrev pub with_two : List ℕ → List ℕ → List ℕ → Result Command DebugCause
with_two name word other =
    if bytes_eq name (codes "keys") then keys_of word other else
    if bytes_eq name (codes "break") then break_of word other else
    if bytes_eq name (codes "mem") then mem_of word other else
    if bytes_eq name (codes "back") then back_with word other else
    Err Word

-- the words of a line
abbrev pub command_of : List (List ℕ) → Result Command DebugCause
command_of [] = Err Word
command_of (name ∷ []) = alone name
command_of (name ∷ (word ∷ [])) = with_one name word
command_of (name ∷ (word ∷ (other ∷ []))) = with_two name word other
command_of (name ∷ (word ∷ (other ∷ (more ∷ ws)))) = Err Word

-- a line, which says nothing where it is skipped
unfoldable pub line_of : List ℕ → Result (Option Command) DebugCause
line_of line = line_by Word command_of line
