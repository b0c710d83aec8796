-- Where the first fault of a command file is, and what it is. This is a law over the reading, and knows nothing of how it goes.
use Rattle.std.specs.Prelude.{◌≡◌, ℕ, ◌+◌, ◌<◌, ◌≤◌, List, length, Result, Ok, Err}
use Rattle.text_lines.specs.declared.read_error.ReadError.{ReadError}
use Rattle.text_lines.specs.declared.read_error.ReadError.TheVariants as answer
use Rattle.line_words.specs.Drafts.{said_in}
use Rattle.line_words.specs.FirstFault.{HasNoFault, IsFirstFault, TakesMemory}
use Rattle.chip_debug.specs.declared.answers.DebugCause.{DebugCause}
use Rattle.chip_debug.specs.declared.answers.DebugCause.TheVariants.{Total}
use Rattle.chip_debug.specs.declared.command.Command.{Command}
use Rattle.chip_debug.specs.Answers.{DebugFault}
use Rattle.chip_debug.specs.Commands.{line_of}
use Rattle.chip_debug.specs.Limits.{count_of, total_of, most_instructions}
use Rattle.chip_debug.specs.Reading.{commands}

-- commands ask for so many instructions at most
abbrev pub AreFew : List Command → Type 0
AreFew said = total_of said ≤ most_instructions

-- with the instructions that the commands before it ask for, a command asks for too many
abbrev pub IsTooMuch : List Command → Command → DebugCause → Type 0
IsTooMuch before command cause = (most_instructions < total_of before + count_of command) × (cause ≡ Total)

-- a line with a command takes memory, and no other
abbrev pub HasCommand : List ℕ → Type 0
HasCommand line = 0 < length (said_in (line_of line))

-- An answer has what all lines say, or tells the first fault. Memory is wanting only where a line takes it.
abbrev pub TellsLines : Result (List Command) (ReadError DebugFault) → List (List ℕ) → Type 0
TellsLines (Ok said) ls = HasNoFault line_of AreFew ls × (said ≡ commands ls)
TellsLines (Err (answer.Fault fault)) ls = IsFirstFault line_of AreFew IsTooMuch ls fault
TellsLines (Err answer.Memory) ls = TakesMemory line_of AreFew HasCommand ls
