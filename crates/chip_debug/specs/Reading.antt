-- The commands of a text, or its first fault.
use Rattle.std.specs.Prelude.{ℕ, ◌+◌, nat_le, if◌then◌else◌, List, [], ◌∷◌, ◌++◌, Result, Ok, Err}
use Rattle.text_lines.specs.Lines.{lines}
use Rattle.line_words.specs.Drafts.{after_lines, draft_by, statements_by}
use Rattle.chip_debug.specs.declared.answers.DebugCause.{DebugCause}
use Rattle.chip_debug.specs.declared.answers.DebugCause.TheVariants.{Total}
use Rattle.chip_debug.specs.declared.command.Command.{Command}
use Rattle.chip_debug.specs.Answers.{DebugFault}
use Rattle.chip_debug.specs.Commands.{line_of}
use Rattle.chip_debug.specs.Limits.{count_of, total_of, most_instructions}

-- what lines say, in their order
abbrev pub commands : List (List ℕ) → List Command
commands ls = statements_by line_of ls

-- one command more, unless the file then asks for too many instructions
abbrev pub said_with : List Command → Command → Result (List Command) DebugCause
said_with said command =
    if nat_le (total_of said + count_of command) most_instructions then Ok (said ++ command ∷ []) else Err Total

unfoldable pub read_line : List Command → List ℕ → Result (List Command) DebugCause
read_line said line = draft_by said_with said (line_of line)

-- the commands of lines, or their first fault
abbrev pub commands_by : List (List ℕ) → Result (List Command) DebugFault
commands_by ls = after_lines read_line 1 [] ls

-- and those of a text
abbrev pub commands_of : List ℕ → Result (List Command) DebugFault
commands_of text = commands_by (lines text)
