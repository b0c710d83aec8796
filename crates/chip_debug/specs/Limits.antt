-- In what ranges the numbers of commands lie, and how many instructions they ask for (this project's own).
use Rattle.std.specs.Prelude.{ℕ, ◌<◌, ◌≤◌, List, sum_by}
use Rattle.std.specs.List.{AllByRecursion}
use Rattle.chip_debug.specs.declared.command.Command.{Command}
use Rattle.chip_debug.specs.declared.command.Command.TheVariants.{Power, Keys, Pulse, Step, Run, BreakAt, BreakRomc}
use Rattle.chip_debug.specs.declared.command.Command.TheVariants.{BreakChip, BreakApart, Clear, ShowRegs, ShowChips, Mem}
use Rattle.chip_debug.specs.declared.command.Command.TheVariants.{Back, BackRun, Stored}

-- the numbers of a command are in range
abbrev pub IsCommand : Command → Type 0
IsCommand (Power fill) = Unit {0}
IsCommand (Keys port byte) = Unit {0}
IsCommand (Pulse chip) = chip ≤ 15
IsCommand (Step count) = count ≤ 1000000
IsCommand (Run count) = count ≤ 1000000
IsCommand (BreakAt at) = Unit {0}
IsCommand (BreakRomc romc) = romc < 32
IsCommand (BreakChip socket) = socket ≤ 15
IsCommand BreakApart = Unit {0}
IsCommand Clear = Unit {0}
IsCommand ShowRegs = Unit {0}
IsCommand ShowChips = Unit {0}
IsCommand (Mem at count) = (1 ≤ count) × (count ≤ 16)
IsCommand (Back count) = (1 ≤ count) × (count ≤ 1000000)
IsCommand (BackRun count) = (1 ≤ count) × (count ≤ 1000000)
IsCommand (Stored at) = Unit {0}

abbrev pub AreCommands : List Command → Type 0
AreCommands commands = AllByRecursion IsCommand commands

-- the instructions that a command asks for, ahead or back; the bytes of `mem` are none
abbrev pub count_of : Command → ℕ
count_of (Power fill) = 0
count_of (Keys port byte) = 0
count_of (Pulse chip) = 0
count_of (Step count) = count
count_of (Run count) = count
count_of (BreakAt at) = 0
count_of (BreakRomc romc) = 0
count_of (BreakChip socket) = 0
count_of BreakApart = 0
count_of Clear = 0
count_of ShowRegs = 0
count_of ShowChips = 0
count_of (Mem at count) = 0
count_of (Back count) = count
count_of (BackRun count) = count
count_of (Stored at) = 0

-- and all of some commands
abbrev pub total_of : List Command → ℕ
total_of commands = sum_by count_of commands

-- the most that a file may ask for
abbrev pub most_instructions : ℕ
most_instructions = 10000000

-- a key byte and a pulse are kept, to be done again, and take room for it
abbrev pub room_of : Command → ℕ
room_of (Power fill) = 0
room_of (Keys port byte) = 1
room_of (Pulse chip) = 1
room_of (Step count) = 0
room_of (Run count) = 0
room_of (BreakAt at) = 0
room_of (BreakRomc romc) = 0
room_of (BreakChip socket) = 0
room_of BreakApart = 0
room_of Clear = 0
room_of ShowRegs = 0
room_of ShowChips = 0
room_of (Mem at count) = 0
room_of (Back count) = 0
room_of (BackRun count) = 0
room_of (Stored at) = 0

-- the room for all of some commands
abbrev pub rooms_of : List Command → ℕ
rooms_of commands = sum_by room_of commands
